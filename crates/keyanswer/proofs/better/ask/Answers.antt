use Rattle.std.proofs.Common.{◌≡◌, ◌∙◌, rules}
use Rattle.refusals.specs.Answer.{answer_of}
use Rattle.planner.specs.Refusal.{question_told}
use Rattle.keyinput.specs.Batch.{batch_of}
use Rattle.keyanswer.specs.Better.{offers_answered}
use Rattle.keyanswer.proofs.OnRoom.{enough_answered}
use Rattle.keyanswer.proofs.better.ask.Goals as goal

pub returns-clause-enough : goal.returns-clause-enough
returns-clause-enough c =
    let first = c.args.first.now in
    let second = c.args.second.now in
    let cells = c.args.cells.now in
    let first_points = c.args.first_points.now in
    let second_points = c.args.second_points.now in
    let answer : answer_of question_told c.better_bargain.result ≡ offers_answered cells first_points second_points (batch_of first) (batch_of second) = search rules in
    λ roomy. answer ∙ enough_answered first second cells first_points second_points roomy
