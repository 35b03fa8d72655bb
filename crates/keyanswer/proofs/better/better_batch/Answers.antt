use Rattle.std.proofs.Common.{◌≡◌, Ok, Result, sym, ap, ◌∙◌, arith}
use Rattle.refusals.specs.Answer.{answer_of}
use Rattle.keyfile.specs.declared.refusal.FileRefusal.{FileRefusal}
use Rattle.keyfile.specs.Reading.{viewed}
use Rattle.keyfile.specs.Refusal.{file_told}
use Rattle.keyinput.specs.declared.batch.Batch.{Batch}
use Rattle.keyinput.specs.Batch.{batch_of}
use Rattle.keyanswer.proofs.OnRoom.{verdict_enough}
use Rattle.keyanswer.proofs.better.better_batch.Goals as goal

pub returns-clause-enough : goal.returns-clause-enough
returns-clause-enough c =
    let first = c.in_ok-first.first in
    let second = c.in_ok-second.second in
    let taken : c.read_batch.result ≡ Ok first = grind (arith) in
    let also_taken : c.read_batch-2.result ≡ Ok second = grind (arith) in
    let told : Result Batch FileRefusal → _ = λ r. answer_of file_told (viewed batch_of r) in
    verdict_enough first second c.args.first.now c.args.second.now
    (ap told (sym taken) ∙ c.read_batch.ensures.answer) (ap told (sym also_taken) ∙ c.read_batch-2.ensures.answer)
    c.args.cells.now c.args.first_points.now c.args.second_points.now
