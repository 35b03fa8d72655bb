use Rattle.std.proofs.Common.{◌≡◌, ℕ, ◌≤◌, List, length, replicate, Result, sym, ap, ◌∙◌, arith}
use Rattle.std.proofs.lemmas.List.{length-replicate}
use Rattle.refusals.specs.Answer.{answer_of}
use Rattle.costs.specs.Cents.{cents, cents_kind}
use Rattle.costs.specs.declared.cents.Cents.{Cents}
use Rattle.tariffs.specs.Card.{lines_of, lines_meaning}
use Rattle.sheets.specs.Book.{book}
use Rattle.texts.specs.Write.{write_answer, write_after}
use Rattle.model.specs.declared.point.Point.{Point}
use Rattle.model.specs.Limit.{budget_result, deadline_result}
use Rattle.model.specs.Question.{budget_answer, budget_bytes}
use Rattle.planner.specs.declared.refusal.QuestionRefusal.{QuestionRefusal}
use Rattle.planner.specs.Refusal.{question_told}
use Rattle.keyanswer.specs.Answer.{text_bytes, answer_lines, limit_text, text_of}
use Rattle.texts.proofs.Fitting.{fits_in}
use Rattle.keyinput.specs.declared.question.Question.TheVariants.{Front}
use Rattle.keyanswer.proofs.Lengths.{answer_length}
use Rattle.keyanswer.proofs.Texts.{limit_written, few_tasks}
use Rattle.keyanswer.proofs.answer.answer_question.Goals as goal
use Rattle.keyanswer.proofs.answer.answer_question.Goals.{in-Budget, in-Deadline}

pub returns : goal.returns
returns c =
    let T = lines_meaning (lines_of c.args.priced.now.tariff.now) in
    let asked = book c.args.priced.now.sheet.now in
    let cells = replicate 4096 c.of-cells.result in
    let enough = length-replicate 4096 c.of-cells.result in
    let plan : List ℕ = replicate 256 0 in
    let few = few_tasks c.args.priced.now.sheet.now in
    let long = length-replicate {A = ℕ} 256 0 in
    let room : length asked.tasks ≤ length plan = omega arith in
    let told : Result (Point Cents) QuestionRefusal → _ = λ r. answer_of question_told r in
    let same : limit_text asked (answer_of question_told c.match-question.answered) c.match-question.plan ≡ text_of (answer_lines T asked c.args.question) =
    elim c.match-question.branch [
      | in-Budget w ↦
          let limit = w.new.ensures ∙ ap cents w.from.ensures in
          limit_written T asked cells plan (budget_result cents_kind T asked (cents w.in-Budget.limit)) _ _
          (ap told w.answered-is ∙ w.budget-answered.ensures.answer ∙ ap (λ cost. budget_answer cents_kind T asked cost cells plan) limit)
          (w.plan-is ∙ w.budget-answered.ensures.bytes ∙ ap (λ cost. budget_bytes cents_kind T asked cost cells plan) limit)
          enough room
          ∙ ap (λ question. text_of (answer_lines T asked question)) (sym w.in-Budget.is)
      | in-Deadline w ↦
          limit_written T asked cells plan (deadline_result cents_kind T asked w.in-Deadline.limit) _ _
          (ap told w.answered-is ∙ w.deadline-answered.ensures.answer)
          (w.plan-is ∙ w.deadline-answered.ensures.bytes)
          enough room
          ∙ ap (λ question. text_of (answer_lines T asked question)) (sym w.in-Deadline.is)
    ] in
    let answer = c.write_limit.ensures.answer ∙ ap (λ text. write_answer text c.args.text.now) same in
    record {
      text = record { answer = answer; after = c.write_limit.ensures.after ∙ ap (λ text. write_after text c.args.text.now) same };
      fits = fits_in text_bytes (text_of (answer_lines T asked c.args.question)) c.args.text.now c.write_limit.result answer (answer_length c.args.priced.now.tariff.now c.args.priced.now.sheet.now c.args.question);
    }

pub returns-in-Front-clause-fits : goal.returns-in-Front-clause-fits
returns-in-Front-clause-fits c =
    let T = lines_meaning (lines_of c.args.priced.now.tariff.now) in
    fits_in text_bytes (text_of (answer_lines T (book c.args.priced.now.sheet.now) Front)) c.args.text.now c.answer_front.result c.answer_front.ensures.answer (answer_length c.args.priced.now.tariff.now c.args.priced.now.sheet.now Front)
