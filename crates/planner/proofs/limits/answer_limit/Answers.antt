use Rattle.std.proofs.Common.{◌≡◌, [], Some, None, Err, Result, sym, ap, ◌∙◌, rules, tests}
use Rattle.refusals.specs.Answer.{Answer, answer_of}
use Rattle.sheets.specs.Book.{book}
use Rattle.model.specs.declared.point.Point.{Point}
use Rattle.model.specs.Assignment.{standing}
use Rattle.cells.specs.Layout.{layout_of}
use Rattle.model.specs.Limit.{lowest_unquoted, or_none_within}
use Rattle.model.specs.Question.{few_cells, short_plan, limit_bytes}
use Rattle.planner.specs.declared.refusal.QuestionRefusal.{QuestionRefusal}
use Rattle.planner.specs.declared.refusal.QuestionRefusal.TheVariants.{NoneWithin}
use Rattle.planner.specs.Limit.{within_limit}
use Rattle.planner.specs.Refusal.{question_told}
use Rattle.cells.proofs.Laws.{laws_of}
use Rattle.planner.proofs.FirstRow.{enough_from_filled, cells_filled}
use Rattle.planner.proofs.WithinLimit.{filled_hold, row_tells, let_through, limit_let_through, cells_let_through}
use Rattle.planner.proofs.limits.answer_limit.Goals as goal

pub write_plan-requires-clause-filled : goal.write_plan-requires-clause-filled
write_plan-requires-clause-filled g c =
    let K = g.T.Cost.Cost.kind in
    let T = g.T.Tariff.meaning c.args.timed.now.priced.tariff.now in
    let b = book c.args.timed.now.priced.sheet.now in
    let cells = c.args.cells.now in
    let done = enough_from_filled (few_cells T b cells) (layout_of T b) c.in_ok-layout.layout c.in_ok-layout.ensures.answer in
    filled_hold K T b cells c.fill.new.cells c.in_ok-layout.layout done.0 c.in_ok-layout.ensures.after done.1

pub returns : goal.returns
returns g c =
    let K = g.T.Cost.Cost.kind in
    let T = g.T.Tariff.meaning c.args.timed.now.priced.tariff.now in
    let b = book c.args.timed.now.priced.sheet.now in
    let cells = c.args.cells.now in
    let bytes = c.args.bytes.now in
    let limit = c.args.limit in
    let passed = let_through (few_cells T b cells) (short_plan T b bytes) (lowest_unquoted T b) c.in_ok-check.ensures in
    let done = enough_from_filled (few_cells T b cells) (layout_of T b) c.in_ok-layout.layout c.in_ok-layout.ensures.answer in
    let held = filled_hold K T b cells c.fill.new.cells c.in_ok-layout.layout done.0 c.in_ok-layout.ensures.after done.1 in
    let found : c.find.result ≡ Some c.in_ok-point.point = search (rules, tests) in
    let some : within_limit K T (standing b) limit ≡ Some c.in_ok-point.point = sym (row_tells (laws_of g.met.T.Cost.Cost) T (g.T.Tariff.ranged c.args.timed.now.priced.tariff.now) b c.fill.new.cells c.in_ok-layout.layout held limit) ∙ sym c.find.ensures.value ∙ found in
    let answered = limit_let_through K T b cells bytes limit passed.0 passed.1 passed.2 ∙ ap or_none_within some in
    record {
      answer = sym answered;
      cells = c.in_ok-layout.ensures.after ∙ cells_filled K T b cells [] passed.0 ∙ sym (cells_let_through K T b cells bytes limit passed.0 passed.1 passed.2);
      bytes = c.write_plan.ensures ∙ sym (ap (λ (a : Answer (Point g.row.T-Cost.Denot)). limit_bytes K T b a bytes) answered);
    }

pub returns-in_err-point : goal.returns-in_err-point
returns-in_err-point g c =
    let K = g.T.Cost.Cost.kind in
    let T = g.T.Tariff.meaning c.args.timed.now.priced.tariff.now in
    let b = book c.args.timed.now.priced.sheet.now in
    let cells = c.args.cells.now in
    let bytes = c.args.bytes.now in
    let limit = c.args.limit in
    let passed = let_through (few_cells T b cells) (short_plan T b bytes) (lowest_unquoted T b) c.in_ok-check.ensures in
    let done = enough_from_filled (few_cells T b cells) (layout_of T b) c.in_ok-layout.layout c.in_ok-layout.ensures.answer in
    let held = filled_hold K T b cells c.fill.new.cells c.in_ok-layout.layout done.0 c.in_ok-layout.ensures.after done.1 in
    let found : c.find.result ≡ None = search (rules, tests) in
    let refused : c.from_residual-in_err-point.result ≡ Err NoneWithin = search (rules, tests) in
    let none : within_limit K T (standing b) limit ≡ None = sym (row_tells (laws_of g.met.T.Cost.Cost) T (g.T.Tariff.ranged c.args.timed.now.priced.tariff.now) b c.fill.new.cells c.in_ok-layout.layout held limit) ∙ sym c.find.ensures.value ∙ found in
    let answered = limit_let_through K T b cells bytes limit passed.0 passed.1 passed.2 ∙ ap or_none_within none in
    record {
      answer = ap (λ (r : Result (Point g.row.T-Cost.Denot) QuestionRefusal). answer_of question_told r) refused ∙ sym answered;
      cells = c.in_ok-layout.ensures.after ∙ cells_filled K T b cells [] passed.0 ∙ sym (cells_let_through K T b cells bytes limit passed.0 passed.1 passed.2);
      bytes = sym (ap (λ (a : Answer (Point g.row.T-Cost.Denot)). limit_bytes K T b a bytes) answered);
    }
