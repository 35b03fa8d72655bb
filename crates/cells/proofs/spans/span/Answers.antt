use Rattle.std.proofs.Common.{◌≡◌, take, sym, ap, ◌∙◌, arith}
use Rattle.std.proofs.lemmas.List.{take_all, length-take}
use Rattle.sheets.specs.Book.{book}
use Rattle.model.specs.Assignment.{stage_tasks, standing}
use Rattle.model.specs.Cell.{span}
use Rattle.model.proofs.Loops.{span_more, span_bound, greatest_time_bound, stage_count}
use Rattle.cells.proofs.spans.span.Goals as goal

pub overflow_add-span : goal.overflow_add-span
overflow_add-span g c =
    let T = g.T.Tariff.meaning c.args.timed.now.priced.tariff.now in
    let F = g.T.Tariff.ranged c.args.timed.now.priced.tariff.now in
    let stages = standing (book c.args.timed.now.priced.sheet.now) in
    omega (arith, c.loop-stage.invariant, span_bound T F (take c.loop-stage.stage stages), length-take c.loop-stage.stage stages, c.greatest_time-span.ensures, greatest_time_bound T F (stage_tasks (book c.args.timed.now.priced.sheet.now).tasks c.loop-stage.stage))

pub loop-stage-preserved : goal.loop-stage-preserved
loop-stage-preserved g c =
    let T = g.T.Tariff.meaning c.args.timed.now.priced.tariff.now in
    let more = span_more T (book c.args.timed.now.priced.sheet.now) c.loop-stage.stage (omega arith) in
    sym (more ∙ (cc))

pub returns : goal.returns
returns g c =
    let T = g.T.Tariff.meaning c.args.timed.now.priced.tariff.now in
    let F = g.T.Tariff.ranged c.args.timed.now.priced.tariff.now in
    let stages = standing (book c.args.timed.now.priced.sheet.now) in
    let count = stage_count (book c.args.timed.now.priced.sheet.now) in
    let value : c.loop-stage.span ≡ span T stages = c.loop-stage.invariant ∙ ap (span T) (take_all c.loop-stage.stage stages (omega arith)) in
    record { value = value; few = omega (arith, span_bound T F stages) }
