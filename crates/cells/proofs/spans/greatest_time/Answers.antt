use Rattle.std.proofs.Common.{sym, ◌∙◌}
use Rattle.sheets.specs.Tasks.{no_task}
use Rattle.model.proofs.Loops.{greatest_time_more}
use Rattle.cells.proofs.spans.greatest_time.Goals as goal
use Rattle.cells.proofs.spans.greatest_time.Goals.{then-stands_in, else-stands_in}

pub loop-number-preserved : goal.loop-number-preserved
loop-number-preserved g c =
    let more = greatest_time_more (g.T.Tariff.meaning c.args.timed.now.priced.tariff.now) c.tasks-task-items.result.now c.args.stage c.loop-number.number no_task c.loop-number-test.true in
    elim c.if-stands_in.branch [
      | then-stands_in w ↦ let stands = w.if-stands_in.ensures in sym (rw (← stands) at more ∙ (cc))
      | else-stands_in w ↦ let stands = w.if-stands_in.ensures in sym (rw (← stands) at more ∙ (cc))
    ]
