use Rattle.std.proofs.Common.{◌<◌, Bool, true, false, List, length, get_or, ap, ◌∙◌, arith}
use Rattle.std.proofs.lemmas.List.{length-set}
use Rattle.sheets.specs.Book.{book}
use Rattle.model.proofs.Loops.{minutes_bound}
use Rattle.cells.specs.Minutes.{task_at}
use Rattle.cells.proofs.Marks.{mark_timed, mark_untimed}
use Rattle.cells.proofs.times.mark.Goals as goal
use Rattle.cells.proofs.times.mark.Goals.{then-minutes-gt0, else-minutes-gt0}

pub loop-machine-preserved : goal.loop-machine-preserved
loop-machine-preserved g c m l =
    let T = g.T.Tariff.meaning c.args.timed.now.priced.tariff.now in
    let F = g.T.Tariff.ranged c.args.timed.now.priced.tariff.now in
    let task = task_at (book c.args.timed.now.priced.sheet.now).tasks c.args.number in
    let machine = c.loop-machine.machine in
    let minutes = c.minutes-minutes.result in
    elim c.if-minutes-gt0.branch [
      | then-minutes-gt0 w ↦
          let inside : minutes < length c.loop-machine.times =
          omega (arith, minutes_bound T F task machine, c.minutes-minutes.ensures, ap length w.times-is, length-set c.loop-machine.times minutes true, c.if-minutes-gt0.array_long) in
          ap (λ (marks : List Bool). get_or marks m false) w.times-is ∙ mark_timed T task c.args.times.now c.loop-machine.times machine m (c.loop-machine.invariant m l) minutes c.minutes-minutes.ensures w.if-minutes-gt0.true inside
      | else-minutes-gt0 w ↦
          ap (λ (marks : List Bool). get_or marks m false) w.times-is ∙ mark_untimed T task c.args.times.now c.loop-machine.times machine m (c.loop-machine.invariant m l) F (omega (arith, c.minutes-minutes.ensures, w.if-minutes-gt0.false))
    ]
