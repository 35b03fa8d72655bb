use Rattle.std.proofs.Common.{◌≡◌}
use Rattle.model.specs.Allowance.{cheapest_below}
use Rattle.sheets.specs.Book.{book}
use Rattle.cells.specs.Minutes.{task_at}
use Rattle.cells.proofs.choices.cheapest.Given as goal

abbrev pub invariant-loop-machine : goal.invariant-loop-machine
invariant-loop-machine g l = l.best ≡ cheapest_below g.T.Cost.Cost.kind (g.T.Tariff.meaning l.timed.priced.tariff.now) (task_at (book l.timed.priced.sheet.now).tasks l.number) l.allowance l.machine
