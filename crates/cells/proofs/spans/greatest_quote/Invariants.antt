use Rattle.std.proofs.Common.{◌≡◌}
use Rattle.model.specs.Allowance.{greatest_time_below}
use Rattle.sheets.specs.Book.{book}
use Rattle.cells.specs.Minutes.{task_at}
use Rattle.cells.proofs.spans.greatest_quote.Given as goal

abbrev pub invariant-loop-machine : goal.invariant-loop-machine
invariant-loop-machine g l = l.greatest ≡ greatest_time_below (g.T.Tariff.meaning l.timed.priced.tariff.now) (task_at (book l.timed.priced.sheet.now).tasks l.number) l.machine
