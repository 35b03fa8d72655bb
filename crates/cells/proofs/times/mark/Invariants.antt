use Rattle.std.proofs.Common.{◌≡◌, ℕ, ◌<◌, false, ◌||◌, get_or}
use Rattle.std.specs.List.{range_with_len}
use Rattle.model.specs.Lists.{any}
use Rattle.model.specs.Allowance.{takes}
use Rattle.sheets.specs.Book.{book}
use Rattle.cells.specs.Minutes.{task_at}
use Rattle.cells.proofs.times.mark.Given as goal

abbrev pub invariant-loop-machine : goal.invariant-loop-machine
invariant-loop-machine g l = (m : ℕ) → m < 1441 → get_or l.times m false ≡ (get_or l.initial.times m false || any (takes (g.T.Tariff.meaning l.timed.priced.tariff.now) (task_at (book l.timed.priced.sheet.now).tasks l.number) m) (range_with_len 0 l.machine))
