use Rattle.std.proofs.Common.{◌≡◌, ℕ, ◌<◌, true, [], drop, get_or}
use Rattle.sheets.specs.Book.{book}
use Rattle.model.specs.Assignment.{quote_of, minutes_of}
use Rattle.cells.specs.Minutes.{task_at}
use Rattle.cells.proofs.timed.TimedSheet.of.Given as goal

abbrev pub invariant-loop-number : goal.invariant-loop-number
invariant-loop-number g l =
    record {
      held : (number machine : ℕ) → number < l.number → (task_at (book l.priced.sheet.now).tasks number).struck ≡ true → get_or (get_or l.table.rows number []) machine 0 ≡ minutes_of (quote_of (g.T.Tariff.meaning l.priced.tariff.now) (task_at (book l.priced.sheet.now).tasks number) machine);
      behind : drop l.number l.table.rows ≡ drop l.number l.fn.table.rows;
    }
