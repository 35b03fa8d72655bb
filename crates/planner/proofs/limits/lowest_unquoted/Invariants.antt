use Rattle.sheets.specs.Book.{book}
use Rattle.tariffs.proofs.Firsts.{Sought}
use Rattle.model.specs.Limit.{unquoted}
use Rattle.planner.proofs.limits.lowest_unquoted.Given as goal

abbrev pub invariant-loop-number : goal.invariant-loop-number
invariant-loop-number g l = Sought (unquoted (g.T.Tariff.meaning l.timed.priced.tariff.now)) (book l.timed.priced.sheet.now).tasks l.number
