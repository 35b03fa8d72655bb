use Rattle.sheets.specs.Book.{book}
use Rattle.planner.proofs.PlanBytes.{WrittenBefore}
use Rattle.planner.proofs.plan.write_plan.Given as goal

abbrev pub invariant-loop-number : goal.invariant-loop-number
invariant-loop-number g l = WrittenBefore g.T.Cost.Cost.kind (g.T.Tariff.meaning l.timed.priced.tariff.now) (book l.timed.priced.sheet.now) l.point l.initial.bytes l.number l.bytes
