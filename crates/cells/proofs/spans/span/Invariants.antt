use Rattle.std.proofs.Common.{◌≡◌, take}
use Rattle.sheets.specs.Book.{book}
use Rattle.model.specs.Assignment.{standing}
use Rattle.model.specs.Cell.{span}
use Rattle.cells.proofs.spans.span.Given as goal

abbrev pub invariant-loop-stage : goal.invariant-loop-stage
invariant-loop-stage g l = l.span ≡ span (g.T.Tariff.meaning l.timed.priced.tariff.now) (take l.stage (standing (book l.timed.priced.sheet.now)))
