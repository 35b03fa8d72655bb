use Rattle.std.proofs.Common.{◌≡◌, drop}
use Rattle.sheets.specs.Book.{book}
use Rattle.model.specs.Assignment.{standing}
use Rattle.model.specs.Cell.{span}
use Rattle.cells.proofs.Fillings.{FilledFrom}
use Rattle.cells.proofs.filling.fill.Given as goal

abbrev pub invariant-loop-stage : goal.invariant-loop-stage
invariant-loop-stage g l =
    let T = g.T.Tariff.meaning l.timed.priced.tariff.now in
    (l.longest ≡ span T (drop l.stage (standing (book l.timed.priced.sheet.now))))
    × FilledFrom g.T.Cost.Cost.kind T (book l.timed.priced.sheet.now) l.layout l.stage l.initial.cells l.cells
