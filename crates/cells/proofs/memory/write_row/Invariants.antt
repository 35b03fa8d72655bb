use Rattle.cells.specs.Memory.{up_to, cell_at, RowWritten}
use Rattle.cells.proofs.memory.write_row.Given as goal

abbrev pub invariant-loop-minutes : goal.invariant-loop-minutes
invariant-loop-minutes g l =
    let K = g.C.Cost.kind in
    RowWritten K l.layout l.stage (up_to l.minutes (up_to l.start (cell_at K l.layout l.initial.cells l.stage) (λ _. l.cell)) (cell_at K l.layout l.initial.cells l.stage)) l.initial.cells l.cells
