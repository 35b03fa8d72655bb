use Rattle.std.proofs.Common.{◌≡◌, ◌+◌}
use Rattle.sheets.specs.Book.{book}
use Rattle.model.specs.Assignment.{stage_tasks}
use Rattle.model.specs.Allowance.{cost_until}
use Rattle.cells.specs.Memory.{cell_at, up_to, RowWritten, row_costs, stage_row}
use Rattle.cells.proofs.filling.fill_stage.Given as goal

abbrev pub invariant-loop-allowance : goal.invariant-loop-allowance
invariant-loop-allowance g l =
    let K = g.T.Cost.Cost.kind in
    let T = g.T.Tariff.meaning l.timed.priced.tariff.now in
    let tasks = stage_tasks (book l.timed.priced.sheet.now).tasks l.stage in
    let begun = cell_at K l.layout l.initial.cells l.stage in
    (l.before ≡ cost_until K T tasks l.allowance)
    × RowWritten K l.layout l.stage (up_to l.end (stage_row K T tasks (row_costs K l.layout l.initial.cells (l.stage + 1)) l.allowance) begun) l.initial.cells l.cells
