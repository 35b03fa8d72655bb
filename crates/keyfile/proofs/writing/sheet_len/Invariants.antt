use Rattle.std.proofs.Common.{◌≡◌, ◌+◌, ◌*◌, ◌≤◌, length}
use Rattle.sheets.specs.Book.{book}
use Rattle.keyfile.specs.Works.{works_by_stage, spelled_sheet}
use Rattle.keyfile.proofs.OnWorks.{stages_left}
use Rattle.keyfile.proofs.writing.sheet_len.Given as goal

abbrev pub invariant-loop-stage : goal.invariant-loop-stage
invariant-loop-stage l =
    (l.len + length (stages_left (book l.sheet).tasks l.stage l.stages) ≡ length (spelled_sheet (works_by_stage (book l.sheet))))
    × (l.len ≤ 5 + 1285 * l.stage)
