use Rattle.sheets.specs.Book.{book}
use Rattle.keyfile.specs.Works.{works_by_stage, spelled_sheet}
use Rattle.texts.proofs.Pieces.{Begun}
use Rattle.keyfile.proofs.OnWorks.{stages_left}
use Rattle.keyfile.proofs.writing.put_sheet.Given as goal

abbrev pub invariant-loop-stage : goal.invariant-loop-stage
invariant-loop-stage l =
    Begun l.fn.memory 0 (spelled_sheet (works_by_stage (book l.sheet))) l.memory l.end
    (stages_left (book l.sheet).tasks l.stage l.stages)
