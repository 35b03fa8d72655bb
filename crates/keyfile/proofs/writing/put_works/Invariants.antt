use Rattle.std.proofs.Common.{drop}
use Rattle.std.specs.List.{flat_map}
use Rattle.numbers.specs.Number.{spelled}
use Rattle.sheets.specs.Book.{book}
use Rattle.keyfile.specs.Works.{stage_works}
use Rattle.texts.proofs.Pieces.{Begun}
use Rattle.keyfile.proofs.writing.put_works.Given as goal

abbrev pub invariant-loop-task : goal.invariant-loop-task
invariant-loop-task l =
    Begun l.initial.memory l.at (flat_map spelled (stage_works (book l.sheet).tasks l.stage)) l.memory l.end
    (flat_map spelled (stage_works (drop l.task-index l.task-items) l.stage))
