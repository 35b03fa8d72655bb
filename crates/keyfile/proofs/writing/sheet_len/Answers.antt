use Rattle.std.proofs.Common.{◌+◌, length, refl, ap, arith, length-append}
use Rattle.sheets.specs.Book.{book}
use Rattle.keyfile.specs.Works.{stage_works, spelled_stage}
use Rattle.keyfile.proofs.OnWorks.{stages_left, stages_more, stages_none, length_sheet_spelled}
use Rattle.keyfile.proofs.writing.sheet_len.Goals as goal

pub loop-stage-init : goal.loop-stage-init
loop-stage-init c =
    let held = book c.args.sheet.now in
    let whole = length_sheet_spelled held c.stage_count-stages.result held.tasks c.stage_count-stages.ensures.value refl in
    let none = ap length (stages_none held.tasks c.stage_count-stages.result) in
    (omega arith, omega arith)

pub loop-stage-preserved : goal.loop-stage-preserved
loop-stage-preserved c =
    let tasks = (book c.args.sheet.now).tasks in
    let stage = c.loop-stage.stage in
    let more = ap length (stages_more tasks stage c.stage_count-stages.result c.loop-stage-test.true) in
    let parts = length-append (spelled_stage (stage_works tasks stage)) (stages_left tasks (stage + 1) c.stage_count-stages.result) in
    (omega arith, omega arith)
