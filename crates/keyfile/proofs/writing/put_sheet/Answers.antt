use Rattle.std.proofs.Common.{◌++◌, length, sym, refl, ap, ◌∙◌, arith}
use Rattle.std.specs.List.{flat_map}
use Rattle.std.proofs.lemmas.List.FromFn.{length-map-range_with_len}
use Rattle.std.proofs.lemmas.Result.{err_from_is_err_and}
use Rattle.numbers.specs.Number.{spelled}
use Rattle.sheets.specs.Book.{book}
use Rattle.keyfile.specs.Works.{stage_works, works_by_stage, spelled_stage}
use Rattle.texts.proofs.Pieces.{first_short, begun_none, begun_more}
use Rattle.keyfile.proofs.OnWorks.{sheet_spelled, stages_more, stages_none}
use Rattle.keyfile.proofs.writing.put_sheet.Goals as goal

pub returns-in_err-end : goal.returns-in_err-end
returns-in_err-end c =
    let p = err_from_is_err_and c.from_residual.result c.from_residual.ensures.1 in
    let held = book c.args.sheet.now in
    let stages = works_by_stage held in
    let count = ap (λ n. length (spelled n)) (c.stage_count-stages.ensures.value ∙ sym (length-map-range_with_len (stage_works held.tasks) 0 held.stages)) in
    let short = c.in_err-end.ensures.put in
    rw p.1 (first_short c.args.memory.now (spelled (length stages)) (flat_map spelled_stage stages) 0 (omega arith))

pub loop-stage-init : goal.loop-stage-init
loop-stage-init c =
    let held = book c.args.sheet.now in
    let count = c.stage_count-stages.result in
    let parts = sym (sheet_spelled held count held.tasks c.stage_count-stages.ensures.value refl) ∙ ap (λ left. spelled count ++ left) (sym (stages_none held.tasks count)) in
    begun_more _ _ _ _ _ _ (begun_none _ _ _) _ _ _ _ parts c.in_ok-end.ensures.put

pub loop-stage-preserved : goal.loop-stage-preserved
loop-stage-preserved c =
    let more = stages_more (book c.args.sheet.now).tasks c.loop-stage.stage c.stage_count-stages.result c.loop-stage-test.true in
    begun_more _ _ _ _ _ _ c.loop-stage.invariant _ _ _ _ more c.in_ok-end-2.ensures
