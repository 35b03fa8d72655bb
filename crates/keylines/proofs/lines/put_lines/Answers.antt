use Rattle.std.proofs.Common.{◌≡◌, ◌+◌, ◌-◌, ◌<◌, length, take, drop, Ok, Err, arith}
use Rattle.std.proofs.lemmas.List.{length-take, length-drop}
use Rattle.std.proofs.lemmas.Result.{err_from_is_err_and}
use Rattle.texts.proofs.Pieces.{begun_more, begun_short, written_puts}
use Rattle.texts.proofs.Puts.{part_put, put_within}
use Rattle.keylines.proofs.Joins.{joined_next}
use Rattle.keylines.proofs.lines.put_lines.Goals as goal

pub returns-in_err-end : goal.returns-in_err-end
returns-in_err-end g c =
    let memory = c.loop-line.memory in
    let end = c.loop-line.end in
    let text = g.L.Line.line c.line-item.result in
    let p = err_from_is_err_and c.from_residual.result c.from_residual.ensures.1 in
    let next = joined_next g.L.Line.line c.args.lines.now c.loop-line.line-index c.line-item.result c.loop-line-test.true c.line-item.is in
    let long : length (take (length memory - end) (drop end memory)) ≡ length memory - end = simp (length-take, length-drop) (omega arith) in
    let short : length (take (length memory - end) (drop end memory)) < 0 + length text = written_puts text _ c.write.new.memory (Err c.in_err-end.field-0.0) c.in_err-end.ensures.answer c.in_err-end.ensures.after in
    rw p.1 (begun_short _ _ _ _ _ _ c.loop-line.invariant.0 text _ next (omega (arith, c.loop-line.invariant.1)))

pub loop-line-preserved : goal.loop-line-preserved
loop-line-preserved g c =
    let len = c.in_ok-end.field-0 in
    let text = g.L.Line.line c.line-item.result in
    let next = joined_next g.L.Line.line c.args.lines.now c.loop-line.line-index c.line-item.result c.loop-line-test.true c.line-item.is in
    let put = part_put c.loop-line.memory text c.write.new.memory c.loop-line.end len c.loop-line.invariant.1 (written_puts text _ c.write.new.memory (Ok len) c.in_ok-end.ensures.answer c.in_ok-end.ensures.after) in
    (begun_more _ _ _ _ _ _ c.loop-line.invariant.0 text _ _ _ next put, put_within _ _ _ _ _ c.loop-line.invariant.1 put)
