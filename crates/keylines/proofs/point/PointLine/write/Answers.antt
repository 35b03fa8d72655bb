use Rattle.std.proofs.Common.{◌+◌, ◌≤◌, [], ◌∷◌, ◌++◌, Ok, length, decimal, set, rules, arith}
use Rattle.texts.specs.Put.{Put}
use Rattle.texts.proofs.Puts.{put_one, part_put, put_then, put_answer, put_after}
use Rattle.texts.proofs.Pieces.{written_puts}
use Rattle.keylines.specs.Point.{point_line}
use Rattle.keylines.proofs.Pairs.{length_point_line}
use Rattle.keylines.proofs.point.PointLine.write.Goals as goal

pub returns : goal.returns
returns g c =
    let was = c.args.memory.now in
    let minutes = decimal c.args.self.now.length in
    let text = g.C.WrittenCost.text c.args.self.now.cost in
    let fits : length (point_line g.C.WrittenCost.text c.args.self.now) ≤ length was = search rules in
    let long = length_point_line g.C.WrittenCost.text c.args.self.now in
    let end = c.in_ok-length_end.length_end in
    let first : Put was 0 minutes c.write_number.new.memory end = written_puts minutes was _ (Ok end) c.in_ok-length_end.ensures.answer c.in_ok-length_end.ensures.after in
    let space = put_one c.write_number.new.memory end 32 (omega (arith, first.ends, first.long)) in
    let cost = part_put (set c.write_number.new.memory end 32) text c.write.new.memory (end + 1) c.in_ok-cost_end.field-0 (omega (arith, first.ends, first.long, space.long)) (written_puts text _ c.write.new.memory (Ok c.in_ok-cost_end.field-0) c.in_ok-cost_end.ensures.answer c.in_ok-cost_end.ensures.after) in
    let last = put_one _ (end + 1 + c.in_ok-cost_end.field-0) 10 (omega (arith, first.ends, first.long, space.long, cost.ends, cost.long)) in
    let put = put_then _ _ _ minutes (32 ∷ (text ++ (10 ∷ []))) _ _ _ first (put_then _ _ _ (32 ∷ []) (text ++ (10 ∷ [])) _ _ _ space (put_then _ _ _ text (10 ∷ []) _ _ _ cost last)) in
    record { answer = put_answer _ _ _ _ fits put; after = put_after _ _ _ _ fits put }
