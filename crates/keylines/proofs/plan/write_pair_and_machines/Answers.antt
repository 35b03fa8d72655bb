use Rattle.std.proofs.Common.{◌≡◌, ◌++◌, Ok, Some, true, is_some, length, rules, ap, ◌∙◌}
use Rattle.std.specs.List.{flat_map}
use Rattle.texts.specs.Room.{room_behind}
use Rattle.texts.proofs.Pieces.{puts_then, puts_written, written_puts}
use Rattle.texts.proofs.Rooms.{room_enough, room_then}
use Rattle.keylines.specs.Machine.{machine_line}
use Rattle.keylines.specs.Point.{point_line}
use Rattle.keylines.proofs.plan.write_pair_and_machines.Goals as goal

pub returns : goal.returns
returns g c =
    let was = c.args.memory.now in
    let line = point_line g.C.WrittenCost.text c.args.point.now in
    let lines = flat_map machine_line c.args.machines.now in
    let left : room_behind line (length was) ≡ Some c.in_ok-left.left = search rules in
    let enough : is_some (room_behind lines c.in_ok-left.left) ≡ true = search rules in
    let fits = room_enough (line ++ lines) (length was) (ap is_some (room_then line lines (length was) c.in_ok-left.left left) ∙ enough) in
    let first = written_puts line was c.write.new.memory (Ok c.in_ok-end.end) c.in_ok-end.ensures.answer c.in_ok-end.ensures.after in
    let put = puts_then _ _ _ line lines 0 _ c.put_lines.result first c.put_lines.ensures in
    let written = puts_written (line ++ lines) was _ c.put_lines.result fits put in
    record { answer = written.0; after = written.1 }
