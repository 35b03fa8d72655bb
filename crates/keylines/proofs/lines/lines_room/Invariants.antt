use Rattle.std.proofs.Common.{◌≡◌, drop}
use Rattle.std.specs.List.{flat_map}
use Rattle.texts.specs.Room.{room_behind}
use Rattle.keylines.proofs.lines.lines_room.Given as goal

abbrev pub invariant-loop-line : goal.invariant-loop-line
invariant-loop-line g l =
    room_behind (flat_map g.L.Line.line (drop l.line-index l.lines)) l.left
    ≡ room_behind (flat_map g.L.Line.line l.lines) l.room
