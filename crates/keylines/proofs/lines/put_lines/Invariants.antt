use Rattle.std.proofs.Common.{◌≤◌, length, drop}
use Rattle.std.specs.List.{flat_map}
use Rattle.texts.proofs.Pieces.{Begun}
use Rattle.keylines.proofs.lines.put_lines.Given as goal

abbrev pub invariant-loop-line : goal.invariant-loop-line
invariant-loop-line g l =
    Begun l.initial.memory l.«at» (flat_map g.L.Line.line l.lines) l.memory l.end
    (flat_map g.L.Line.line (drop l.line-index l.lines))
    × (l.end ≤ length l.memory)
