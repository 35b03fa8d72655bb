use Rattle.std.proofs.Common.{◌≡◌, ◌+◌, length, drop}
use Rattle.texts.specs.Line.{line}
use Rattle.texts.proofs.line.line_room.Given as goal

abbrev pub invariant-loop-word : goal.invariant-loop-word
invariant-loop-word l = l.left + length (line l.words) ≡ l.room + length (line (drop l.word-index l.words))
