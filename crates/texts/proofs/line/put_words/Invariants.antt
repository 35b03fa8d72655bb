use Rattle.texts.proofs.Lines.{Begun}
use Rattle.texts.proofs.line.put_words.Given as goal

abbrev pub invariant-loop-place : goal.invariant-loop-place
invariant-loop-place l = Begun l.words l.initial.memory l.memory l.place l.end
