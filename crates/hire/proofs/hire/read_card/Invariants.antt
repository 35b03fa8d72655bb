use Rattle.tariffs.specs.Card.{lines_of}
use Rattle.hire.proofs.Reading.{Reading}
use Rattle.hire.proofs.hire.read_card.Given as goal

abbrev pub invariant-loop-machine : goal.invariant-loop-machine
invariant-loop-machine l = Reading l.terms (lines_of l.card) l.machine-counter
