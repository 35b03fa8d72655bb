use Rattle.std.proofs.Common.{◌≡◌, take}
use Rattle.tariffs.specs.Card.{lines_of}
use Rattle.worked.specs.Samples.{lines_A}
use Rattle.worked.proofs.samples.card_a.Given as goal

abbrev pub invariant-loop-speed : goal.invariant-loop-speed
invariant-loop-speed l = lines_of l.card ≡ take l.speed-index lines_A
