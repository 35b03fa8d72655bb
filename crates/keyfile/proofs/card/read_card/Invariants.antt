use Rattle.std.proofs.Common.{◌≡◌, ◌-◌}
use Rattle.numbers.specs.Reader.{input_of}
use Rattle.tariffs.specs.Card.{lines_of}
use Rattle.keyfile.specs.Reading.{repeated}
use Rattle.keyfile.specs.Card.{line_in}
use Rattle.keyfile.proofs.card.read_card.Given as goal

-- what is still to be repeated gives what the whole does
abbrev pub invariant-loop : goal.invariant-loop
invariant-loop l =
    repeated (l.count - l.counter) line_in (lines_of l.card) (input_of l.ahead)
    ≡ repeated l.count line_in (lines_of l.initial.card) (input_of l.initial.ahead)
