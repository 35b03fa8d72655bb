-- A card in a file: the line count, then the speed and rate of each line
use Rattle.std.specs.Prelude.{List, []}
use Rattle.numbers.specs.Input.{Input, Reading, then}
use Rattle.numbers.specs.Number.{number_in}
use Rattle.tariffs.specs.Card.{add_answer, lines_after}
use Rattle.tariffs.specs.declared.line.Line.{Line}
use Rattle.keyfile.specs.Reading.{called, repeated}

-- both numbers are read before the line is added; a refused line is told with the place of its speed
abbrev pub line_in : List Line → Input → Reading (List Line)
line_in lines input =
    then (number_in input) (λ speed behind.
    then (number_in behind) (λ rate left.
    called (add_answer lines speed rate) (lines_after lines speed rate) input.place left))

abbrev pub card_in : Input → Reading (List Line)
card_in input = then (number_in input) (λ count. repeated count line_in [])
