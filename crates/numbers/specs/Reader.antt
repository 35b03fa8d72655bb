-- The input that a reader has left
use Rattle.numbers.specs.declared.reader.Reader.{Reader}
use Rattle.numbers.specs.Input.{Input, input}

abbrev pub input_of : Reader → Input
input_of reader = input reader.place reader.rest.now
