use Rattle.std.proofs.Common.{◌≡◌, ◌-◌}
use Rattle.numbers.specs.Reader.{input_of}
use Rattle.sheets.specs.Book.{book}
use Rattle.keyfile.specs.Reading.{repeated}
use Rattle.keyfile.specs.Sheet.{task_in}
use Rattle.keyfile.proofs.sheet.read_stage.Given as goal

-- what is still to be repeated gives what the whole does
abbrev pub invariant-loop : goal.invariant-loop
invariant-loop l =
    repeated (l.count - l.counter) (task_in l.stage) (book l.sheet) (input_of l.reader)
    ≡ repeated l.count (task_in l.stage) (book l.initial.sheet) (input_of l.initial.reader)
