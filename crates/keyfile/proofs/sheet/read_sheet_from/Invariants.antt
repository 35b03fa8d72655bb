use Rattle.std.proofs.Common.{◌≡◌, ◌-◌}
use Rattle.numbers.specs.Reader.{input_of}
use Rattle.sheets.specs.Book.{book}
use Rattle.keyfile.specs.Reading.{repeated}
use Rattle.keyfile.specs.Sheet.{stage_in}
use Rattle.keyfile.proofs.sheet.read_sheet_from.Given as goal

-- what is still to be repeated gives what the whole does
abbrev pub invariant-loop : goal.invariant-loop
invariant-loop l =
    repeated (l.count - l.counter) stage_in (book l.opened) (input_of l.ahead)
    ≡ repeated l.count stage_in (book l.initial.opened) (input_of l.initial.ahead)
