-- A sheet in a file: the stage count, then for each stage its task count and the works of its tasks
use Rattle.std.specs.Prelude.{ℕ, List}
use Rattle.numbers.specs.Input.{Input, input, Reading, then}
use Rattle.numbers.specs.Number.{number_in}
use Rattle.sheets.specs.Book.{Book, answer, opened, step}
use Rattle.sheets.specs.declared.call.Call.TheVariants.{Stage, Task as NewTask}
use Rattle.keyfile.specs.Reading.{called, ended, repeated}

-- a refused task is told with the place of its work
abbrev pub task_in : ℕ → Book → Input → Reading Book
task_in stage book input =
    then (number_in input) (λ work.
    called (answer book (NewTask stage work)) (step book (NewTask stage work)) input.place)

-- a refused stage is told with the place of its task count
abbrev pub stage_in : Book → Input → Reading Book
stage_in book input =
    then (number_in input) (λ count left.
    then (called (answer book Stage) (step book Stage) input.place left)
    (repeated count (task_in book.stages)))

abbrev pub sheet_in : Input → Reading Book
sheet_in input = then (number_in input) (λ count. repeated count stage_in opened)

-- a file holds a sheet and nothing behind it
abbrev pub file_in : List ℕ → Reading Book
file_in bytes = then (sheet_in (input 0 bytes)) ended
