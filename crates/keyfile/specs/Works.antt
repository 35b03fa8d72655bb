-- The works of a sheet, stage by stage, with the bytes that spell them and the calls that a file of them makes
use Rattle.std.specs.Prelude.{ℕ, ◌+◌, List, [], ◌∷◌, ◌++◌, map, length, filter}
use Rattle.std.specs.List.{range_with_len, flat_map}
use Rattle.numbers.specs.Number.{spelled}
use Rattle.sheets.specs.Book.{Book, book}
use Rattle.sheets.specs.History.{Known}
use Rattle.sheets.specs.declared.sheet.Sheet.{Sheet}
use Rattle.sheets.specs.declared.call.Call.{Call}
use Rattle.sheets.specs.declared.call.Call.TheVariants.{Stage, Task as NewTask}
use Rattle.sheets.specs.declared.task.Task.{Task}
use Rattle.sheets.specs.Tasks.{stands_in}

-- the works of the standing tasks of a stage, in number order
abbrev pub stage_works : List Task → ℕ → List ℕ
stage_works tasks stage = map (λ task. task.work) (filter (stands_in stage) tasks)

abbrev pub works_by_stage : Book → List (List ℕ)
works_by_stage book = map (stage_works book.tasks) (range_with_len 0 book.stages)

-- a stage's task count, then the works
abbrev pub spelled_stage : List ℕ → List ℕ
spelled_stage works = spelled (length works) ++ flat_map spelled works

-- the stage count, then the stages
abbrev pub spelled_sheet : List (List ℕ) → List ℕ
spelled_sheet stages = spelled (length stages) ++ flat_map spelled_stage stages

-- each stage, numbered from the first, and then its tasks
abbrev pub calls_from : ℕ → List (List ℕ) → List Call
calls_from stage [] = []
calls_from stage (works ∷ stages) = Stage ∷ (map (NewTask stage) works ++ calls_from (stage + 1) stages)

abbrev pub file_calls : List (List ℕ) → List Call
file_calls stages = calls_from 0 stages

-- the sheet has known the calls that its file spells
abbrev pub KnownByItsFile : Sheet → Type 0
KnownByItsFile sheet = Known sheet (file_calls (works_by_stage (book sheet)))
