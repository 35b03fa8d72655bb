-- The minutes that machines quote for the tasks of a sheet, kept in a table
use Rattle.std.specs.Prelude.{◌≡◌, ℕ, ◌<◌, true, false, List, [], length, replicate, slice_index_or}
use Rattle.tariffs.specs.Meaning.{Meaning}
use Rattle.sheets.specs.Tasks.{max_tasks, no_task}
use Rattle.sheets.specs.declared.task.Task.{Task}
use Rattle.model.specs.Assignment.{quote_of, minutes_of}

-- the task of this number; past the tasks one of work 0, which no tariff quotes
abbrev pub task_at : List Task → ℕ → Task
task_at tasks number = slice_index_or tasks number no_task

-- 0 for each of 256 tasks and 32 machines
abbrev pub no_minutes : List (List ℕ)
no_minutes = replicate max_tasks (replicate 32 0)

-- the table has, for each task and each machine, the minutes quoted, 0 without a quote
abbrev pub HoldsMinutes : {C : Type 0} → Meaning C → List Task → List (List ℕ) → Type 0
HoldsMinutes T tasks table =
    (number machine : ℕ) → number < length tasks
    → slice_index_or (slice_index_or table number []) machine 0 ≡ minutes_of (quote_of T (task_at tasks number) machine)

-- the same of the standing tasks alone
abbrev pub HoldsStandingMinutes : {C : Type 0} → Meaning C → List Task → List (List ℕ) → Type 0
HoldsStandingMinutes T tasks table =
    (number machine : ℕ) → number < length tasks → (task_at tasks number).struck ≡ false
    → slice_index_or (slice_index_or table number []) machine 0 ≡ minutes_of (quote_of T (task_at tasks number) machine)

-- the rows of struck tasks are the same in both tables
abbrev pub KeepsStruckRows : List Task → List (List ℕ) → List (List ℕ) → Type 0
KeepsStruckRows tasks before after =
    (number : ℕ) → number < length tasks → (task_at tasks number).struck ≡ true → slice_index_or after number [] ≡ slice_index_or before number []
