-- A task of a sheet, and the limits of a sheet
use Rattle.std.specs.Prelude.{ℕ, ◌<◌, ◌≤◌, Bool, true, false, not, ◌&&◌, List, Some, None, Option, ◌==◌, slice_index_or}
use Rattle.work.specs.Work.{max_work}
use Rattle.sheets.specs.declared.task.Task.{Task}

abbrev pub max_stages : ℕ
max_stages = 16

abbrev pub max_tasks : ℕ
max_tasks = 256

abbrev pub task_of : ℕ → ℕ → Bool → Task
task_of stage work struck = record { stage = stage; work = work; struck = struck }

abbrev pub new_task : ℕ → ℕ → Task
new_task stage work = task_of stage work false

abbrev pub reworked : ℕ → Task → Task
reworked work task = task_of task.stage work task.struck

abbrev pub struck_out : Task → Task
struck_out task = task_of task.stage task.work true

-- a look-up by number found a standing task
abbrev pub stands : Option Task → Bool
stands None = false
stands (Some task) = not task.struck

-- the task stands, and in this stage
abbrev pub stands_in : ℕ → Task → Bool
stands_in stage task = not task.struck && task.stage == stage

-- the task's stage exists, and its work is in range
abbrev pub SoundTask : ℕ → Task → Type 0
SoundTask stages task = (task.stage < stages) × (1 ≤ task.work) × (task.work ≤ max_work)

-- what a place past the tasks reads as
abbrev pub no_task : Task
no_task = task_of 0 0 false

-- each of the first tasks of a table is sound
abbrev pub SoundTasks : ℕ → ℕ → List Task → Type 0
SoundTasks stages count tasks = (i : ℕ) → i < count → SoundTask stages (slice_index_or tasks i no_task)
