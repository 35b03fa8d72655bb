-- The table of refused calls, and that of the refusals that apply to a call the smallest is told
use Rattle.std.specs.Prelude.{◌≡◌, ℕ, ◌<◌, ◌≤◌, false, ◌⊎◌, length, Some, Ok, Err}
use Rattle.std.specs.List.{slice_get}
use Rattle.refusals.specs.Answer.{Refused}
use Rattle.sheets.specs.declared.call.Call.{Call}
use Rattle.sheets.specs.declared.call.Call.TheVariants.{Stage, Task as NewTask, Rework, Strike}
use Rattle.sheets.specs.declared.refusal.SheetRefusal.{SheetRefusal}
use Rattle.sheets.specs.declared.refusal.SheetRefusal.TheVariants.{Full, Unknown, WorkOutOfRange}
use Rattle.sheets.specs.declared.task.Task.{Task}
use Rattle.work.specs.Work.{max_work}
use Rattle.sheets.specs.Tasks.{max_stages, max_tasks}
use Rattle.sheets.specs.Refusals.{sheet_told}
use Rattle.sheets.specs.Book.{Book, answer}

abbrev pub Standing : Book → ℕ → Type 0
Standing book number = (task : Task) × (slice_get book.tasks number ≡ Some task) × (task.struck ≡ false)

abbrev pub OutOfRange : ℕ → Type 0
OutOfRange work = (work < 1) ⊎ (max_work < work)

-- when a refusal applies to a call
pub data Applies (book : Book) : SheetRefusal → Call → Type 0 where
  stage_at_the_limit : max_stages ≤ book.stages → Applies book Full Stage
  task_at_the_limit : {stage work : ℕ} → max_tasks ≤ length book.tasks → Applies book Full (NewTask stage work)
  task_of_no_stage : {stage work : ℕ} → book.stages ≤ stage → Applies book Unknown (NewTask stage work)
  rework_of_none_standing : {task work : ℕ} → (Standing book task → ⊥) → Applies book Unknown (Rework task work)
  strike_of_none_standing : {task : ℕ} → (Standing book task → ⊥) → Applies book Unknown (Strike task)
  task_out_of_range : {stage work : ℕ} → OutOfRange work → Applies book WorkOutOfRange (NewTask stage work)
  rework_out_of_range : {task work : ℕ} → OutOfRange work → Applies book WorkOutOfRange (Rework task work)

pub record IsSmallest (book : Book) (call : Call) (refused : Refused) : Type 0 where
  pub refusal : SheetRefusal
  pub told : refused ≡ sheet_told refusal
  pub applies : Applies book refusal call
  pub smallest : (other : SheetRefusal) → Applies book other call → (sheet_told refusal).number ≤ (sheet_told other).number

-- a call is answered where no refusal applies to it, and else refused with the smallest that applies
abbrev pub TheSmallestRefusalIsTold : Type 0
TheSmallestRefusalIsTold =
    (book : Book) (call : Call)
    → elim (answer book call) [ Ok _ ↦ ((refusal : SheetRefusal) → Applies book refusal call → ⊥) | Err refused ↦ IsSmallest book call refused ]
