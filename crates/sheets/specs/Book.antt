-- The book of a sheet, kept from the arguments of its calls alone
use Rattle.std.specs.Prelude.{ℕ, zero, suc, ◌+◌, not, List, [], ◌∷◌, ◌++◌, length, take, Some, None, Ok, Err, Option, Result, nat_le}
use Rattle.std.specs.List.{slice_get}
use Rattle.refusals.specs.Answer.{Answer, refused_if}
use Rattle.sheets.specs.declared.call.Call.{Call}
use Rattle.sheets.specs.declared.call.Call.TheVariants.{Stage, Task as NewTask, Rework, Strike, Front, Budget, Deadline}
use Rattle.sheets.specs.declared.sheet.Sheet.{Sheet}
use Rattle.sheets.specs.declared.task.Task.{Task}
use Rattle.work.specs.Work.{work_in_range}
use Rattle.sheets.specs.Tasks.{max_stages, max_tasks, stands, new_task, reworked, struck_out}

-- task numbers are places in the list, from 0
pub record Book : Type 0 where
  pub stages : ℕ
  pub tasks : List Task

abbrev pub book_of : ℕ → List Task → Book
book_of stages tasks = record { stages = stages; tasks = tasks }

abbrev pub opened : Book
opened = book_of 0 []

abbrev pub accepted : Answer (Unit {0})
accepted = Ok tt

-- each call with its refusals by rising number
abbrev pub checked : Book → Call → Answer (Unit {0})
checked book Stage =
    refused_if (nat_le max_stages book.stages) 1
    accepted
checked book (NewTask stage work) =
    refused_if (nat_le max_tasks (length book.tasks)) 1
    (refused_if (nat_le book.stages stage) 2
    (refused_if (not (work_in_range work)) 3
    accepted))
checked book (Rework task work) =
    refused_if (not (stands (slice_get book.tasks task))) 2
    (refused_if (not (work_in_range work)) 3
    accepted)
checked book (Strike task) =
    refused_if (not (stands (slice_get book.tasks task))) 2
    accepted
checked book Front = accepted
checked book Budget = accepted
checked book Deadline = accepted

-- the number of what a call adds
abbrev pub number : Book → Call → Option ℕ
number book Stage = Some book.stages
number book (NewTask stage work) = Some (length book.tasks)
number book (Rework task work) = None
number book (Strike task) = None
number book Front = None
number book Budget = None
number book Deadline = None

-- the tasks with that of this number changed
abbrev pub changed : (Task → Task) → ℕ → List Task → List Task
changed change n [] = []
changed change zero (task ∷ tasks) = change task ∷ tasks
changed change (suc n) (task ∷ tasks) = task ∷ changed change n tasks

-- what a call that is not refused makes of the book
abbrev pub obeyed : Book → Call → Book
obeyed book Stage = book_of (book.stages + 1) book.tasks
obeyed book (NewTask stage work) = book_of book.stages (book.tasks ++ (new_task stage work ∷ []))
obeyed book (Rework task work) = book_of book.stages (changed (reworked work) task book.tasks)
obeyed book (Strike task) = book_of book.stages (changed struck_out task book.tasks)
obeyed book Front = book
obeyed book Budget = book
obeyed book Deadline = book

-- what a call returns
abbrev pub answer : Book → Call → Answer (Option ℕ)
answer book call = elim (checked book call) [ Ok _ ↦ Ok (number book call) | Err refused ↦ Err refused ]

-- the book after a call: a refused one leaves it alone
abbrev pub step : Book → Call → Book
step book call = elim (checked book call) [ Ok _ ↦ obeyed book call | Err refused ↦ book ]

-- the book of a sheet
abbrev pub book : Sheet → Book
book sheet = book_of sheet.stages (take sheet.count sheet.tasks)

-- results with a number and without one as the answer of the book gives them
abbrev pub numbered : {E : Type 0} → Result ℕ E → Result (Option ℕ) E
numbered (Ok n) = Ok (Some n)
numbered (Err e) = Err e

abbrev pub numberless : {E : Type 0} → Result (Unit {0}) E → Result (Option ℕ) E
numberless (Ok _) = Ok None
numberless (Err e) = Err e
