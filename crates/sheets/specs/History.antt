-- Histories: the calls of a sheet since it was opened, first call first, refused ones included
use Rattle.std.specs.Prelude.{◌≡◌, ℕ, ◌<◌, ◌≤◌, true, List, [], ◌∷◌, ◌++◌, length, Some, Ok, Err}
use Rattle.std.specs.Option.{option_map}
use Rattle.std.specs.List.{AllByRecursion, slice_get}
use Rattle.refusals.specs.Answer.{Refused}
use Rattle.sheets.specs.declared.call.Call.{Call}
use Rattle.sheets.specs.declared.call.Call.TheVariants.{Task as NewTask, Rework, Strike}
use Rattle.sheets.specs.declared.sheet.Sheet.{Sheet}
use Rattle.sheets.specs.declared.task.Task.{Task}
use Rattle.sheets.specs.Tasks.{max_stages, max_tasks, SoundTask}
use Rattle.sheets.specs.Book.{Book, opened, answer, step, book}

abbrev pub after : Book → List Call → Book
after book [] = book
after book (call ∷ calls) = after (step book call) calls

abbrev pub book_after : List Call → Book
book_after calls = after opened calls

-- the sheet has known these calls since it was opened
abbrev pub Known : Sheet → List Call → Type 0
Known sheet calls = book sheet ≡ book_after calls

-- whatever calls the sheet had known before, it has known them and then this one afterwards
abbrev pub KnownFurther : Sheet → Call → Sheet → Type 0
KnownFurther before call afterwards = (calls : List Call) → Known before calls → Known afterwards (calls ++ (call ∷ []))

-- each task's stage exists, its work is in range, and the counts keep their limits
pub record Sound (book : Book) : Type 0 where
  pub few_stages : book.stages ≤ max_stages
  pub few_tasks : length book.tasks ≤ max_tasks
  pub tasks_sound : AllByRecursion (SoundTask book.stages) book.tasks

-- every sheet has known some list of calls, so what is said of every history is said of every sheet
abbrev pub EverySheetHasKnownSomeCalls : Type 0
EverySheetHasKnownSomeCalls = (sheet : Sheet) → (calls : List Call) × Known sheet calls

-- the laws of every history

abbrev pub EveryBookIsSound : Type 0
EveryBookIsSound = (calls : List Call) → Sound (book_after calls)

-- of two accepted tasks the later has the greater number
abbrev pub TaskNumbersAreNeverReused : Type 0
TaskNumbersAreNeverReused =
    (calls : List Call) (stage work earlier : ℕ) (others : List Call) (stage' work' later : ℕ)
    → answer (book_after calls) (NewTask stage work) ≡ Ok (Some earlier)
    → answer (book_after (calls ++ (NewTask stage work ∷ others))) (NewTask stage' work') ≡ Ok (Some later)
    → earlier < later

-- whatever calls follow, the number of an accepted task finds a task of its stage
abbrev pub TasksKeepTheirStages : Type 0
TasksKeepTheirStages =
    (calls : List Call) (stage work number : ℕ) (others : List Call)
    → answer (book_after calls) (NewTask stage work) ≡ Ok (Some number)
    → option_map (λ task. task.stage) (slice_get (book_after (calls ++ (NewTask stage work ∷ others))).tasks number) ≡ Some stage

abbrev pub StruckTasksStayAsTheyAre : Type 0
StruckTasksStayAsTheyAre =
    (calls others : List Call) (number : ℕ) (task : Task)
    → slice_get (book_after calls).tasks number ≡ Some task
    → task.struck ≡ true
    → slice_get (book_after (calls ++ others)).tasks number ≡ Some task

-- rework and strike leave every task of another number alone
abbrev pub OtherTasksStayAsTheyAre : Type 0
OtherTasksStayAsTheyAre =
    (book : Book) (number other work : ℕ)
    → (number ≡ other → ⊥)
    → (slice_get (step book (Rework number work)).tasks other ≡ slice_get book.tasks other)
    × (slice_get (step book (Strike number)).tasks other ≡ slice_get book.tasks other)

abbrev pub RefusedCallsCanBeLeftOut : Type 0
RefusedCallsCanBeLeftOut =
    (calls : List Call) (call : Call) (others : List Call) (refused : Refused)
    → answer (book_after calls) call ≡ Err refused
    → book_after (calls ++ (call ∷ others)) ≡ book_after (calls ++ others)
