-- Calls that make a sound book: its stages, and then each task, struck at once if it is struck
use Rattle.std.proofs.Common.{◌≡◌, ℕ, zero, suc, ◌+◌, ◌<◌, ◌≤◌, Bool, true, false, not, cond, List, [], ◌∷◌, ◌++◌, length, Ok, sym, refl, ap, ◌∙◌, subst, append_assoc, arith}
use Rattle.std.specs.List.{AllByRecursion}
use Rattle.std.proofs.lemmas.List.{append-nil, length_push}
use Rattle.std.proofs.lemmas.Bool.{lt-leb, le-leb}
use Rattle.refusals.specs.Answer.{Answer, refused_if}
use Rattle.sheets.specs.declared.call.Call.{Call}
use Rattle.sheets.specs.declared.call.Call.TheVariants.{Stage, Task as NewTask, Strike}
use Rattle.sheets.specs.declared.sheet.Sheet.{Sheet}
use Rattle.sheets.specs.declared.task.Task.{Task}
use Rattle.work.specs.Work.{max_work, work_in_range}
use Rattle.sheets.specs.Tasks.{max_stages, max_tasks, stands, task_of, new_task, struck_out, SoundTask}
use Rattle.sheets.specs.Book.{Book, accepted, book, book_of, changed, checked, opened, step}
use Rattle.sheets.specs.History.{after, book_after, Sound, EverySheetHasKnownSomeCalls}
use Rattle.sheets.proofs.Books.{step_accepted}
use Rattle.sheets.proofs.Histories.{after_append, found_push, sheet_sound}

passes : {A : Type 0} (applies : Bool) (number : ℕ) (rest : Answer A) (outcome : A) → applies ≡ false → Ok outcome ≡ rest → Ok outcome ≡ refused_if applies number rest
passes true number rest outcome h e = cc
passes false number rest outcome h e = e

in_range : (work : ℕ) → 1 ≤ work → work ≤ max_work → not (work_in_range work) ≡ false
in_range work low high = rw (le-leb _ _ low, le-leb _ _ high) refl

-- a stage is accepted where there is room for it
pub stage_accepted : (book : Book) → book.stages < max_stages → accepted ≡ checked book Stage
stage_accepted book room = passes _ 1 accepted tt (lt-leb max_stages book.stages room) refl

-- a task is accepted where there is room for it, its stage exists and its work is in range
pub task_accepted : (book : Book) (stage work : ℕ) → length book.tasks < max_tasks → SoundTask book.stages (new_task stage work) → accepted ≡ checked book (NewTask stage work)
task_accepted book stage work room sound =
    passes _ 1 _ tt (lt-leb max_tasks (length book.tasks) room)
    (passes _ 2 _ tt (lt-leb book.stages stage sound.0)
    (passes _ 3 accepted tt (in_range work sound.1 sound.2) refl))

-- stages
calls_of_stages : ℕ → List Call
calls_of_stages zero = []
calls_of_stages (suc n) = calls_of_stages n ++ (Stage ∷ [])

after_stages : (n : ℕ) → n ≤ max_stages → after opened (calls_of_stages n) ≡ book_of n []
unfolding calls_of_stages
after_stages zero few = refl
after_stages (suc n) few =
    after_append opened (calls_of_stages n) (Stage ∷ [])
    ∙ ap (λ (b : Book). step b Stage) (after_stages n (omega arith))
    ∙ step_accepted (book_of n []) Stage (stage_accepted (book_of n []) (omega arith))
    ∙ ap (λ (k : ℕ). book_of k []) (omega arith)

-- a task
changed_last : (change : Task → Task) (tasks : List Task) (task : Task) → changed change (length tasks) (tasks ++ (task ∷ [])) ≡ tasks ++ (change task ∷ [])
changed_last change [] task = refl
changed_last change (other ∷ tasks) task = ap (λ (rest : List Task). other ∷ rest) (changed_last change tasks task)

calls_of_task : ℕ → Task → List Call
calls_of_task number task = NewTask task.stage task.work ∷ cond task.struck (Strike number ∷ []) []

after_strike : (stages : ℕ) (done : List Task) (stage work : ℕ) → step (book_of stages (done ++ (new_task stage work ∷ []))) (Strike (length done)) ≡ book_of stages (done ++ (task_of stage work true ∷ []))
after_strike stages done stage work =
    step_accepted (book_of stages (done ++ (new_task stage work ∷ []))) (Strike (length done))
    (passes _ 2 accepted tt (ap (λ found. not (stands found)) (found_push done (new_task stage work))) refl)
    ∙ ap (book_of stages) (changed_last struck_out done (new_task stage work))

after_task : (stages : ℕ) (done : List Task) (task : Task) → length done < max_tasks → SoundTask stages task → after (book_of stages done) (calls_of_task (length done) task) ≡ book_of stages (done ++ (task ∷ []))
unfolding calls_of_task
after_task stages done task few sound = by task.struck refl
  where
    added : step (book_of stages done) (NewTask task.stage task.work) ≡ book_of stages (done ++ (new_task task.stage task.work ∷ []))
    added = step_accepted (book_of stages done) (NewTask task.stage task.work) (task_accepted (book_of stages done) task.stage task.work few sound)

    by : (struck : Bool) → struck ≡ task.struck → after (book_of stages done) (NewTask task.stage task.work ∷ cond struck (Strike (length done) ∷ []) []) ≡ book_of stages (done ++ (task ∷ []))
    by true e =
        ap (λ (b : Book). step b (Strike (length done))) added
        ∙ after_strike stages done task.stage task.work
        ∙ ap (λ (struck : Bool). book_of stages (done ++ (task_of task.stage task.work struck ∷ []))) e
    by false e = added ∙ ap (λ (struck : Bool). book_of stages (done ++ (task_of task.stage task.work struck ∷ []))) e

-- all tasks
calls_of_tasks : ℕ → List Task → List Call
calls_of_tasks number [] = []
calls_of_tasks number (task ∷ tasks) = calls_of_task number task ++ calls_of_tasks (number + 1) tasks

after_tasks : (stages : ℕ) (tasks done : List Task) → length done + length tasks ≤ max_tasks → AllByRecursion (SoundTask stages) tasks → after (book_of stages done) (calls_of_tasks (length done) tasks) ≡ book_of stages (done ++ tasks)
unfolding calls_of_tasks
after_tasks stages [] done few sound = ap (book_of stages) (sym (append-nil done))
after_tasks stages (task ∷ tasks) done few sound =
    let longer = length_push done task in
    after_append (book_of stages done) (calls_of_task (length done) task) (calls_of_tasks (length done + 1) tasks)
    ∙ ap (λ (b : Book). after b (calls_of_tasks (length done + 1) tasks)) (after_task stages done task (omega arith) sound.0)
    ∙ ap (λ (n : ℕ). after (book_of stages (done ++ (task ∷ []))) (calls_of_tasks n tasks)) (sym longer)
    ∙ after_tasks stages tasks (done ++ (task ∷ [])) (omega arith) sound.1
    ∙ ap (book_of stages) (append_assoc done (task ∷ []) tasks)

-- every sound book is the book after some calls
known_calls : (b : Book) → Sound b → (calls : List Call) × (b ≡ book_after calls)
known_calls b sound = (
  calls_of_stages b.stages ++ calls_of_tasks 0 b.tasks,
  sym
      (after_append opened (calls_of_stages b.stages) (calls_of_tasks 0 b.tasks)
      ∙ ap (λ (c : Book). after c (calls_of_tasks 0 b.tasks)) (after_stages b.stages sound.few_stages)
      ∙ after_tasks b.stages b.tasks [] (omega (arith, sound.few_tasks)) sound.tasks_sound),
)

pub every_sheet_has_known_some_calls : EverySheetHasKnownSomeCalls
every_sheet_has_known_some_calls sheet = known_calls (book sheet) (sheet_sound sheet)

-- what holds of every history holds of every sheet
pub of_every_sheet : (P : Book → Type 0) → ((calls : List Call) → P (book_after calls)) → (sheet : Sheet) → P (book sheet)
of_every_sheet P all sheet = let known = known_calls (book sheet) (sheet_sound sheet) in subst P (sym known.1) (all known.0)
