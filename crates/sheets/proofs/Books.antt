-- What follows from a call that is not refused
use Rattle.std.proofs.Common.{◌≡◌, ℕ, ◌<◌, ◌≤◌, Bool, true, false, length, Ok, Err, sym, refl, ap}
use Rattle.std.specs.List.{slice_get}
use Rattle.std.proofs.lemmas.Bool.{not-false, leb-false, leb-true, and_parts}
use Rattle.refusals.specs.Answer.{Answer, refused_if}
use Rattle.sheets.specs.declared.call.Call.{Call}
use Rattle.sheets.specs.declared.call.Call.TheVariants.{Stage, Task as NewTask, Rework, Strike}
use Rattle.work.specs.Work.{max_work, work_in_range}
use Rattle.sheets.specs.Tasks.{max_stages, max_tasks, stands, new_task, SoundTask}
use Rattle.sheets.specs.Book.{Book, checked, accepted, obeyed, step}

pub passed : {A : Type 0} (applies : Bool) (number : ℕ) (rest : Answer A) (outcome : A) → Ok outcome ≡ refused_if applies number rest → (applies ≡ false) × (Ok outcome ≡ rest)
passed true number rest outcome e = cc
passed false number rest outcome e = (refl, e)

pub step_accepted : (book : Book) (call : Call) → accepted ≡ checked book call → step book call ≡ obeyed book call
step_accepted book call e = ap (λ (outcome : Answer (Unit {0})). elim outcome [ Ok _ ↦ obeyed book call | Err refused ↦ book ]) (sym e)

pub range_of_work : (work : ℕ) → work_in_range work ≡ true → (1 ≤ work) × (work ≤ max_work)
range_of_work work e = let parts = and_parts _ _ e in (leb-true _ _ parts.0, leb-true _ _ parts.1)

pub stage_fits : (book : Book) → accepted ≡ checked book Stage → book.stages < max_stages
stage_fits book e = leb-false _ _ (passed _ _ _ _ e).0

pub task_fits : (book : Book) (stage work : ℕ) → accepted ≡ checked book (NewTask stage work) → length book.tasks < max_tasks
task_fits book stage work e = leb-false _ _ (passed _ _ _ _ e).0

pub task_sound : (book : Book) (stage work : ℕ) → accepted ≡ checked book (NewTask stage work) → SoundTask book.stages (new_task stage work)
task_sound book stage work e =
    let room = passed _ _ _ _ e in
    let known = passed _ _ _ _ room.1 in
    let range = range_of_work work (not-false _ (passed _ _ _ _ known.1).0) in
    (leb-false _ _ known.0, range.0, range.1)

pub rework_stands : (book : Book) (task work : ℕ) → accepted ≡ checked book (Rework task work) → stands (slice_get book.tasks task) ≡ true
rework_stands book task work e = not-false _ (passed _ _ _ _ e).0

pub rework_in_range : (book : Book) (task work : ℕ) → accepted ≡ checked book (Rework task work) → (1 ≤ work) × (work ≤ max_work)
rework_in_range book task work e = range_of_work work (not-false _ (passed _ _ _ _ (passed _ _ _ _ e).1).0)

pub strike_stands : (book : Book) (task : ℕ) → accepted ≡ checked book (Strike task) → stands (slice_get book.tasks task) ≡ true
strike_stands book task e = not-false _ (passed _ _ _ _ e).0
