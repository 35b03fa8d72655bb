-- The laws of histories
use Rattle.std.proofs.Common.{◌≡◌, ℕ, zero, suc, ◌+◌, ◌≤◌, true, List, [], ◌∷◌, ◌++◌, length, Some, None, Ok, Err, Option, sym, refl, ap, ◌∙◌, subst, arith}
use Rattle.std.specs.Option.{option_map}
use Rattle.std.specs.List.{AllByRecursion, slice_get}
use Rattle.std.proofs.ByRecursion.{All-push, All-weaker, All-from_get_or}
use Rattle.std.proofs.lemmas.List.{length_push}
use Rattle.std.proofs.lemmas.Bool.{both_ways, not_from_true}
use Rattle.refusals.specs.Answer.{Answer, Refused}
use Rattle.sheets.specs.declared.call.Call.{Call}
use Rattle.sheets.specs.declared.call.Call.TheVariants.{Stage, Task as NewTask, Rework, Strike, Front, Budget, Deadline}
use Rattle.sheets.specs.declared.sheet.Sheet.{Sheet}
use Rattle.sheets.specs.declared.task.Task.{Task}
use Rattle.sheets.specs.Tasks.{stands, reworked, struck_out, no_task, SoundTask}
use Rattle.sheets.specs.Book.{Book, accepted, answer, book, changed, checked, number, obeyed, opened, step}
use Rattle.sheets.specs.History.{after, book_after, Sound, EveryBookIsSound, TaskNumbersAreNeverReused, TasksKeepTheirStages, StruckTasksStayAsTheyAre, OtherTasksStayAsTheyAre, RefusedCallsCanBeLeftOut}
use Rattle.sheets.proofs.Books.{stage_fits, task_fits, task_sound, rework_stands, rework_in_range, strike_stands, step_accepted}
use Rattle.sheets.proofs.Sheets.{count_is, sound_within}

pub after_append : (b : Book) (calls others : List Call) → after b (calls ++ others) ≡ after (after b calls) others
after_append b [] others = refl
after_append b (call ∷ calls) others = after_append (step b call) calls others

-- a step of the book is one call more in what the sheet has known
pub known_further : (before : Book) (call : Call) (afterwards : Book) → afterwards ≡ step before call → (calls : List Call) → before ≡ book_after calls → afterwards ≡ book_after (calls ++ (call ∷ []))
known_further before call afterwards e calls known = e ∙ ap (λ (b : Book). step b call) known ∙ sym (after_append opened calls (call ∷ []))

-- what accepted calls keep, all calls keep
pub after_keeps : (P : Book → Type 0) → ((b : Book) (call : Call) → accepted ≡ checked b call → P b → P (obeyed b call)) → (b : Book) (calls : List Call) → P b → P (after b calls)
after_keeps P obeys b [] kept = kept
after_keeps P obeys b (call ∷ calls) kept = after_keeps P obeys (step b call) calls (by (checked b call) refl)
  where
    by : (outcome : Answer (Unit {0})) → outcome ≡ checked b call → P (elim outcome [ Ok _ ↦ obeyed b call | Err refused ↦ b ])
    by (Ok _) e = obeys b call e kept
    by (Err refused) e = kept

-- the tasks after a change of one
length_changed : (change : Task → Task) (n : ℕ) (tasks : List Task) → length (changed change n tasks) ≡ length tasks
length_changed change n [] = refl
length_changed change zero (task ∷ tasks) = refl
length_changed change (suc n) (task ∷ tasks) = ap suc (length_changed change n tasks)

all_changed : (P : Task → Type 0) (change : Task → Task) → ((task : Task) → P task → P (change task)) → (n : ℕ) (tasks : List Task) → AllByRecursion P tasks → AllByRecursion P (changed change n tasks)
all_changed P change keeps n [] all = tt
all_changed P change keeps zero (task ∷ tasks) all = (keeps task all.0, all.1)
all_changed P change keeps (suc n) (task ∷ tasks) all = (all.0, all_changed P change keeps n tasks all.1)

found_changed : {A : Type 0} (part : Task → A) (change : Task → Task) → ((task : Task) → part (change task) ≡ part task) → (m : ℕ) (tasks : List Task) (n : ℕ) → option_map part (slice_get (changed change m tasks) n) ≡ option_map part (slice_get tasks n)
found_changed part change keeps m [] n = refl
found_changed part change keeps zero (task ∷ tasks) zero = ap Some (keeps task)
found_changed part change keeps zero (task ∷ tasks) (suc n) = refl
found_changed part change keeps (suc m) (task ∷ tasks) zero = refl
found_changed part change keeps (suc m) (task ∷ tasks) (suc n) = found_changed part change keeps m tasks n

found_other : (change : Task → Task) (m : ℕ) (tasks : List Task) (n : ℕ) → (m ≡ n → ⊥) → slice_get (changed change m tasks) n ≡ slice_get tasks n
found_other change m [] n other = refl
found_other change zero (task ∷ tasks) zero other = absurd (other refl)
found_other change zero (task ∷ tasks) (suc n) other = refl
found_other change (suc m) (task ∷ tasks) zero other = refl
found_other change (suc m) (task ∷ tasks) (suc n) other = found_other change m tasks n (λ e. other (ap suc e))

found_append : {A : Type 0} (view : Option Task → Option A) (a : A) → view None ≡ None → (tasks others : List Task) (n : ℕ) → view (slice_get tasks n) ≡ Some a → view (slice_get (tasks ++ others) n) ≡ Some a
found_append view a none [] others n found = cc
found_append view a none (task ∷ tasks) others zero found = found
found_append view a none (task ∷ tasks) others (suc n) found = found_append view a none tasks others n found

pub found_push : (tasks : List Task) (task : Task) → slice_get (tasks ++ (task ∷ [])) (length tasks) ≡ Some task
found_push [] task = refl
found_push (other ∷ tasks) task = found_push tasks task

-- sound books
obeyed_sound : (b : Book) (call : Call) → accepted ≡ checked b call → Sound b → Sound (obeyed b call)
obeyed_sound b Stage e sound = record {
  few_stages = let fits = stage_fits b e in omega arith;
  few_tasks = sound.few_tasks;
  tasks_sound = All-weaker (SoundTask b.stages) (SoundTask (b.stages + 1)) (λ task s. (omega arith, s.1, s.2)) b.tasks sound.tasks_sound;
}
obeyed_sound b (NewTask stage work) e sound = record {
  few_stages = sound.few_stages;
  few_tasks = let fits = task_fits b stage work e in rw length_push (omega arith);
  tasks_sound = All-push (SoundTask b.stages) b.tasks _ sound.tasks_sound (task_sound b stage work e);
}
obeyed_sound b (Rework task work) e sound = record {
  few_stages = sound.few_stages;
  few_tasks = rw length_changed sound.few_tasks;
  tasks_sound = let range = rework_in_range b task work e in all_changed (SoundTask b.stages) (reworked work) (λ t s. (s.0, range.0, range.1)) task b.tasks sound.tasks_sound;
}
obeyed_sound b (Strike task) e sound = record {
  few_stages = sound.few_stages;
  few_tasks = rw length_changed sound.few_tasks;
  tasks_sound = all_changed (SoundTask b.stages) struck_out (λ t s. s) task b.tasks sound.tasks_sound;
}
obeyed_sound b Front e sound = sound
obeyed_sound b Budget e sound = sound
obeyed_sound b Deadline e sound = sound

pub book_sound : EveryBookIsSound
book_sound calls = after_keeps Sound obeyed_sound opened calls (record { few_stages = omega arith; few_tasks = omega arith; tasks_sound = tt })

pub sheet_sound : (sheet : Sheet) → Sound (book sheet)
sheet_sound sheet = record {
  few_stages = sheet.few;
  few_tasks = omega (arith, count_is sheet);
  tasks_sound = All-from_get_or (SoundTask sheet.stages) (book sheet).tasks no_task (λ i h. sound_within sheet i no_task h);
}

-- task numbers
obeyed_longer : (n : ℕ) (b : Book) (call : Call) → accepted ≡ checked b call → n ≤ length b.tasks → n ≤ length (obeyed b call).tasks
obeyed_longer n b Stage e h = h
obeyed_longer n b (NewTask stage work) e h = rw length_push (omega arith)
obeyed_longer n b (Rework task work) e h = rw length_changed h
obeyed_longer n b (Strike task) e h = rw length_changed h
obeyed_longer n b Front e h = h
obeyed_longer n b Budget e h = h
obeyed_longer n b Deadline e h = h

answered : (b : Book) (call : Call) (outcome : Option ℕ) → answer b call ≡ Ok outcome → (accepted ≡ checked b call) × (outcome ≡ number b call)
answered b call outcome = by (checked b call) refl
  where
    by : (checks : Answer (Unit {0})) → checks ≡ checked b call → elim checks as (λ _. Answer (Option ℕ)) [ Ok _ ↦ Ok (number b call) | Err refused ↦ Err refused ] ≡ Ok outcome → (accepted ≡ checked b call) × (outcome ≡ number b call)
    by (Ok _) e h = (e, cc)
    by (Err refused) e h = cc

pub task_numbers_are_never_reused : TaskNumbersAreNeverReused
task_numbers_are_never_reused calls stage work earlier others stage' work' later first second =
    let b = book_after calls in
    let one = answered b (NewTask stage work) (Some earlier) first in
    let two = answered (book_after (calls ++ (NewTask stage work ∷ others))) (NewTask stage' work') (Some later) second in
    let is_earlier : earlier ≡ length b.tasks = cc in
    let is_later : later ≡ length (book_after (calls ++ (NewTask stage work ∷ others))).tasks = cc in
    let longer : earlier + 1 ≤ length (step b (NewTask stage work)).tasks = rw (step_accepted b (NewTask stage work) one.0, length_push) (omega arith) in
    let still = after_keeps (λ c. earlier + 1 ≤ length c.tasks) (obeyed_longer (earlier + 1)) (step b (NewTask stage work)) others longer in
    let whole = ap (λ (c : Book). length c.tasks) (after_append opened calls (NewTask stage work ∷ others)) in
    omega arith

-- the stages of tasks
obeyed_stage : (n stage : ℕ) (b : Book) (call : Call) → accepted ≡ checked b call → option_map (λ task. task.stage) (slice_get b.tasks n) ≡ Some stage → option_map (λ task. task.stage) (slice_get (obeyed b call).tasks n) ≡ Some stage
obeyed_stage n stage b Stage e found = found
obeyed_stage n stage b (NewTask other work) e found = found_append (option_map (λ task. task.stage)) stage refl b.tasks _ n found
obeyed_stage n stage b (Rework task work) e found = found_changed (λ t. t.stage) (reworked work) (λ t. refl) task b.tasks n ∙ found
obeyed_stage n stage b (Strike task) e found = found_changed (λ t. t.stage) struck_out (λ t. refl) task b.tasks n ∙ found
obeyed_stage n stage b Front e found = found
obeyed_stage n stage b Budget e found = found
obeyed_stage n stage b Deadline e found = found

pub tasks_keep_their_stages : TasksKeepTheirStages
tasks_keep_their_stages calls stage work number others first =
    let b = book_after calls in
    let one = answered b (NewTask stage work) (Some number) first in
    let place : number ≡ length b.tasks = cc in
    let added : option_map (λ (task : Task). task.stage) (slice_get (step b (NewTask stage work)).tasks number) ≡ Some stage =
    rw (step_accepted b (NewTask stage work) one.0, place, found_push) refl in
    rw (after_append opened calls (NewTask stage work ∷ others))
    (after_keeps (λ c. option_map (λ task. task.stage) (slice_get c.tasks number) ≡ Some stage) (obeyed_stage number stage) (step b (NewTask stage work)) others added)

-- struck tasks
never_standing : (found : Option Task) (task : Task) → found ≡ Some task → task.struck ≡ true → stands found ≡ true → ⊥
never_standing found task is struck stood = both_ways _ (ap stands is ∙ not_from_true _ struck) stood

obeyed_struck : (n : ℕ) (task : Task) → task.struck ≡ true → (b : Book) (call : Call) → accepted ≡ checked b call → slice_get b.tasks n ≡ Some task → slice_get (obeyed b call).tasks n ≡ Some task
obeyed_struck n task struck b Stage e found = found
obeyed_struck n task struck b (NewTask stage work) e found = found_append (λ found. found) task refl b.tasks _ n found
obeyed_struck n task struck b (Rework m work) e found =
    found_other (reworked work) m b.tasks n (λ same. never_standing _ task found struck (subst (λ (k : ℕ). stands (slice_get b.tasks k) ≡ true) same (rework_stands b m work e))) ∙ found
obeyed_struck n task struck b (Strike m) e found =
    found_other struck_out m b.tasks n (λ same. never_standing _ task found struck (subst (λ (k : ℕ). stands (slice_get b.tasks k) ≡ true) same (strike_stands b m e))) ∙ found
obeyed_struck n task struck b Front e found = found
obeyed_struck n task struck b Budget e found = found
obeyed_struck n task struck b Deadline e found = found

pub struck_tasks_stay_as_they_are : StruckTasksStayAsTheyAre
struck_tasks_stay_as_they_are calls others number task found struck =
    rw (after_append opened calls others) (after_keeps (λ b. slice_get b.tasks number ≡ Some task) (obeyed_struck number task struck) (book_after calls) others found)

-- other tasks: whatever the call's checks say
kept_by_step : (other : ℕ) (b : Book) (call : Call) → slice_get (obeyed b call).tasks other ≡ slice_get b.tasks other → slice_get (step b call).tasks other ≡ slice_get b.tasks other
kept_by_step other b call kept = by (checked b call)
  where
    by : (checks : Answer (Unit {0})) → slice_get (elim checks as (λ _. Book) [ Ok _ ↦ obeyed b call | Err refused ↦ b ]).tasks other ≡ slice_get b.tasks other
    by (Ok _) = kept
    by (Err refused) = refl

pub other_tasks_stay_as_they_are : OtherTasksStayAsTheyAre
other_tasks_stay_as_they_are b number other work differ = (
  kept_by_step other b (Rework number work) (found_other (reworked work) number b.tasks other differ),
  kept_by_step other b (Strike number) (found_other struck_out number b.tasks other differ),
)

-- refused calls
step_refused : (b : Book) (call : Call) (refused : Refused) → answer b call ≡ Err refused → step b call ≡ b
step_refused b call refused = by (checked b call)
  where
    by : (checks : Answer (Unit {0})) → elim checks as (λ _. Answer (Option ℕ)) [ Ok _ ↦ Ok (number b call) | Err why ↦ Err why ] ≡ Err refused → elim checks as (λ _. Book) [ Ok _ ↦ obeyed b call | Err why ↦ b ] ≡ b
    by (Ok _) h = cc
    by (Err why) h = refl

pub refused_calls_can_be_left_out : RefusedCallsCanBeLeftOut
refused_calls_can_be_left_out calls call others refused h =
    after_append opened calls (call ∷ others)
    ∙ ap (λ (b : Book). after b others) (step_refused (book_after calls) call refused h)
    ∙ sym (after_append opened calls others)
