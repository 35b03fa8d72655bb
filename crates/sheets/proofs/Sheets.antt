-- The first places of a sheet's table as the tasks of its book
use Rattle.std.proofs.Common.{◌≡◌, ℕ, zero, suc, ◌+◌, ◌<◌, ◌≤◌, true, List, [], ◌∷◌, length, get_or, take, set, None, sym, refl, ap, ◌∙◌, subst, inl, inr, arith}
use lib.Seq.{take-set-lt}
use Rattle.std.specs.List.{slice_get}
use Rattle.std.proofs.lemmas.List.{length-take-le, get_or-take, get_or_default, take_more_set}
use Rattle.std.proofs.lemmas.Option.{slice_get_past}
use Rattle.std.proofs.lemmas.Bool.{cases_lt, both_ways}
use Rattle.sheets.specs.declared.sheet.Sheet.{Sheet}
use Rattle.sheets.specs.declared.task.Task.{Task}
use Rattle.sheets.specs.declared.call.Call.TheVariants.{Task as NewTask, Rework, Strike}
use Rattle.sheets.specs.Tasks.{no_task, new_task, reworked, struck_out, stands, SoundTask}
use Rattle.sheets.specs.Book.{book, book_of, accepted, checked, changed, step}
use Rattle.sheets.proofs.Books.{task_fits, rework_stands, strike_stands, step_accepted}

pub count_is : (sheet : Sheet) → length (book sheet).tasks ≡ sheet.count
count_is sheet = length-take-le sheet.count sheet.tasks (omega arith)

pub found_past : (sheet : Sheet) (n : ℕ) → sheet.count ≤ n → slice_get (book sheet).tasks n ≡ None
found_past sheet n h = slice_get_past (book sheet).tasks n (omega (arith, count_is sheet))

pub standing_within : (sheet : Sheet) (n : ℕ) → stands (slice_get (book sheet).tasks n) ≡ true → n < sheet.count
standing_within sheet n h = elim (cases_lt n sheet.count) [ inl lt ↦ lt | inr past ↦ absurd (both_ways _ (ap stands (found_past sheet n past)) h) ]

pub sound_within : (sheet : Sheet) (n : ℕ) (d : Task) → n < length (book sheet).tasks → SoundTask sheet.stages (get_or (book sheet).tasks n d)
sound_within sheet n d h =
    let within : n < sheet.count = omega (arith, count_is sheet) in
    subst (SoundTask sheet.stages)
    (sym (get_or-take sheet.count sheet.tasks n no_task within) ∙ get_or_default (book sheet).tasks n no_task d h)
    (sheet.sound n within)

-- a change by number writes one place
pub changed_set : (change : Task → Task) (tasks : List Task) (n : ℕ) → changed change n tasks ≡ set tasks n (change (get_or tasks n no_task))
changed_set change [] n = refl
changed_set change (task ∷ tasks) zero = refl
changed_set change (task ∷ tasks) (suc n) = ap (λ (rest : List Task). task ∷ rest) (changed_set change tasks n)

changed_front : (change : Task → Task) (sheet : Sheet) (n : ℕ) → n < sheet.count → take sheet.count (set sheet.tasks n (change (get_or sheet.tasks n no_task))) ≡ changed change n (book sheet).tasks
changed_front change sheet n h =
    rw (changed_set change (book sheet).tasks n, get_or-take sheet.count sheet.tasks n no_task h)
    (take-set-lt sheet.count sheet.tasks n (change (get_or sheet.tasks n no_task)) h)

-- what an accepted call may rely on, and what its write makes of the book
pub task_room : (sheet : Sheet) (stage work : ℕ) → accepted ≡ checked (book sheet) (NewTask stage work) → sheet.count < length sheet.tasks
task_room sheet stage work e = omega (arith, task_fits (book sheet) stage work e, count_is sheet)

pub task_written : (sheet : Sheet) (stage work : ℕ) → accepted ≡ checked (book sheet) (NewTask stage work) → book_of sheet.stages (take (sheet.count + 1) (set sheet.tasks sheet.count (new_task stage work))) ≡ step (book sheet) (NewTask stage work)
task_written sheet stage work e =
    ap (book_of sheet.stages) (take_more_set sheet.tasks sheet.count (new_task stage work) (task_room sheet stage work e))
    ∙ sym (step_accepted (book sheet) (NewTask stage work) e)

pub rework_within : (sheet : Sheet) (task work : ℕ) → accepted ≡ checked (book sheet) (Rework task work) → task < sheet.count
rework_within sheet task work e = standing_within sheet task (rework_stands (book sheet) task work e)

pub rework_written : (sheet : Sheet) (task work : ℕ) → accepted ≡ checked (book sheet) (Rework task work) → book_of sheet.stages (take sheet.count (set sheet.tasks task (reworked work (get_or sheet.tasks task no_task)))) ≡ step (book sheet) (Rework task work)
rework_written sheet task work e =
    ap (book_of sheet.stages) (changed_front (reworked work) sheet task (rework_within sheet task work e))
    ∙ sym (step_accepted (book sheet) (Rework task work) e)

pub strike_within : (sheet : Sheet) (task : ℕ) → accepted ≡ checked (book sheet) (Strike task) → task < sheet.count
strike_within sheet task e = standing_within sheet task (strike_stands (book sheet) task e)

pub strike_written : (sheet : Sheet) (task : ℕ) → accepted ≡ checked (book sheet) (Strike task) → book_of sheet.stages (take sheet.count (set sheet.tasks task (struck_out (get_or sheet.tasks task no_task)))) ≡ step (book sheet) (Strike task)
strike_written sheet task e =
    ap (book_of sheet.stages) (changed_front struck_out sheet task (strike_within sheet task e))
    ∙ sym (step_accepted (book sheet) (Strike task) e)
