-- Of the refusals that apply to a call the smallest is told
use Rattle.std.proofs.Common.{◌≡◌, ℕ, ◌<◌, ◌≤◌, Bool, true, false, not, leb, length, Some, None, Ok, Err, Option, refl, ap, ◌∙◌, inl, inr, ⊎_elim, arith}
use Rattle.std.specs.List.{slice_get}
use Rattle.std.proofs.lemmas.Bool.{both_ways, leb-true, leb-false, not-true, not_from_false, and_cases}
use Rattle.refusals.specs.Answer.{Answer, refused_if}
use Rattle.sheets.specs.declared.call.Call.{Call}
use Rattle.sheets.specs.declared.call.Call.TheVariants.{Stage, Task as NewTask, Rework, Strike, Front, Budget, Deadline}
use Rattle.sheets.specs.declared.refusal.SheetRefusal.{SheetRefusal}
use Rattle.sheets.specs.declared.refusal.SheetRefusal.TheVariants.{Full, Unknown, WorkOutOfRange}
use Rattle.sheets.specs.declared.task.Task.{Task}
use Rattle.work.specs.Work.{work_in_range}
use Rattle.sheets.specs.Tasks.{max_stages, max_tasks, stands}
use Rattle.sheets.specs.Refusals.{sheet_told}
use Rattle.sheets.specs.Book.{Book, accepted, checked, number}
use Rattle.sheets.specs.Applies.{Standing, OutOfRange, Applies, stage_at_the_limit, task_at_the_limit, task_of_no_stage, rework_of_none_standing, strike_of_none_standing, task_out_of_range, rework_out_of_range, IsSmallest, TheSmallestRefusalIsTold}
use Rattle.sheets.proofs.Books.{range_of_work}

-- the tests of the book in words
out_of_range : (work : ℕ) → work_in_range work ≡ false → OutOfRange work
out_of_range work e = ⊎_elim (λ low. inl (leb-false _ _ low)) (λ high. inr (leb-false _ _ high)) (and_cases _ _ e)

never_out : (work : ℕ) → work_in_range work ≡ true → OutOfRange work → ⊥
never_out work e (inl low) = let range = range_of_work work e in absurd (omega arith)
never_out work e (inr high) = let range = range_of_work work e in absurd (omega arith)

none_standing : (book : Book) (task : ℕ) → stands (slice_get book.tasks task) ≡ false → Standing book task → ⊥
none_standing book task e standing = both_ways _ e (ap stands standing.1 ∙ not_from_false _ standing.2)

some_standing : (found : Option Task) → stands found ≡ true → (task : Task) × (found ≡ Some task) × (task.struck ≡ false)
some_standing None e = absurd (both_ways false refl e)
some_standing (Some task) e = (task, refl, not-true _ e)

abbrev Verdict : Book → Call → Answer (Unit {0}) → Type 0
Verdict book call (Ok _) = (refusal : SheetRefusal) → Applies book refusal call → ⊥
Verdict book call (Err refused) = IsSmallest book call refused

-- at each call: the number that a refusal has at least, and that none applies
from_one : (other : SheetRefusal) → 1 ≤ (sheet_told other).number
from_one Full = omega arith
from_one Unknown = omega arith
from_one WorkOutOfRange = omega arith

stage_none : (book : Book) → book.stages < max_stages → (refusal : SheetRefusal) → Applies book refusal Stage → ⊥
stage_none book room refusal (stage_at_the_limit h) = omega arith

task_from_two : (book : Book) (stage work : ℕ) → length book.tasks < max_tasks → (other : SheetRefusal) → Applies book other (NewTask stage work) → 2 ≤ (sheet_told other).number
task_from_two book stage work room other (task_at_the_limit h) = absurd (omega arith)
task_from_two book stage work room other (task_of_no_stage h) = omega arith
task_from_two book stage work room other (task_out_of_range h) = omega arith

task_from_three : (book : Book) (stage work : ℕ) → length book.tasks < max_tasks → stage < book.stages → (other : SheetRefusal) → Applies book other (NewTask stage work) → 3 ≤ (sheet_told other).number
task_from_three book stage work room known other (task_at_the_limit h) = absurd (omega arith)
task_from_three book stage work room known other (task_of_no_stage h) = absurd (omega arith)
task_from_three book stage work room known other (task_out_of_range h) = omega arith

task_none : (book : Book) (stage work : ℕ) → length book.tasks < max_tasks → stage < book.stages → work_in_range work ≡ true → (refusal : SheetRefusal) → Applies book refusal (NewTask stage work) → ⊥
task_none book stage work room known range refusal (task_at_the_limit h) = omega arith
task_none book stage work room known range refusal (task_of_no_stage h) = omega arith
task_none book stage work room known range refusal (task_out_of_range h) = never_out work range h

rework_from_two : (book : Book) (task work : ℕ) (other : SheetRefusal) → Applies book other (Rework task work) → 2 ≤ (sheet_told other).number
rework_from_two book task work other (rework_of_none_standing h) = omega arith
rework_from_two book task work other (rework_out_of_range h) = omega arith

rework_from_three : (book : Book) (task work : ℕ) → Standing book task → (other : SheetRefusal) → Applies book other (Rework task work) → 3 ≤ (sheet_told other).number
rework_from_three book task work standing other (rework_of_none_standing h) = absurd (h standing)
rework_from_three book task work standing other (rework_out_of_range h) = omega arith

rework_none : (book : Book) (task work : ℕ) → Standing book task → work_in_range work ≡ true → (refusal : SheetRefusal) → Applies book refusal (Rework task work) → ⊥
rework_none book task work standing range refusal (rework_of_none_standing h) = h standing
rework_none book task work standing range refusal (rework_out_of_range h) = never_out work range h

strike_from_two : (book : Book) (task : ℕ) (other : SheetRefusal) → Applies book other (Strike task) → 2 ≤ (sheet_told other).number
strike_from_two book task other (strike_of_none_standing h) = omega arith

strike_none : (book : Book) (task : ℕ) → Standing book task → (refusal : SheetRefusal) → Applies book refusal (Strike task) → ⊥
strike_none book task standing refusal (strike_of_none_standing h) = h standing

-- nothing applies to a question
abbrev NoQuestion : Call → Type 0
NoQuestion Stage = Unit {0}
NoQuestion (NewTask stage work) = Unit {0}
NoQuestion (Rework task work) = Unit {0}
NoQuestion (Strike task) = Unit {0}
NoQuestion Front = ⊥
NoQuestion Budget = ⊥
NoQuestion Deadline = ⊥

no_question : (book : Book) (call : Call) (refusal : SheetRefusal) → Applies book refusal call → NoQuestion call
no_question book call refusal (stage_at_the_limit h) = tt
no_question book call refusal (task_at_the_limit h) = tt
no_question book call refusal (task_of_no_stage h) = tt
no_question book call refusal (rework_of_none_standing h) = tt
no_question book call refusal (strike_of_none_standing h) = tt
no_question book call refusal (task_out_of_range h) = tt
no_question book call refusal (rework_out_of_range h) = tt

verdict : (book : Book) (call : Call) → Verdict book call (checked book call)
verdict book Stage = by (leb max_stages book.stages) refl
  where
    by : (full : Bool) → leb max_stages book.stages ≡ full → Verdict book Stage (refused_if full 1 accepted)
    by true e = record { refusal = Full; told = refl; applies = stage_at_the_limit (leb-true _ _ e); smallest = λ other _. from_one other }
    by false e = stage_none book (leb-false _ _ e)
verdict book (NewTask stage work) = by (leb max_tasks (length book.tasks)) refl (leb book.stages stage) refl (work_in_range work) refl
  where
    by : (full : Bool) → leb max_tasks (length book.tasks) ≡ full → (unknown : Bool) → leb book.stages stage ≡ unknown → (range : Bool) → work_in_range work ≡ range → Verdict book (NewTask stage work) (refused_if full 1 (refused_if unknown 2 (refused_if (not range) 3 accepted)))
    by true e unknown u range r = record { refusal = Full; told = refl; applies = task_at_the_limit (leb-true _ _ e); smallest = λ other _. from_one other }
    by false e true u range r = record { refusal = Unknown; told = refl; applies = task_of_no_stage (leb-true _ _ u); smallest = task_from_two book stage work (leb-false _ _ e) }
    by false e false u false r = record { refusal = WorkOutOfRange; told = refl; applies = task_out_of_range (out_of_range work r); smallest = task_from_three book stage work (leb-false _ _ e) (leb-false _ _ u) }
    by false e false u true r = task_none book stage work (leb-false _ _ e) (leb-false _ _ u) r
verdict book (Rework task work) = by (stands (slice_get book.tasks task)) refl (work_in_range work) refl
  where
    by : (stood : Bool) → stands (slice_get book.tasks task) ≡ stood → (range : Bool) → work_in_range work ≡ range → Verdict book (Rework task work) (refused_if (not stood) 2 (refused_if (not range) 3 accepted))
    by false e range r = record { refusal = Unknown; told = refl; applies = rework_of_none_standing (none_standing book task e); smallest = rework_from_two book task work }
    by true e false r = record { refusal = WorkOutOfRange; told = refl; applies = rework_out_of_range (out_of_range work r); smallest = rework_from_three book task work (some_standing _ e) }
    by true e true r = rework_none book task work (some_standing _ e) r
verdict book (Strike task) = by (stands (slice_get book.tasks task)) refl
  where
    by : (stood : Bool) → stands (slice_get book.tasks task) ≡ stood → Verdict book (Strike task) (refused_if (not stood) 2 accepted)
    by false e = record { refusal = Unknown; told = refl; applies = strike_of_none_standing (none_standing book task e); smallest = strike_from_two book task }
    by true e = strike_none book task (some_standing _ e)
verdict book Front = no_question book Front
verdict book Budget = no_question book Budget
verdict book Deadline = no_question book Deadline

pub the_smallest_refusal_is_told : TheSmallestRefusalIsTold
the_smallest_refusal_is_told book call = by (checked book call) (verdict book call)
  where
    by : (outcome : Answer (Unit {0})) → Verdict book call outcome → elim (elim outcome as (λ _. Answer (Option ℕ)) [ Ok _ ↦ Ok (number book call) | Err why ↦ Err why ]) as (λ _. Type 0) [ Ok _ ↦ ((refusal : SheetRefusal) → Applies book refusal call → ⊥) | Err refused ↦ IsSmallest book call refused ]
    by (Ok _) none = none
    by (Err why) smallest = smallest
