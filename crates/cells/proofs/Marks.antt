-- Times marked, machine by machine and task by task
use Rattle.std.proofs.Common.{◌≡◌, ℕ, zero, suc, ◌+◌, ◌<◌, Bool, true, false, cond, not, ◌&&◌, ◌||◌, eqb, List, [], ◌∷◌, ◌++◌, length, get_or, take, set, replicate, Some, None, Option, sym, refl, ap, ◌∙◌, ap₂, inl, inr, zero-add, arith}
use mathlib.Core.Bool.{or_assoc, or-true, or-false}
use Rattle.std.specs.List.{range_with_len, list_any}
use Rattle.std.proofs.lemmas.List.{get_or-set_same, get_or-set_other, get_or-replicate, append-nil}
use Rattle.std.proofs.lemmas.Bool.{cases_eq, eq-eqb, ne_eqb, and_right}
use Rattle.tariffs.specs.Meaning.{Meaning, Ranged}
use Rattle.tariffs.specs.declared.quote.Quote.{Quote}
use Rattle.sheets.specs.declared.task.Task.{Task}
use Rattle.model.specs.Lists.{any, is_empty}
use Rattle.sheets.specs.Tasks.{stands_in}
use Rattle.model.specs.Assignment.{stage_tasks, quote_of, minutes_of}
use Rattle.model.specs.Allowance.{takes}
use Rattle.model.proofs.Assignments.{quote_timed}
use Rattle.model.proofs.Loops.{stage_tasks_more, any_append}

any_counted : (test : ℕ → Bool) (a n : ℕ) → any test (range_with_len a (suc n)) ≡ (any test (range_with_len a n) || test (a + n))
any_counted test a zero = or-false (test a) ∙ ap test (let e : a ≡ a + 0 = omega arith in e)
any_counted test a (suc n) =
    ap (λ (b : Bool). test a || b) (any_counted test (a + 1) n ∙ ap (λ (m : ℕ). any test (range_with_len (a + 1) n) || test m) (let e : a + 1 + n ≡ a + suc n = omega arith in e))
    ∙ sym (or_assoc (test a) (any test (range_with_len (a + 1) n)) (test (a + suc n)))

any_below : (test : ℕ → Bool) (n : ℕ) → any test (range_with_len 0 (n + 1)) ≡ (any test (range_with_len 0 n) || test n)
any_below test n = ap (λ (m : ℕ). any test (range_with_len 0 m)) (let e : n + 1 ≡ suc n = omega arith in e) ∙ any_counted test 0 n ∙ ap (λ (m : ℕ). any test (range_with_len 0 n) || test m) (zero-add n)

-- a place marked
pub set_mark : (marks : List Bool) (i m : ℕ) → i < length marks → get_or (set marks i true) m false ≡ (get_or marks m false || eqb i m)
set_mark marks i m l = elim (cases_eq i m) [
  | inl e ↦ ap (λ (k : ℕ). get_or (set marks i true) k false) (sym e) ∙ get_or-set_same marks i true false l ∙ sym (ap (λ (b : Bool). get_or marks m false || b) (eq-eqb i m e) ∙ or-true (get_or marks m false))
  | inr n ↦ get_or-set_other marks i m true false (λ e. n (sym e)) ∙ sym (ap (λ (b : Bool). get_or marks m false || b) (ne_eqb i m n) ∙ or-false (get_or marks m false))
]

module _ {C : Type 0} (T : Meaning C) (task : Task) (before marks : List Bool) (machine m : ℕ)
    (inv : get_or marks m false ≡ (get_or before m false || any (takes T task m) (range_with_len 0 machine))) where
  one_more : (b : Bool) → takes T task m machine ≡ b → (get_or marks m false || b) ≡ (get_or before m false || any (takes T task m) (range_with_len 0 (machine + 1)))
  one_more b e =
      ap₂ (λ (x y : Bool). x || y) inv (sym e)
      ∙ or_assoc (get_or before m false) (any (takes T task m) (range_with_len 0 machine)) (takes T task m machine)
      ∙ ap (λ (x : Bool). get_or before m false || x) (sym (any_below (takes T task m) machine))

  takes_by_minutes : (o : Option (Quote C)) → quote_of T task machine ≡ o → 0 < minutes_of o → takes T task m machine ≡ eqb (minutes_of o) m
  takes_by_minutes None e some = absurd (omega arith)
  takes_by_minutes (Some q) e some = ap (λ (p : Option (Quote C)). elim p as (λ _. Bool) [ None ↦ false | Some q ↦ eqb q.minutes m ]) e

  takes_none : Ranged T → (o : Option (Quote C)) → quote_of T task machine ≡ o → minutes_of o ≡ 0 → takes T task m machine ≡ false
  takes_none F None e none = ap (λ (p : Option (Quote C)). elim p as (λ _. Bool) [ None ↦ false | Some q ↦ eqb q.minutes m ]) e
  takes_none F (Some q) e none = let timed = quote_timed T F task machine q e in absurd (omega (arith, timed.0))

  pub mark_timed : (minutes : ℕ) → minutes ≡ minutes_of (quote_of T task machine) → 0 < minutes → minutes < length marks
      → get_or (set marks minutes true) m false ≡ (get_or before m false || any (takes T task m) (range_with_len 0 (machine + 1)))
  mark_timed minutes e some l =
      set_mark marks minutes m l
      ∙ one_more (eqb minutes m) (takes_by_minutes (quote_of T task machine) refl (omega arith) ∙ ap (λ (n : ℕ). eqb n m) (sym e))

  pub mark_untimed : Ranged T → minutes_of (quote_of T task machine) ≡ 0 → get_or marks m false ≡ (get_or before m false || any (takes T task m) (range_with_len 0 (machine + 1)))
  mark_untimed F e = sym (or-false (get_or marks m false)) ∙ one_more false (takes_none F (quote_of T task machine) refl e)

-- some machine quotes some task so many minutes
module _ {C : Type 0} (T : Meaning C) where
  abbrev pub quoted_at : List Task → ℕ → Bool
  quoted_at tasks m = any (λ task. any (takes T task m) (range_with_len 0 T.count)) tasks

  module _ (tasks : List Task) (stage i : ℕ) (d : Task) (l : i < length tasks) where
    pub quoted_more : stands_in stage (get_or tasks i d) ≡ true → (m : ℕ) → quoted_at (stage_tasks (take (i + 1) tasks) stage) m ≡ (quoted_at (stage_tasks (take i tasks) stage) m || any (takes T (get_or tasks i d) m) (range_with_len 0 T.count))
    quoted_more e m =
        ap (λ (ts : List Task). quoted_at ts m) (stage_tasks_more tasks stage i d l ∙ ap (λ (b : Bool). stage_tasks (take i tasks) stage ++ cond b (get_or tasks i d ∷ []) []) e)
        ∙ any_append _ (stage_tasks (take i tasks) stage) (get_or tasks i d ∷ [])
        ∙ ap (λ (b : Bool). quoted_at (stage_tasks (take i tasks) stage) m || b) (or-false (any (takes T (get_or tasks i d) m) (range_with_len 0 T.count)))

-- the first place marked or not, and no other
pub first_mark : (mark : Bool) (n m : ℕ) → m < n → get_or (set (replicate n false) 0 mark) m false ≡ ((mark && eqb m 0) || false)
first_mark mark zero m l = elim l [ ]
first_mark true (suc n) zero l = refl
first_mark false (suc n) zero l = refl
first_mark mark (suc n) (suc m) l =
    get_or-replicate n m false false (omega arith)
    ∙ sym (ap (λ (b : Bool). (mark && b) || false) (ne_eqb (suc m) 0 (λ e. absurd (omega arith))) ∙ ap (λ (b : Bool). b || false) (and_right mark false refl))

-- no task stands in the stage
pub none_stands : (tasks : List Task) (stage : ℕ) → not (list_any (stands_in stage) tasks) ≡ is_empty (stage_tasks tasks stage)
none_stands [] stage = refl
none_stands (task ∷ tasks) stage = go (stands_in stage task) (none_stands tasks stage)
  where
    go : (b : Bool) → not (list_any (stands_in stage) tasks) ≡ is_empty (stage_tasks tasks stage) → not (b || list_any (stands_in stage) tasks) ≡ is_empty (cond b (task ∷ stage_tasks tasks stage) (stage_tasks tasks stage))
    go true rest = refl
    go false rest = rest

module _ (tasks : List Task) (stage i : ℕ) (d : Task) (l : i < length tasks) where
  -- a task that does not stand in the stage adds nothing
  pub stage_tasks_past : stands_in stage (get_or tasks i d) ≡ false → stage_tasks (take (i + 1) tasks) stage ≡ stage_tasks (take i tasks) stage
  stage_tasks_past e = stage_tasks_more tasks stage i d l ∙ ap (λ (b : Bool). stage_tasks (take i tasks) stage ++ cond b (get_or tasks i d ∷ []) []) e ∙ append-nil (stage_tasks (take i tasks) stage)
