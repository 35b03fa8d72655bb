-- What the questions leave is as long as the memory that they were lent
use Rattle.std.proofs.Common.{◌≡◌, ℕ, ◌<◌, ◌≤◌, Bool, true, false, cond, ◌||◌, ltb, List, ◌++◌, length, drop, is_some, Some, None, Ok, Err, Option, refl, ap, ◌∙◌, arith}
use Rattle.std.proofs.lemmas.List.{length-append, length-drop, length-map}
use Rattle.std.proofs.lemmas.Bool.{ltb-false}
use Rattle.refusals.specs.Answer.{Answer, Refused, plain, carrying, refused_if}
use Rattle.costs.specs.Kind.{Kind}
use Rattle.tariffs.specs.Meaning.{Meaning}
use Rattle.sheets.specs.Book.{Book}
use Rattle.model.specs.declared.cell.Cell.{Cell}
use Rattle.model.specs.declared.point.Point.{Point}
use Rattle.model.specs.Assignment.{standing}
use Rattle.model.specs.Front.{front}
use Rattle.model.specs.Cell.{cells_needed, table}
use Rattle.model.specs.Limit.{lowest_unquoted, or_none_within, unless_unquoted, within_budget, within_deadline, budget_result, deadline_result}
use Rattle.model.specs.Plan.{plan, byte_under, allowances_for}
use Rattle.model.specs.Question.{few_cells, short_plan, filled, limit_bytes, budget_answer, deadline_answer, QuestionsKeepMemory, RefusedQuestionsAlterNothing}
use Rattle.model.proofs.Tables.{laid_out}

-- written first, and the rest kept
written_length : {A : Type 0} (written before : List A) (n : ℕ) → length written ≡ n → n ≤ length before → length (written ++ drop n before) ≡ length before
written_length written before n e l = length-append written (drop n before) ∙ omega (arith, length-drop n before)

-- refusals of two numbers are apart
apart : {A : Type 0} (m n : ℕ) → plain m ≡ plain n → (m ≡ n → ⊥) → A
apart m n e h = absurd (h (ap (λ (refused : Refused). refused.number) e))

module _ {C : Type 0} (K : Kind C) (T : Meaning C) (book : Book) where
  pub filled_length : (cells : List (Cell C)) → few_cells T book cells ≡ false → length (filled K T book cells) ≡ length cells
  filled_length cells e = written_length (table K T book) cells (cells_needed T book) (laid_out K T book).size (ltb-false _ _ e)

  unless_few : (cells : List (Cell C)) (b : Bool) → few_cells T book cells ≡ b → (others : Bool) → length (cond (b || others) cells (filled K T book cells)) ≡ length cells
  unless_few cells true e others = refl
  unless_few cells false e true = refl
  unless_few cells false e false = filled_length cells e

  front_cells_kept : (cells : List (Cell C)) (b : Bool) → few_cells T book cells ≡ b → length (cond b cells (filled K T book cells)) ≡ length cells
  front_cells_kept cells true e = refl
  front_cells_kept cells false e = filled_length cells e

  points_kept : (points : List (Point C)) (x y : Bool) → ltb (length points) (length (front K T book)) ≡ y →
      length (elim (refused_if x 7 (refused_if y 8 (Ok (length (front K T book))))) as (λ _. List (Point C)) [ Ok n ↦ front K T book ++ drop n points | Err refused ↦ points ]) ≡ length points
  points_kept points true y e = refl
  points_kept points false true e = refl
  points_kept points false false e = written_length (front K T book) points (length (front K T book)) refl (ltb-false _ _ e)

  bytes_kept : (bytes : List ℕ) (result : Answer (Point C)) (x y : Bool) → short_plan T book bytes ≡ y → length (limit_bytes K T book (refused_if x 7 (refused_if y 8 result)) bytes) ≡ length bytes
  bytes_kept bytes result true y e = refl
  bytes_kept bytes result false true e = refl
  bytes_kept bytes (Ok p) false false e = written_length (plan K T book p) bytes (length book.tasks) (length-map book.tasks (byte_under K T (allowances_for K T book p))) (ltb-false _ _ e)
  bytes_kept bytes (Err refused) false false e = refl

  -- what is left when a question is refused, by its tests
  abbrev counted : Bool → Bool → Answer ℕ
  counted few short = refused_if few 7 (refused_if short 8 (Ok (length (front K T book))))

  front_refused : (points : List (Point C)) (few short : Bool) (refused : Refused) → counted few short ≡ Err refused →
      elim (counted few short) as (λ _. List (Point C)) [ Ok n ↦ front K T book ++ drop n points | Err why ↦ points ] ≡ points
  front_refused points true short refused e = refl
  front_refused points false true refused e = refl
  front_refused points false false refused e = cc

  front_few : (cells : List (Cell C)) (few short : Bool) → counted few short ≡ Err (plain 7) → cond few cells (filled K T book cells) ≡ cells
  front_few cells true short e = refl
  front_few cells false true e = let r : plain 8 ≡ plain 7 = cc in apart 8 7 r (λ z. omega arith)
  front_few cells false false e = cc

  front_short : (cells : List (Cell C)) (few short : Bool) → counted few short ≡ Err (plain 8) → cond few cells (filled K T book cells) ≡ filled K T book cells
  front_short cells true short e = let r : plain 7 ≡ plain 8 = cc in apart 7 8 r (λ z. omega arith)
  front_short cells false short e = refl

  bytes_refused : (bytes : List ℕ) (answer : Answer (Point C)) (refused : Refused) → answer ≡ Err refused → limit_bytes K T book answer bytes ≡ bytes
  bytes_refused bytes (Ok p) refused e = cc
  bytes_refused bytes (Err why) refused e = refl

  abbrev limited : Bool → Bool → Option ℕ → Option (Point C) → Answer (Point C)
  limited few short lowest found = refused_if few 7 (refused_if short 8 (unless_unquoted lowest (or_none_within found)))

  limit_early : (cells : List (Cell C)) (few short : Bool) (lowest : Option ℕ) (found : Option (Point C)) (refused : Refused) → limited few short lowest found ≡ Err refused → refused.number < 10 →
      cond (few || (short || is_some lowest)) cells (filled K T book cells) ≡ cells
  limit_early cells true short lowest found refused e l = refl
  limit_early cells false true lowest found refused e l = refl
  limit_early cells false false (Some n) found refused e l = refl
  limit_early cells false false None None refused e l = let r : plain 10 ≡ refused = cc in let z : ◌≡◌ {A = ℕ} 10 refused.number = ap (λ (x : Refused). x.number) r in absurd (omega arith)
  limit_early cells false false None (Some p) refused e l = cc

  limit_late : (cells : List (Cell C)) (few short : Bool) (lowest : Option ℕ) (found : Option (Point C)) → limited few short lowest found ≡ Err (plain 10) →
      cond (few || (short || is_some lowest)) cells (filled K T book cells) ≡ filled K T book cells
  limit_late cells true short lowest found e = let r : plain 7 ≡ plain 10 = cc in apart 7 10 r (λ z. omega arith)
  limit_late cells false true lowest found e = let r : plain 8 ≡ plain 10 = cc in apart 8 10 r (λ z. omega arith)
  limit_late cells false false (Some n) found e = let r : carrying 9 n ≡ plain 10 = cc in let z : ◌≡◌ {A = ℕ} 9 10 = ap (λ (x : Refused). x.number) r in absurd (omega arith)
  limit_late cells false false None found e = refl

pub refused_questions_alter_nothing : {C : Type 0} (K : Kind C) → RefusedQuestionsAlterNothing K
refused_questions_alter_nothing {C} K T book = record {
  front_refused = λ cells points refused. front_refused K T book points (few_cells T book cells) (short points) refused;
  front_few = λ cells points. front_few K T book cells (few_cells T book cells) (short points);
  front_short = λ cells points. front_short K T book cells (few_cells T book cells) (short points);
  budget_refused = λ limit cells bytes refused. bytes_refused K T book bytes (budget_answer K T book limit cells bytes) refused;
  budget_early = λ limit cells bytes refused. limit_early K T book cells (few_cells T book cells) (short_plan T book bytes) (lowest_unquoted T book) (within_budget K T (standing book) limit) refused;
  budget_late = λ limit cells bytes. limit_late K T book cells (few_cells T book cells) (short_plan T book bytes) (lowest_unquoted T book) (within_budget K T (standing book) limit);
  deadline_refused = λ limit cells bytes refused. bytes_refused K T book bytes (deadline_answer K T book limit cells bytes) refused;
  deadline_early = λ limit cells bytes refused. limit_early K T book cells (few_cells T book cells) (short_plan T book bytes) (lowest_unquoted T book) (within_deadline K T (standing book) limit) refused;
  deadline_late = λ limit cells bytes. limit_late K T book cells (few_cells T book cells) (short_plan T book bytes) (lowest_unquoted T book) (within_deadline K T (standing book) limit);
}
  where
    short : List (Point C) → Bool
    short points = ltb (length points) (length (front K T book))

pub questions_keep_memory : {C : Type 0} (K : Kind C) → QuestionsKeepMemory K
questions_keep_memory K T book = record {
  front_cells_kept = λ cells. front_cells_kept K T book cells (few_cells T book cells) refl;
  front_points_kept = λ cells points. points_kept K T book points (few_cells T book cells) (ltb (length points) (length (front K T book))) refl;
  limit_cells_kept = λ cells bytes. unless_few K T book cells (few_cells T book cells) refl (short_plan T book bytes || is_some (lowest_unquoted T book));
  budget_bytes_kept = λ limit cells bytes. bytes_kept K T book bytes (budget_result K T book limit) (few_cells T book cells) (short_plan T book bytes) refl;
  deadline_bytes_kept = λ limit cells bytes. bytes_kept K T book bytes (deadline_result K T book limit) (few_cells T book cells) (short_plan T book bytes) refl;
}
