-- What the questions answer is read off the front
use Rattle.std.proofs.Common.{◌≡◌, ℕ, Bool, true, false, ◌↔◌, List, [], length, take, Ok, Err, Result, refl, sym, ap, ◌∙◌, subst, inl, inr, arith}
use Rattle.std.proofs.lemmas.List.{length-take-le}
use Rattle.refusals.specs.Answer.{Answer, Refused, plain, carrying, answer_of, refused_if}
use Rattle.costs.specs.Kind.{Kind, Laws}
use Rattle.tariffs.specs.Meaning.{Meaning, Ranged}
use Rattle.sheets.specs.declared.sheet.Sheet.{Sheet}
use Rattle.sheets.specs.Book.{Book, book}
use Rattle.sheets.proofs.Calls.{of_every_sheet}
use Rattle.model.specs.declared.cell.Cell.{Cell}
use Rattle.model.specs.declared.point.Point.{Point}
use Rattle.model.specs.Lists.{In}
use Rattle.model.specs.Assignment.{standing, HasAssignment}
use Rattle.model.specs.Front.{front}
use Rattle.model.specs.FrontAnswers.{FrontDecides, FrontAnswers}
use Rattle.model.specs.Limit.{budget_result, deadline_result}
use Rattle.model.specs.Question.{few_cells, short_plan, limit_answer}
use Rattle.model.proofs.FrontsInWords.{front_in_words}
use Rattle.model.proofs.FrontEnds.{fronts_without_stages_or_quotes}
use Rattle.model.proofs.FrontAnswering.{fronts_answer_limits}
use Rattle.planner.specs.declared.refusal.QuestionRefusal.{QuestionRefusal}
use Rattle.planner.specs.declared.refusal.QuestionRefusal.TheVariants.{TooFewCells, TooShort, Unquoted, NoneWithin}
use Rattle.planner.specs.Refusal.{question_told}
use Rattle.planner.specs.Words.{FrontTells}
use Rattle.planner.specs.OffTheFront.{MemorySuffices, FrontBelow, FrontEmpty, BudgetOffTheFront, DeadlineOffTheFront}

-- refusals that are told alike have one number
one_number : {A : Type 0} (x y : Refused) → ◌≡◌ {A = Answer A} (Err x) (Err y) → x.number ≡ y.number
one_number x y e = let r : x ≡ y = cc in ap (λ (z : Refused). z.number) r

module _ {C : Type 0} where
  -- behind 7 and 8 what is told is the result
  told_behind : (few short : Bool) (result : Answer (Point C)) (r : Result (Point C) QuestionRefusal) → MemorySuffices r
      → answer_of question_told r ≡ refused_if few 7 (refused_if short 8 result) → answer_of question_told r ≡ result
  told_behind false false result r enough e = e
  told_behind true short result r enough e = absurd (go r enough e)
    where
      go : (r : Result (Point C) QuestionRefusal) → MemorySuffices r → answer_of question_told r ≡ Err (plain 7) → ⊥
      go (Ok p) m e = cc
      go (Err TooFewCells) m e = m.0 refl
      go (Err TooShort) m e = let n = one_number (plain 8) (plain 7) e in omega arith
      go (Err (Unquoted task)) m e = let n = one_number (carrying 9 task) (plain 7) e in omega arith
      go (Err NoneWithin) m e = let n = one_number (plain 10) (plain 7) e in omega arith
  told_behind false true result r enough e = absurd (go r enough e)
    where
      go : (r : Result (Point C) QuestionRefusal) → MemorySuffices r → answer_of question_told r ≡ Err (plain 8) → ⊥
      go (Ok p) m e = cc
      go (Err TooFewCells) m e = let n = one_number (plain 7) (plain 8) e in omega arith
      go (Err TooShort) m e = m.1 refl
      go (Err (Unquoted task)) m e = let n = one_number (carrying 9 task) (plain 8) e in omega arith
      go (Err NoneWithin) m e = let n = one_number (plain 10) (plain 8) e in omega arith

  -- what was answered, by what was told
  answered_told : (r : Result (Point C) QuestionRefusal) (p : Point C) → answer_of question_told r ≡ Ok p → r ≡ Ok p
  answered_told (Ok q) p e = let s : q ≡ p = cc in ap Ok s
  answered_told (Err refusal) p e = cc

  nine_told : (r : Result (Point C) QuestionRefusal) (n : ℕ) → answer_of question_told r ≡ Err (carrying 9 n) → (task : ℕ) × (r ≡ Err (Unquoted task))
  nine_told (Ok q) n e = cc
  nine_told (Err TooFewCells) n e = let m = one_number (plain 7) (carrying 9 n) e in absurd (omega arith)
  nine_told (Err TooShort) n e = let m = one_number (plain 8) (carrying 9 n) e in absurd (omega arith)
  nine_told (Err (Unquoted task)) n e = (task, refl)
  nine_told (Err NoneWithin) n e = let m = one_number (plain 10) (carrying 9 n) e in absurd (omega arith)

  ten_told : (r : Result (Point C) QuestionRefusal) → answer_of question_told r ≡ Err (plain 10) → r ≡ Err NoneWithin
  ten_told (Ok q) e = cc
  ten_told (Err TooFewCells) e = let m = one_number (plain 7) (plain 10) e in absurd (omega arith)
  ten_told (Err TooShort) e = let m = one_number (plain 8) (plain 10) e in absurd (omega arith)
  ten_told (Err (Unquoted task)) e = let m = one_number (carrying 9 task) (plain 10) e in absurd (omega arith)
  ten_told (Err NoneWithin) e = refl

module _ {C : Type 0} {K : Kind C} (laws : Laws K) (T : Meaning C) (ranged : Ranged T) (sheet : Sheet) where
  abbrev b : Book
  b = book sheet

  decided : FrontAnswers K T b
  decided = of_every_sheet (FrontAnswers K T) (fronts_answer_limits laws T ranged) sheet

  -- what the front decides of a result it decides of what is answered with it
  decided_told : {IsChosen Within : Point C → Type 0} (cells : List (Cell C)) (bytes : List ℕ) (result : Answer (Point C)) (r : Result (Point C) QuestionRefusal)
      → answer_of question_told r ≡ limit_answer T b cells bytes result → MemorySuffices r
      → FrontDecides K T b IsChosen Within (λ p. result ≡ Ok p) ((n : ℕ) × (result ≡ Err (carrying 9 n))) (result ≡ Err (plain 10))
      → FrontDecides K T b IsChosen Within (λ p. r ≡ Ok p) ((task : ℕ) × (r ≡ Err (Unquoted task))) (r ≡ Err NoneWithin)
  decided_told cells bytes result r answer enough front = record {
    answered = λ p. ((λ e. (front.answered p).0 (sym told ∙ ap (answer_of question_told) e)), λ h. answered_told r p (told ∙ (front.answered p).1 h));
    unquoted = ((λ e. front.unquoted.0 (to_nine e)), λ h. of_nine (front.unquoted.1 h));
    none_within = ((λ e. front.none_within.0 (to_ten e)), λ h. of_ten (front.none_within.1 h));
    no_point = (
      (λ e. front.no_point.0 (elim e [ inl n ↦ inl (to_nine n) | inr t ↦ inr (to_ten t) ])),
      (λ h. elim (front.no_point.1 h) [ inl n ↦ inl (of_nine n) | inr t ↦ inr (of_ten t) ]),
    );
  }
    where
      told : answer_of question_told r ≡ result
      told = told_behind (few_cells T b cells) (short_plan T b bytes) result r enough answer

      to_nine : ((task : ℕ) × (r ≡ Err (Unquoted task))) → (n : ℕ) × (result ≡ Err (carrying 9 n))
      to_nine e = (e.0, sym told ∙ ap (answer_of question_told) e.1)

      of_nine : ((n : ℕ) × (result ≡ Err (carrying 9 n))) → (task : ℕ) × (r ≡ Err (Unquoted task))
      of_nine e = nine_told r e.0 (told ∙ e.1)

      to_ten : r ≡ Err NoneWithin → result ≡ Err (plain 10)
      to_ten e = sym told ∙ ap (answer_of question_told) e

      of_ten : result ≡ Err (plain 10) → r ≡ Err NoneWithin
      of_ten e = ten_told r (told ∙ e)

  pub budget_off_the_front : (limit : C) (cells : List (Cell C)) (bytes : List ℕ) (r : Result (Point C) QuestionRefusal)
      → answer_of question_told r ≡ limit_answer T b cells bytes (budget_result K T b limit) → BudgetOffTheFront K T b limit r
  unfolding BudgetOffTheFront
  budget_off_the_front limit cells bytes r answer = λ enough. decided_told cells bytes (budget_result K T b limit) r answer enough (decided.budgets limit)

  pub deadline_off_the_front : (limit : ℕ) (cells : List (Cell C)) (bytes : List ℕ) (r : Result (Point C) QuestionRefusal)
      → answer_of question_told r ≡ limit_answer T b cells bytes (deadline_result K T b limit) → DeadlineOffTheFront K T b limit r
  unfolding DeadlineOffTheFront
  deadline_off_the_front limit cells bytes r answer = λ enough. decided_told cells bytes (deadline_result K T b limit) r answer enough (decided.deadlines limit)

  pub front_below : (points : List (Point C)) (r : Result ℕ QuestionRefusal) → FrontTells K T b points r → FrontBelow K T b points r
  unfolding FrontBelow
  front_below points (Ok count) tells = λ q has.
      let d = decided.below q has in
      let e = (front_in_words laws T ranged (standing b) (take count points)).0 tells.1 in
      (d.0, subst (λ (ps : List (Point C)). In d.0 ps) (sym e) d.1, d.2, d.3)
  front_below points (Err refusal) tells = tt

  none_assigned : (front K T b ≡ []) ↔ (HasAssignment T b → ⊥)
  none_assigned = of_every_sheet (λ (other : Book). (front K T other ≡ []) ↔ (HasAssignment T other → ⊥)) ((fronts_without_stages_or_quotes laws).no_assignment T ranged) sheet

  pub front_empty : (points : List (Point C)) (r : Result ℕ QuestionRefusal) → FrontTells K T b points r → FrontEmpty K T b r
  unfolding FrontEmpty
  front_empty points (Ok count) tells =
      let e : take count points ≡ front K T b = (front_in_words laws T ranged (standing b) (take count points)).0 tells.1 in
      let l = length-take-le count points tells.0 in (
        (λ z. none_assigned.0 (sym e ∙ ap (λ (n : ℕ). take n points) z)),
        (λ h. sym l ∙ ap length (e ∙ none_assigned.1 h)),
      )
  front_empty points (Err refusal) tells = tt
