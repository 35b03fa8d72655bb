-- The front decides every limit
use Rattle.std.specs.Prelude.{◌≡◌, ℕ, ◌<◌, ◌≤◌, true, ◌⊎◌, ◌↔◌, List, Ok, Err}
use Rattle.refusals.specs.Answer.{plain, carrying}
use Rattle.costs.specs.Kind.{Kind}
use Rattle.tariffs.specs.Meaning.{Meaning, Ranged}
use Rattle.sheets.specs.Book.{Book}
use Rattle.sheets.specs.History.{book_after}
use Rattle.sheets.specs.declared.call.Call.{Call}
use Rattle.model.specs.declared.point.Point.{Point}
use Rattle.model.specs.Lists.{In}
use Rattle.model.specs.Assignment.{standing, HasAssignment, HasPair}
use Rattle.model.specs.Front.{front}
use Rattle.model.specs.Limit.{budget_result, deadline_result}

-- the pair costs at most a budget
abbrev pub WithinBudget : {C : Type 0} → Kind C → C → Point C → Type 0
WithinBudget K limit p = K.at_most p.cost limit ≡ true

-- the pair is no longer than a deadline
abbrev pub WithinDeadline : {C : Type 0} → ℕ → Point C → Type 0
WithinDeadline limit p = p.length ≤ limit

module _ {C : Type 0} (points : List (Point C)) (Within : Point C → Type 0) where
  -- the first of the points within a limit: it is within, and no shorter one is
  pub record IsFirstWithin (p : Point C) : Type 0 where
    pub listed : In p points
    pub within : Within p
    pub first : (q : Point C) → In q points → q.length < p.length → Within q → ⊥

  -- the last of the points within a limit: it is within, and no longer one is
  pub record IsLastWithin (p : Point C) : Type 0 where
    pub listed : In p points
    pub within : Within p
    pub last : (q : Point C) → In q points → p.length < q.length → Within q → ⊥

  -- none of the points is within a limit
  abbrev pub NoPointWithin : Type 0
  NoPointWithin = (q : Point C) → In q points → Within q → ⊥

module _ {C : Type 0} (K : Kind C) (T : Meaning C) (book : Book) where
  -- below every pair that an assignment has there is one of the points: no longer and no dearer
  abbrev pub PointBelowEachPair : List (Point C) → Type 0
  PointBelowEachPair points =
      (q : Point C) → HasPair K T (standing book) q
      → (p : Point C) × In p points × (p.length ≤ q.length) × (K.at_most p.cost q.cost ≡ true)

  -- what a question with a limit answers, where 9 and 10 stand for what it means that it is refused so
  pub record FrontDecides (IsChosen Within Answered : Point C → Type 0) (Refused9 Refused10 : Type 0) : Type 0 where
    -- the pair answered is the one chosen of the front
    pub answered : (p : Point C) → Answered p ↔ IsChosen p
    -- 9, exactly where there is no assignment at all
    pub unquoted : Refused9 ↔ (HasAssignment T book → ⊥)
    -- 10, exactly where there is one and no point of the front is within the limit
    pub none_within : Refused10 ↔ (HasAssignment T book × NoPointWithin (front K T book) Within)
    -- one or the other, exactly where no point of the front is within the limit
    pub no_point : (Refused9 ⊎ Refused10) ↔ NoPointWithin (front K T book) Within

  -- of a budget, the pair chosen is the first point of the front that costs at most the budget
  abbrev pub FrontDecidesBudget : C → (Point C → Type 0) → Type 0 → Type 0 → Type 0
  FrontDecidesBudget limit =
      let Within : Point C → Type 0 = WithinBudget K limit in
      FrontDecides (IsFirstWithin (front K T book) Within) Within

  -- of a deadline, the last point of the front that is no longer than the deadline
  abbrev pub FrontDecidesDeadline : ℕ → (Point C → Type 0) → Type 0 → Type 0 → Type 0
  FrontDecidesDeadline limit =
      let Within : Point C → Type 0 = WithinDeadline limit in
      FrontDecides (IsLastWithin (front K T book) Within) Within

  -- the front decides every budget and every deadline
  pub record FrontAnswers : Type 0 where
    pub below : PointBelowEachPair (front K T book)
    pub budgets : (limit : C) → let result = budget_result K T book limit in
        FrontDecidesBudget limit
        (λ p. result ≡ Ok p) ((n : ℕ) × (result ≡ Err (carrying 9 n))) (result ≡ Err (plain 10))
    pub deadlines : (limit : ℕ) → let result = deadline_result K T book limit in
        FrontDecidesDeadline limit
        (λ p. result ≡ Ok p) ((n : ℕ) × (result ≡ Err (carrying 9 n))) (result ≡ Err (plain 10))

-- for every tariff in the cost kind and every history of calls
abbrev pub FrontsAnswerLimits : {C : Type 0} → Kind C → Type 0
FrontsAnswerLimits {C} K = (T : Meaning C) → Ranged T → (calls : List Call) → FrontAnswers K T (book_after calls)
