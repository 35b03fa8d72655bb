-- Fronts
use Rattle.std.specs.Prelude.{◌≡◌, ℕ, ◌<◌, ◌≤◌, Bool, true, cond, not, ◌&&◌, ◌↔◌, List, [], ◌∷◌, filter, ◌≢◌, nat_le, nat_lt}
use Rattle.costs.specs.Kind.{Kind}
use Rattle.tariffs.specs.Meaning.{Meaning, Ranged}
use Rattle.sheets.specs.Book.{Book}
use Rattle.sheets.specs.History.{book_after}
use Rattle.sheets.specs.declared.call.Call.{Call}
use Rattle.sheets.specs.declared.task.Task.{Task}
use Rattle.model.specs.declared.point.Point.{Point}
use Rattle.model.specs.Lists.{In, any}
use Rattle.model.specs.Assignment.{standing, pairs, HasAssignment, HasPair, Unquoted}

module _ {C : Type 0} where
  -- put in by rising length; a pair of a length that is there already is dropped
  abbrev pub put_by_length : Point C → List (Point C) → List (Point C)
  put_by_length p [] = p ∷ []
  put_by_length p (q ∷ qs) = cond (nat_lt p.length q.length) (p ∷ q ∷ qs) (cond (nat_lt q.length p.length) (q ∷ put_by_length p qs) (q ∷ qs))

  -- pairs by rising length, one of each length
  abbrev pub by_rising_length : List (Point C) → List (Point C)
  by_rising_length [] = []
  by_rising_length (p ∷ ps) = put_by_length p (by_rising_length ps)

  -- lengths rise along the list
  abbrev pub Rising : List (Point C) → Type 0
  Rising [] = Unit {0}
  Rising (p ∷ ps) = ((q : Point C) → In q ps → p.length < q.length) × Rising ps

module _ {C : Type 0} (K : Kind C) where
  -- no longer and no dearer
  abbrev pub no_worse : Point C → Point C → Bool
  no_worse p q = nat_le p.length q.length && K.at_most p.cost q.cost

  -- a pair beats another if it is no longer and no dearer and differs
  abbrev pub beats : Point C → Point C → Bool
  beats p q = no_worse p q && not (no_worse q p)

  -- the same in words
  abbrev pub Beats : Point C → Point C → Type 0
  Beats p q = (p.length ≤ q.length) × (K.at_most p.cost q.cost ≡ true) × (p ≢ q)

  -- none of the pairs beats this one
  abbrev pub unbeaten : List (Point C) → Point C → Bool
  unbeaten ps p = not (any (λ q. beats q p) ps)

  -- by rising length, each pair that none beats
  abbrev pub front_of : List (Point C) → List (Point C)
  front_of ps = by_rising_length (filter (unbeaten ps) ps)

module _ {C : Type 0} (K : Kind C) (T : Meaning C) where
  -- by rising length, each pair that an assignment has and none beats
  abbrev pub front : Book → List (Point C)
  front book = front_of K (pairs K T (standing book))

  -- the same in words
  pub record IsFront (stages : List (List Task)) (ps : List (Point C)) : Type 0 where
    pub rising : Rising ps
    pub each : (p : Point C) → In p ps ↔ (HasPair K T stages p × ((q : Point C) → HasPair K T stages q → Beats K q p → ⊥))

-- one list is a front in words: that which the definition computes
abbrev pub FrontListsUnbeatenPairs : {C : Type 0} → Kind C → Type 0
FrontListsUnbeatenPairs {C} K =
    (T : Meaning C) → Ranged T → (stages : List (List Task)) (ps : List (Point C))
    → IsFront K T stages ps ↔ (ps ≡ front_of K (pairs K T stages))

-- for every tariff in the cost kind and every history of calls
pub record FrontsWithoutStagesOrQuotes {C : Type 0} (K : Kind C) : Type 0 where
  -- without stages the only pair is 0 minutes at the neutral cost
  pub no_stages : (T : Meaning C) (calls : List Call) → (book_after calls).stages ≡ 0 → front K T (book_after calls) ≡ record { length = 0; cost = K.neutral } ∷ []
  -- the front is empty exactly where some standing task has no quote, and exactly where there is no assignment
  pub no_quote : (T : Meaning C) → Ranged T → (calls : List Call) → (front K T (book_after calls) ≡ []) ↔ ((n : ℕ) × Unquoted T (book_after calls) n)
  pub no_assignment : (T : Meaning C) → Ranged T → (calls : List Call) → (front K T (book_after calls) ≡ []) ↔ (HasAssignment T (book_after calls) → ⊥)
