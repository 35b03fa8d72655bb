-- The front, read off the first row of cells
use Rattle.std.specs.Prelude.{◌≡◌, ℕ, zero, suc, ◌+◌, Bool, true, false, cond, not, List, [], ◌∷◌, ◌++◌, Some, None, Option}
use Rattle.costs.specs.Kind.{Kind}
use Rattle.tariffs.specs.Meaning.{Meaning, Ranged}
use Rattle.sheets.specs.declared.task.Task.{Task}
use Rattle.model.specs.declared.point.Point.{Point}
use Rattle.model.specs.Assignment.{pairs}
use Rattle.model.specs.Front.{front_of}
use Rattle.model.specs.Cell.{span, least_cost}

-- the point of a length and a cost
abbrev pub point : {C : Type 0} → ℕ → C → Point C
point length cost = record { length = length; cost = cost }

module _ {C : Type 0} (K : Kind C) where
  -- a cost, if any, is at most the limit
  abbrev pub affordable : Option C → C → Bool
  affordable None limit = false
  affordable (Some cost) limit = K.at_most cost limit

  -- the costs by minutes get cheaper at t: none is so cheap a minute before
  abbrev pub drops : (ℕ → Option C) → ℕ → C → Bool
  drops costs zero cost = true
  drops costs (suc before) cost = not (affordable (costs before) cost)

  -- the point at t, if the costs get cheaper there
  abbrev pub point_at : (ℕ → Option C) → ℕ → Option C → List (Point C)
  point_at costs t None = []
  point_at costs t (Some cost) = cond (drops costs t cost) (point t cost ∷ []) []

  -- the points at 0 to n − 1
  abbrev pub drops_below : (ℕ → Option C) → ℕ → List (Point C)
  drops_below costs zero = []
  drops_below costs (suc n) = drops_below costs n ++ point_at costs n (costs n)

  -- the point at t, if none was found before and the cost is at most the limit
  abbrev pub or_here : C → ℕ → Option C → Option (Point C) → Option (Point C)
  or_here limit t cost (Some p) = Some p
  or_here limit t None None = None
  or_here limit t (Some cost) None = cond (K.at_most cost limit) (Some (point t cost)) None

  -- the first of 0 to n − 1 with a cost at most the limit
  abbrev pub first_below : (ℕ → Option C) → C → ℕ → Option (Point C)
  first_below costs limit zero = None
  first_below costs limit (suc n) = or_here limit n (costs n) (first_below costs limit n)

-- where the first row gets cheaper stand the points of the front
abbrev pub FrontIsWhereCostsDrop : {C : Type 0} → Kind C → Type 0
FrontIsWhereCostsDrop {C} K =
    (T : Meaning C) → Ranged T → (stages : List (List Task))
    → drops_below K (least_cost K T stages) (span T stages + 1) ≡ front_of K (pairs K T stages)
