-- Working cells: least costs within a number of minutes
use Rattle.std.specs.Prelude.{◌≡◌, ℕ, ◌+◌, ◌-◌, ◌*◌, ◌<◌, ◌≤◌, true, false, cond, ◌&&◌, leb, List, [], ◌∷◌, map, length, drop, Some, None, filter, Option, nat_le, slice_index_or}
use Rattle.std.specs.List.{range_with_len, flat_map as concatenated}
use Rattle.costs.specs.Kind.{Kind}
use Rattle.tariffs.specs.Meaning.{Meaning, Ranged}
use Rattle.sheets.specs.Book.{Book}
use Rattle.sheets.specs.declared.task.Task.{Task}
use Rattle.model.specs.declared.cell.Cell.{Cell}
use Rattle.model.specs.Lists.{least}
use Rattle.model.specs.Assignment.{standing, IsAssignment, length_of, cost_of, pairs}
use Rattle.model.specs.Allowance.{joined, cheapest_of, cost_within, greatest_time, is_time}

module _ {C : Type 0} (T : Meaning C) where
  -- S: the sum over stages of the greatest time quoted to a standing task there
  abbrev pub span : List (List Task) → ℕ
  span [] = 0
  span (tasks ∷ stages) = greatest_time T tasks + span stages

  -- cells in a row, one for each number of minutes from 0 to S
  abbrev pub width : Book → ℕ
  width book = span (standing book) + 1

  -- the place of the cell of the stages from j on within t minutes
  abbrev pub place : Book → ℕ → ℕ → ℕ
  place book j t = j * width book + t

  -- how many cells a question needs
  abbrev pub cells_needed : Book → ℕ
  cells_needed book = (book.stages + 1) * width book

-- the cost that a cell holds, none where its flag is false
abbrev pub cost_in : {C : Type 0} → Cell C → Option C
cost_in cell = cond cell.reached (Some cell.cost) None

module _ {C : Type 0} (K : Kind C) where
  -- the least of some costs, or none if there is none
  abbrev pub IsLeast : (C → Type 0) → Option C → Type 0
  IsLeast S None = (c : C) → S c → ⊥
  IsLeast S (Some m) = S m × ((c : C) → S c → K.at_most m c ≡ true)

  -- flag and cost; without a cost the flag is false and the cost neutral
  abbrev pub cell_of : Option C → Cell C
  cell_of None = record { reached = false; cost = K.neutral }
  cell_of (Some c) = record { reached = true; cost = c }

module _ {C : Type 0} (K : Kind C) (T : Meaning C) where
  -- the least cost of the assignments of these stages that are no longer than t
  abbrev pub least_cost : List (List Task) → ℕ → Option C
  least_cost stages t = least K.at_most (map (λ p. p.cost) (filter (λ p. leb p.length t) (pairs K T stages)))

  -- the costs of the assignments of these stages that are no longer than t
  abbrev pub CostWithin : List (List Task) → ℕ → C → Type 0
  CostWithin stages t c = (plan : List (List ℕ)) × IsAssignment T stages plan × (length_of T stages plan ≤ t) × (c ≡ cost_of K T stages plan)

  -- the cell of the stages from j on within t minutes
  abbrev pub cell : Book → ℕ → ℕ → Cell C
  cell book j t = cell_of K (least_cost (drop j (standing book)) t)

  -- the cells of the stages from j on, t from 0 to S
  abbrev pub row : Book → ℕ → List (Cell C)
  row book j = map (cell book j) (range_with_len 0 (width T book))

  -- the rows from 0 to the number of stages, one after another
  abbrev pub table : Book → List (Cell C)
  table book = concatenated (row book) (range_with_len 0 (book.stages + 1))

  -- what the stages cost within t if the first takes a minutes; none unless a is at most t and a time quoted in the first
  abbrev pub offer : List Task → List (List Task) → ℕ → ℕ → Option C
  offer tasks stages t a = cond (nat_le a t && is_time T tasks a) (joined K (cost_within K T tasks a) (least_cost stages (t - a))) None

-- each cell stands at its place
pub record LaidOut {C : Type 0} (K : Kind C) (T : Meaning C) (book : Book) : Type 0 where
  pub size : length (table K T book) ≡ cells_needed T book
  pub at_place : (j t : ℕ) (d : Cell C) → j ≤ book.stages → t < width T book → slice_index_or (table K T book) (place T book j t) d ≡ cell K T book j t

-- for every tariff and book
abbrev pub CellsStandAtTheirPlaces : {C : Type 0} → Kind C → Type 0
CellsStandAtTheirPlaces {C} K = (T : Meaning C) (book : Book) → LaidOut K T book

-- least costs in words, and stage by stage
pub record LeastCosts {C : Type 0} (K : Kind C) (T : Meaning C) : Type 0 where
  pub least : (stages : List (List Task)) (t : ℕ) → IsLeast K (CostWithin K T stages t) (least_cost K T stages t)
  pub none_left : (t : ℕ) → least_cost K T [] t ≡ Some K.neutral
  -- over all allowances of the first stage
  pub by_allowances : (tasks : List Task) (stages : List (List Task)) (t : ℕ)
      → least_cost K T (tasks ∷ stages) t ≡ cheapest_of K (λ a. joined K (cost_within K T tasks a) (least_cost K T stages (t - a))) (t + 1)
  -- times that are quoted in the first stage suffice
  pub by_times : (tasks : List Task) (stages : List (List Task)) (t n : ℕ) → greatest_time T tasks < n
      → least_cost K T (tasks ∷ stages) t ≡ cheapest_of K (offer K T tasks stages t) n
  -- no assignment is longer than the span, and past it nothing changes
  pub bounded : (stages : List (List Task)) (plan : List (List ℕ)) → length_of T stages plan ≤ span T stages
  pub beyond : (stages : List (List Task)) (t : ℕ) → span T stages ≤ t → least_cost K T stages t ≡ least_cost K T stages (span T stages)
  -- more minutes are never dearer
  pub falling : (stages : List (List Task)) (t u : ℕ) (c : C) → least_cost K T stages t ≡ Some c → t ≤ u
      → (d : C) × (least_cost K T stages u ≡ Some d) × (K.at_most d c ≡ true)

-- for every tariff in the cost kind
abbrev pub LeastCostsShareOutMinutes : {C : Type 0} → Kind C → Type 0
LeastCostsShareOutMinutes {C} K = (T : Meaning C) → Ranged T → LeastCosts K T
