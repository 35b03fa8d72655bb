-- Cells read and rows written in memory
use Rattle.std.specs.Prelude.{◌≡◌, ℕ, ◌+◌, ◌-◌, ◌<◌, ◌≤◌, Bool, true, cond, not, ◌&&◌, ◌||◌, List, drop, Some, None, Option, ◌≢◌, nat_le, nat_lt, slice_index_or}
use Rattle.costs.specs.Kind.{Kind}
use Rattle.tariffs.specs.Meaning.{Meaning}
use Rattle.sheets.specs.declared.task.Task.{Task}
use Rattle.model.specs.declared.cell.Cell.{Cell}
use Rattle.model.specs.Allowance.{joined, cheapest_of, cost_within, is_time}
use Rattle.model.specs.Cell.{cell_of, cost_in}
use Rattle.cells.specs.declared.layout.Layout.{Layout}
use Rattle.cells.specs.Layout.{place_in, size}

-- new before n, old from there on
abbrev pub up_to : {A : Type 0} → ℕ → (ℕ → A) → (ℕ → A) → ℕ → A
up_to n new old i = cond (nat_lt i n) (new i) (old i)

module _ {C : Type 0} (K : Kind C) where
  -- the cell at its place; past the memory, one not reached
  abbrev pub cell_at : Layout → List (Cell C) → ℕ → ℕ → Cell C
  cell_at layout cells j t = slice_index_or cells (place_in layout j t) (cell_of K None)

  -- the row of a stage holds these cells, and all else is as it was
  pub record RowWritten (layout : Layout) (stage : ℕ) (row : ℕ → Cell C) (before after : List (Cell C)) : Type 0 where
    pub here : (t : ℕ) → t < layout.width → cell_at layout after stage t ≡ row t
    pub elsewhere : (j t : ℕ) → j ≤ layout.stages → (j ≢ stage) → t < layout.width → cell_at layout after j t ≡ cell_at layout before j t
    pub past : drop (size layout) after ≡ drop (size layout) before

  -- the cell has no cost yet, or one dearer than the offer
  abbrev pub is_lowered : Cell C → C → Bool
  is_lowered cell offer = not cell.reached || not (K.at_most cell.cost offer)

  -- a cell lowered to an offer, where that is less
  abbrev pub lowered : Cell C → Option C → Cell C
  lowered cell None = cell
  lowered cell (Some offer) = cond (is_lowered cell offer) (cell_of K (Some offer)) cell

  -- the costs in a row
  abbrev pub row_costs : Layout → List (Cell C) → ℕ → ℕ → Option C
  row_costs layout cells j t = cost_in (cell_at layout cells j t)

  -- where a row has a cost, it has one no dearer at more minutes
  abbrev pub Falling : ℕ → (ℕ → Option C) → Type 0
  Falling width costs = (t u : ℕ) (c : C) → t ≤ u → u < width → costs t ≡ Some c → (d : C) × (costs u ≡ Some d) × (K.at_most d c ≡ true)

  -- a cost, where it is less than the one before it
  abbrev pub if_less : Option C → Option C → Option C
  if_less None cost = cost
  if_less (Some b) None = None
  if_less (Some b) (Some c) = cond (K.at_most b c) None (Some c)

  -- the row of a stage, lowered to what its cost within an allowance and the row behind it come to
  abbrev pub lowered_row : Layout → List (Cell C) → ℕ → ℕ → C → ℕ → Cell C
  lowered_row layout cells stage a cost t =
      lowered (cell_at layout cells stage t) (cond (nat_le a t) (joined K (Some cost) (row_costs layout cells (stage + 1) (t - a))) None)

  -- what a stage offers within t by spending a minutes on it, with these costs behind it; none unless a time quoted in the stage
  abbrev pub offer_before : Meaning C → List Task → (ℕ → Option C) → ℕ → ℕ → Option C
  offer_before T tasks rest t a = cond (nat_le a t && is_time T tasks a) (joined K (cost_within K T tasks a) (rest (t - a))) None

  -- the row of a stage with these costs behind it, by times below n
  abbrev pub stage_row : Meaning C → List Task → (ℕ → Option C) → ℕ → ℕ → Cell C
  stage_row T tasks rest n t = cell_of K (cheapest_of K (offer_before T tasks rest t) n)
