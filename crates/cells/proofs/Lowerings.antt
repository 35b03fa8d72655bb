-- A cell lowered by what a cost within an allowance and the cell behind come to
use Rattle.std.proofs.Common.{◌≡◌, ℕ, ◌+◌, ◌-◌, ◌≤◌, List, Some, None, Option, ap, ◌∙◌}
use Rattle.std.proofs.lemmas.Bool.{le-leb, cond-true}
use Rattle.costs.specs.Kind.{Kind}
use Rattle.model.specs.declared.cell.Cell.{Cell}
use Rattle.model.specs.Allowance.{joined}
use Rattle.cells.specs.declared.layout.Layout.{Layout}
use Rattle.cells.specs.Memory.{cell_at, row_costs, lowered, lowered_row}

module _ {C : Type 0} (K : Kind C) (layout : Layout) (cells : List (Cell C)) (stage a : ℕ) (cost : C) (t : ℕ) where
  -- by the cost in the cell behind, if any
  pub lowered_by : a ≤ t → (rest : Option C) → row_costs K layout cells (stage + 1) (t - a) ≡ rest → lowered_row K layout cells stage a cost t ≡ lowered K (cell_at K layout cells stage t) (joined K (Some cost) rest)
  lowered_by l rest e = ap (lowered K (cell_at K layout cells stage t)) (cond-true _ _ None (le-leb a t l) ∙ ap (joined K (Some cost)) e)
