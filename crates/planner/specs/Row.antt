-- The cells of a question in memory
use Rattle.std.specs.Prelude.{◌≡◌, ℕ, ◌<◌, ◌≤◌, List, drop, Option}
use Rattle.costs.specs.Kind.{Kind}
use Rattle.tariffs.specs.Meaning.{Meaning}
use Rattle.sheets.specs.Book.{Book}
use Rattle.model.specs.declared.cell.Cell.{Cell}
use Rattle.model.specs.Assignment.{standing}
use Rattle.model.specs.Cell.{least_cost}
use Rattle.cells.specs.declared.layout.Layout.{Layout}
use Rattle.cells.specs.declared.memory.CellRows.{CellRows}
use Rattle.cells.specs.Layout.{layout_of}
use Rattle.cells.specs.Memory.{row_costs}

-- the costs in the first row
abbrev pub first_row : {C : Type 0} → Kind C → CellRows C → ℕ → Option C
first_row K rows = row_costs K rows.layout rows.cells.now 0

-- the cells hold the least costs of the book under the tariff, each at its place
pub record HoldsLeastCosts {C : Type 0} (K : Kind C) (T : Meaning C) (book : Book) (cells : List (Cell C)) (layout : Layout) : Type 0 where
  pub laid_out : layout ≡ layout_of T book
  pub each : (j t : ℕ) → j ≤ book.stages → t < layout.width → row_costs K layout cells j t ≡ least_cost K T (drop j (standing book)) t
