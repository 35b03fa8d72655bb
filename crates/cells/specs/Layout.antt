-- How cells stand in memory
use Rattle.std.specs.Prelude.{ℕ, ◌+◌, ◌*◌}
use Rattle.tariffs.specs.Meaning.{Meaning}
use Rattle.sheets.specs.Book.{Book}
use Rattle.model.specs.Cell.{width}
use Rattle.cells.specs.declared.layout.Layout.{Layout}

-- the layout for a book under a tariff
abbrev pub layout_of : {C : Type 0} → Meaning C → Book → Layout
layout_of T book = record { stages = book.stages; width = width T book }

-- the place of the cell of the stages from j on within t minutes
abbrev pub place_in : Layout → ℕ → ℕ → ℕ
place_in layout j t = j * layout.width + t

-- how many cells there are
abbrev pub size : Layout → ℕ
size layout = (layout.stages + 1) * layout.width
