-- What a quote table quotes
use Rattle.std.specs.Prelude.{◌≡◌, ℕ, ◌<◌, true, false, cond, ◌↔◌, ◌⊎◌, List, length, Some, None, Option}
use Rattle.std.specs.Option.{option_map}
use Rattle.costs.specs.Grade.{grade}
use Rattle.costs.specs.declared.grade.Grade.{Grade}
use Rattle.tariffs.specs.declared.quote.Quote.{Quote}
use Rattle.tariffs.specs.declared.row.Row.{Row}
use Rattle.tariffs.specs.declared.table.QuoteTable.{QuoteTable}
use Rattle.tariffs.specs.First.{find}
use Rattle.tariffs.specs.Meaning.{Meaning}
use Rattle.tariffs.specs.Rows.{bears, row_at, rows_pass}

abbrev pub row_quote : Row → Quote Grade
row_quote r = record { minutes = r.minutes; cost = grade r.grade }

-- the quote of the first row for this machine and this work; nothing over rows that fail the check
abbrev pub rows_quote : List Row → ℕ → ℕ → Option (Quote Grade)
rows_quote rows machine work =
    cond (rows_pass rows) (option_map row_quote (find (λ r. bears r machine work) rows)) None

abbrev pub table_meaning : QuoteTable → Meaning Grade
table_meaning table = record { count = 32; quote = rows_quote table.rows.now }

-- the law of it, in words
pub record FirstRowQuotes (rows : List Row) : Type 0 where
  -- a quote is that of a row for this machine and this work, and none before it is
  pub quoted : (machine work : ℕ) (q : Quote Grade) → rows_quote rows machine work ≡ Some q →
      (i : ℕ) × (i < length rows)
      × (row_quote (row_at rows i) ≡ q)
      × (bears (row_at rows i) machine work ≡ true)
      × ((k : ℕ) → k < i → bears (row_at rows k) machine work ≡ false)
  -- there is none exactly where the rows fail the check or no row is for this machine and this work
  pub unquoted : (machine work : ℕ) → (rows_quote rows machine work ≡ None)
      ↔ ((rows_pass rows ≡ false) ⊎ ((k : ℕ) → k < length rows → bears (row_at rows k) machine work ≡ false))
