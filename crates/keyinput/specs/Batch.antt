-- A card and a sheet, with nothing behind them
use Rattle.std.specs.Prelude.{ℕ, List, Ok}
use Rattle.numbers.specs.Input.{Input, input, Reading, then}
use Rattle.tariffs.specs.declared.line.Line.{Line}
use Rattle.tariffs.specs.Card.{lines_of}
use Rattle.sheets.specs.Book.{Book, book}
use Rattle.keyfile.specs.Card.{card_in}
use Rattle.keyfile.specs.Reading.{ended}
use Rattle.keyfile.specs.Sheet.{sheet_in}
use Rattle.keyinput.specs.declared.batch.Batch.{Batch}

-- the lines of the card, and the book of the sheet
pub record Offer : Type 0 where
  pub lines : List Line
  pub book : Book

abbrev pub offer : List Line → Book → Offer
offer lines book = record { lines = lines; book = book }

abbrev pub batch_of : Batch → Offer
batch_of batch = offer (lines_of batch.card) (book batch.sheet)

-- both are read one behind the other, and what stands behind them is left
abbrev pub offer_in : Input → Reading Offer
offer_in input =
    then (card_in input) (λ lines behind_card.
    then (sheet_in behind_card) (λ book left.
    Ok (offer lines book, left)))

abbrev pub batch_in : List ℕ → Reading Offer
batch_in bytes = then (offer_in (input 0 bytes)) ended
