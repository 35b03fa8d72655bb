-- The bytes that spell a card with a sheet, and an input
use Rattle.std.specs.Prelude.{◌≡◌, ℕ, ◌^◌, ◌<◌, List, ◌++◌, length, Ok}
use Rattle.std.specs.List.{flat_map}
use Rattle.numbers.specs.Input.{value_of}
use Rattle.numbers.specs.Number.{spelled}
use Rattle.tariffs.specs.declared.line.Line.{Line}
use Rattle.sheets.specs.Book.{Book}
use Rattle.keyfile.specs.Works.{works_by_stage, spelled_sheet}
use Rattle.keyinput.specs.declared.batch.Batch.{Batch}
use Rattle.keyinput.specs.declared.question.Question.{Question}
use Rattle.keyinput.specs.declared.question.Question.TheVariants.{Front, Budget, Deadline}
use Rattle.keyinput.specs.Batch.{Offer, offer as offered, batch_of, batch_in}
use Rattle.keyinput.specs.Input.{Asked, asked as asks, key_in}

abbrev pub spelled_line : Line → List ℕ
spelled_line line = spelled line.speed ++ spelled line.rate

-- the line count, then the lines
abbrev pub spelled_card : List Line → List ℕ
spelled_card lines = spelled (length lines) ++ flat_map spelled_line lines

abbrev pub spelled_question : Question → List ℕ
spelled_question Front = spelled 0
spelled_question (Budget limit) = spelled 1 ++ spelled limit
spelled_question (Deadline limit) = spelled 2 ++ spelled limit

-- the card, and the works of the sheet by stage
abbrev pub spelled_batch : Offer → List ℕ
spelled_batch offer = spelled_card offer.lines ++ spelled_sheet (works_by_stage offer.book)

-- the card, the works of the sheet by stage, and the question
abbrev pub spelled_input : Asked → List ℕ
spelled_input key = spelled_card key.lines ++ (spelled_sheet (works_by_stage key.book) ++ spelled_question key.question)

-- the longest card with a sheet, and the longest input, that are accepted
abbrev pub longest_batch : ℕ
longest_batch = 948

abbrev pub longest_input : ℕ
longest_input = 954

-- a limit is a file number
abbrev pub LimitFits : Question → Type 0
LimitFits Front = Unit {0}
LimitFits (Budget limit) = limit < 2 ^ 32
LimitFits (Deadline limit) = limit < 2 ^ 32

-- the bytes are accepted, and read as the same lines and the same works in the same order in each stage: alone, and with
-- a question behind them, which is read too
pub record IsAccepted (offer : Offer) : Type 0 where
  pub read : Book
  pub same_works : works_by_stage read ≡ works_by_stage offer.book
  pub alone : value_of (batch_in (spelled_batch offer)) ≡ Ok (offered offer.lines read)
  pub asked :
      (question : Question) → LimitFits question
      → value_of (key_in (spelled_input (asks offer.lines offer.book question))) ≡ Ok (asks offer.lines read question)

-- whatever a card and a sheet hold, what spells them is accepted, alone and with a question
abbrev pub SpelledInputsAreRead : Type 0
SpelledInputsAreRead = (batch : Batch) → IsAccepted (batch_of batch)
