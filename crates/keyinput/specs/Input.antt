-- The input of a key: a card, a sheet and a question, with nothing behind them
use Rattle.std.specs.Prelude.{ℕ, List}
use Rattle.numbers.specs.Input.{input, Reading, then}
use Rattle.tariffs.specs.declared.line.Line.{Line}
use Rattle.tariffs.specs.Card.{lines_of}
use Rattle.sheets.specs.Book.{Book, book}
use Rattle.keyfile.specs.Reading.{ended}
use Rattle.keyinput.specs.declared.input.KeyInput.{KeyInput}
use Rattle.keyinput.specs.declared.question.Question.{Question}
use Rattle.keyinput.specs.Batch.{offer_in}
use Rattle.keyinput.specs.Question.{question_in}

-- what is asked of which book, under which lines
pub record Asked : Type 0 where
  pub lines : List Line
  pub book : Book
  pub question : Question

abbrev pub asked : List Line → Book → Question → Asked
asked lines book question = record { lines = lines; book = book; question = question }

abbrev pub asked_by : KeyInput → Asked
asked_by key = asked (lines_of key.batch.card) (book key.batch.sheet) key.question

abbrev pub key_in : List ℕ → Reading Asked
key_in bytes =
    then (offer_in (input 0 bytes)) (λ offer behind_offer.
    then (question_in behind_offer) (λ question.
    ended (asked offer.lines offer.book question)))
