-- What is written is read again, and what is read was so written
use Rattle.std.specs.Prelude.{◌≡◌, ℕ, ◌+◌, List, ◌++◌, length, Ok}
use Rattle.numbers.specs.Input.{Input, input, value_of}
use Rattle.numbers.specs.Spellings.{ByteString}
use Rattle.sheets.specs.Book.{Book, book}
use Rattle.sheets.specs.History.{book_after}
use Rattle.sheets.specs.declared.sheet.Sheet.{Sheet}
use Rattle.keyfile.specs.Sheet.{sheet_in, file_in}
use Rattle.keyfile.specs.Works.{works_by_stage, spelled_sheet, file_calls}

-- reading the spelling of a book, alone or whatever follows it, makes a book with the same works in the same order in
-- each stage, and leaves what follows
pub record IsReadAgain (book : Book) : Type 0 where
  pub read : Book
  pub same_works : works_by_stage read ≡ works_by_stage book
  pub alone : value_of (file_in (spelled_sheet (works_by_stage book))) ≡ Ok read
  pub followed :
      (place : ℕ) (rest : List ℕ)
      → sheet_in (input place (spelled_sheet (works_by_stage book) ++ rest))
      ≡ Ok (read, input (place + length (spelled_sheet (works_by_stage book))) rest)

abbrev pub WhatIsWrittenIsReadAgain : Type 0
WhatIsWrittenIsReadAgain = (sheet : Sheet) → IsReadAgain (book sheet)

-- the bytes read are those that writing the book puts out
abbrev pub WhatIsReadWasSoWritten : Type 0
WhatIsReadWasSoWritten =
    (before : Input) (read : Book) (left : Input) → ByteString before.bytes
    → sheet_in before ≡ Ok (read, left)
    → before.bytes ≡ spelled_sheet (works_by_stage read) ++ left.bytes

-- a book that was read has known the calls that its works make
abbrev pub WhatIsReadIsKnown : Type 0
WhatIsReadIsKnown =
    (before : Input) (read : Book) (left : Input)
    → sheet_in before ≡ Ok (read, left)
    → read ≡ book_after (file_calls (works_by_stage read))

-- so it is with a file that holds nothing else
abbrev pub AcceptedFilesAreAsWritten : Type 0
AcceptedFilesAreAsWritten =
    (bytes : List ℕ) (read : Book) → ByteString bytes
    → value_of (file_in bytes) ≡ Ok read
    → bytes ≡ spelled_sheet (works_by_stage read)

-- an accepted file is the only one of its works
abbrev pub EachSheetHasOneFile : Type 0
EachSheetHasOneFile =
    (bytes others : List ℕ) (read also_read : Book) → ByteString bytes → ByteString others
    → value_of (file_in bytes) ≡ Ok read → value_of (file_in others) ≡ Ok also_read
    → works_by_stage read ≡ works_by_stage also_read → bytes ≡ others
