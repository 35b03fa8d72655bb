-- The samples: a sheet, a rate card and a quote table
use Rattle.std.specs.Prelude.{ℕ, List, [], ◌∷◌, length}
use Rattle.costs.specs.declared.cents.Cents.{Cents}
use Rattle.costs.specs.declared.grade.Grade.{Grade}
use Rattle.tariffs.specs.declared.line.Line.{Line}
use Rattle.tariffs.specs.declared.row.Row.{Row}
use Rattle.tariffs.specs.Line.{line}
use Rattle.tariffs.specs.Card.{card_quote}
use Rattle.tariffs.specs.Table.{rows_quote}
use Rattle.tariffs.specs.Meaning.{Meaning}
use Rattle.sheets.specs.declared.call.Call.{Call}
use Rattle.sheets.specs.declared.call.Call.TheVariants.{Stage, Task as NewTask}
use Rattle.sheets.specs.Book.{Book}
use Rattle.sheets.specs.History.{book_after}

-- sheet X: works 100 and 60 in its first stage, 60 in its second
abbrev pub calls_X : List Call
calls_X = Stage ∷ NewTask 0 100 ∷ NewTask 0 60 ∷ Stage ∷ NewTask 1 60 ∷ []

abbrev pub X : Book
X = book_after calls_X

-- what a card of these lines means
abbrev pub card_of : List Line → Meaning Cents
card_of lines = record { count = length lines; quote = card_quote lines }

-- card A, a speed and a rate for each machine
abbrev pub lines_A : List Line
lines_A = line 10 600 ∷ line 20 1500 ∷ line 60 6000 ∷ []

abbrev pub A : Meaning Cents
A = card_of lines_A

-- what a table over these rows means
abbrev pub table_of : List Row → Meaning Grade
table_of rows = record { count = 32; quote = rows_quote rows }

abbrev pub row : ℕ → ℕ → ℕ → ℕ → Row
row machine work minutes grade = record { machine = machine; work = work; minutes = minutes; grade = grade }

-- table G, a machine, a work, minutes and a grade in each row
abbrev pub rows_G : List Row
rows_G = row 0 100 10 1 ∷ row 1 100 5 4 ∷ row 0 60 6 1 ∷ row 1 60 3 1 ∷ row 2 60 1 9 ∷ []

abbrev pub G : Meaning Grade
G = table_of rows_G

-- a sheet without stages
abbrev pub no_stages : Book
no_stages = book_after []

-- a sheet of one task, and a card without lines
abbrev pub one_task : Book
one_task = book_after (Stage ∷ NewTask 0 7 ∷ [])

abbrev pub empty_card : Meaning Cents
empty_card = card_of []
