-- The rate card: its lines, what adds one, and what it quotes
use Rattle.std.specs.Prelude.{ℕ, cond, not, List, [], ◌∷◌, ◌++◌, length, take, is_ok, Some, None, Ok, Option, nat_le}
use Rattle.std.specs.List.{slice_get}
use Rattle.refusals.specs.Answer.{Answer, refused_if}
use Rattle.work.specs.Work.{work_in_range}
use Rattle.costs.specs.declared.cents.Cents.{Cents}
use Rattle.tariffs.specs.declared.card.RateCard.{RateCard}
use Rattle.tariffs.specs.declared.line.Line.{Line}
use Rattle.tariffs.specs.declared.quote.Quote.{Quote}
use Rattle.tariffs.specs.Line.{line, line_in_range, line_quote}
use Rattle.tariffs.specs.Meaning.{Meaning}

-- the lines of a card, by machine number
abbrev pub lines_of : RateCard → List Line
lines_of card = take card.count card.lines

-- what adding a line answers: its machine number, or 4 on a full card, or 5 with a number out of range
abbrev pub add_answer : List Line → ℕ → ℕ → Answer ℕ
add_answer lines speed rate =
    refused_if (nat_le 32 (length lines)) 4 (refused_if (not (line_in_range speed rate)) 5 (Ok (length lines)))

-- the lines afterwards: a refused line leaves them as they were
abbrev pub lines_after : List Line → ℕ → ℕ → List Line
lines_after lines speed rate = cond (is_ok (add_answer lines speed rate)) (lines ++ (line speed rate ∷ [])) lines

abbrev pub quote_by : Option Line → ℕ → Option (Quote Cents)
quote_by None work = None
quote_by (Some l) work = line_quote l work

abbrev pub card_quote : List Line → ℕ → ℕ → Option (Quote Cents)
card_quote lines machine work = cond (work_in_range work) (quote_by (slice_get lines machine) work) None

-- each line is a machine
abbrev pub lines_meaning : List Line → Meaning Cents
lines_meaning lines = record { count = length lines; quote = card_quote lines }

abbrev pub card_meaning : RateCard → Meaning Cents
card_meaning card = record { count = length (lines_of card); quote = card_quote (lines_of card) }
