-- The lines that answer a hire
use Rattle.std.specs.Prelude.{ℕ, List, length, Ok, Err}
use Rattle.std.specs.List.{range_with_len, flat_map}
use Rattle.refusals.specs.Answer.{Answer}
use Rattle.texts.specs.Line.{line}
use Rattle.texts.specs.RefusalLine.{refusal_words}
use Rattle.tariffs.specs.declared.line.Line.{Line}
use Rattle.tariffs.specs.Card.{lines_meaning}
use Rattle.hire.specs.declared.terms.Terms.{Terms}
use Rattle.hire.specs.Hire.{hire_answer}
use Rattle.hire.specs.QuoteLine.{quote_words}

-- what a machine of the card quotes for the work
abbrev pub quote_line : List Line → ℕ → ℕ → List ℕ
quote_line lines work machine = line (quote_words machine ((lines_meaning lines).quote machine work))

-- a line for each machine of the card, in the order of their numbers
abbrev pub quote_lines : List Line → ℕ → List ℕ
quote_lines lines work = flat_map (quote_line lines work) (range_with_len 0 (length lines))

-- the lines of all machines, or the line of the refusal
abbrev pub text_of : Answer (ℕ × List Line) → List ℕ
text_of (Ok hire) = quote_lines hire.1 hire.0
text_of (Err refused) = line (refusal_words refused)

abbrev pub hire_text : ℕ → List Terms → List ℕ
hire_text work terms = text_of (hire_answer work terms)
