-- A hire read from plain numbers: the work, then each machine's terms
use Rattle.std.specs.List.{slice_get}
use Rattle.std.specs.Prelude.{ℕ, ◌+◌, ◌*◌, Bool, cond, not, List, map, length, take, Some, None, Ok, Err, Option, Result, nat_lt}
use Rattle.refusals.specs.Answer.{Answer, Refused, carrying}
use Rattle.work.specs.Work.{work_in_range}
use Rattle.tariffs.specs.declared.card.RateCard.{RateCard}
use Rattle.tariffs.specs.declared.line.Line.{Line}
use Rattle.tariffs.specs.Card.{lines_of}
use Rattle.tariffs.specs.declared.refusal.CardRefusal.{CardRefusal}
use Rattle.tariffs.specs.declared.refusal.CardRefusal.TheVariants.{Full, OutOfRange}
use Rattle.tariffs.specs.First.{position}
use Rattle.tariffs.specs.Line.{line, line_in_range}
use Rattle.hire.specs.declared.hire.Hire.{Hire}
use Rattle.hire.specs.declared.refusal.HireRefusal.{HireRefusal}
use Rattle.hire.specs.declared.terms.Terms.{Terms}
use Rattle.hire.specs.Refusal.{hire_told}

abbrev pub terms_line : Terms → Line
terms_line t = line t.speed t.rate

abbrev pub out_of_range : Terms → Bool
out_of_range t = not (line_in_range t.speed t.rate)

-- the argument that is a machine's speed; its rate is the next
abbrev pub speed_argument : ℕ → ℕ
speed_argument machine = 2 + 2 * machine

-- of the terms of a machine that are out of range, the argument that is: the speed, else the rate. At the rate 0, which is
-- in range, the speed alone decides
abbrev pub bad_argument : ℕ → Terms → ℕ
bad_argument machine t = cond (line_in_range t.speed 0) (speed_argument machine + 1) (speed_argument machine)

-- the same of the machine of this number, where there is one
abbrev pub argument_in : List Terms → ℕ → ℕ
argument_in terms machine = elim (slice_get terms machine) [ Some t ↦ bad_argument machine t | None ↦ speed_argument machine ]

-- what is told of the refused line of a machine
abbrev pub told_at : CardRefusal → ℕ → Terms → Refused
told_at Full machine t = carrying 4 (speed_argument machine)
told_at OutOfRange machine t = carrying 5 (bad_argument machine t)

-- the lines of the card, unless a line is refused: one of the first 32 that is out of range, by 5, else the 33rd, by 4
abbrev pub card_verdict : List Terms → Option ℕ → Answer (List Line)
card_verdict terms (Some machine) = Err (carrying 5 (argument_in terms machine))
card_verdict terms None = cond (nat_lt 32 (length terms)) (Err (carrying 4 (speed_argument 32))) (Ok (map terms_line terms))

abbrev pub card_answer : List Terms → Answer (List Line)
card_answer terms = card_verdict terms (position out_of_range (take 32 terms))

-- the lines for a work in range; the work is argument 1
abbrev pub hire_answer : ℕ → List Terms → Answer (ℕ × List Line)
hire_answer work terms =
    cond (work_in_range work)
    (elim (card_answer terms) [ Ok lines ↦ Ok (work, lines) | Err refused ↦ Err refused ])
    (Err (carrying 3 1))

-- results as the answers above give them
abbrev pub card_heard : Result RateCard HireRefusal → Answer (List Line)
card_heard (Ok card) = Ok (lines_of card)
card_heard (Err refusal) = Err (hire_told refusal)

abbrev pub hire_heard : Result Hire HireRefusal → Answer (ℕ × List Line)
hire_heard (Ok hire) = Ok (hire.work, lines_of hire.card)
hire_heard (Err refusal) = Err (hire_told refusal)
