-- The quote of one machine
use Rattle.std.specs.Prelude.{ℕ, not, [], ◌∷◌, Some, None, Ok, Err, Option}
use Rattle.refusals.specs.Answer.{Answer, refused_if}
use Rattle.work.specs.Work.{work_in_range}
use Rattle.costs.specs.declared.cents.Cents.{Cents}
use Rattle.tariffs.specs.declared.quote.Quote.{Quote}
use Rattle.tariffs.specs.Line.{line, line_in_range}
use Rattle.tariffs.specs.Card.{lines_meaning}

-- what a card of one line quotes
abbrev pub quote_answer : ℕ → ℕ → ℕ → Answer (Option (Quote Cents))
quote_answer speed rate work =
    refused_if (not (work_in_range work)) 3
    (refused_if (not (line_in_range speed rate)) 5
    (Ok ((lines_meaning (line speed rate ∷ [])).quote 0 work)))

-- 0 with a quote, 255 without one, or the number of the refusal
abbrev pub quote_status : Answer (Option (Quote Cents)) → ℕ
quote_status (Ok (Some quote)) = 0
quote_status (Ok None) = 255
quote_status (Err refused) = refused.number

-- the quote's minutes and cents; without one both stay as they were
abbrev pub minutes_after : Answer (Option (Quote Cents)) → ℕ → ℕ
minutes_after (Ok (Some quote)) was = quote.minutes
minutes_after (Ok None) was = was
minutes_after (Err refused) was = was

abbrev pub cents_after : Answer (Option (Quote Cents)) → ℕ → ℕ
cents_after (Ok (Some quote)) was = quote.cost.value
cents_after (Ok None) was = was
cents_after (Err refused) was = was
