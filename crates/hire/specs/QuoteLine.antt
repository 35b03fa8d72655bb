-- The words of a quote's line
use Rattle.std.specs.Prelude.{ℕ, List, [], ◌∷◌, Some, None, Option}
use Rattle.costs.specs.declared.cents.Cents.{Cents}
use Rattle.tariffs.specs.declared.quote.Quote.{Quote}
use Rattle.texts.specs.declared.word.Word.{Word}
use Rattle.texts.specs.declared.word.Word.TheVariants.{Number, NoQuote}

-- machine, minutes and cents, or machine and `none`
abbrev pub quote_words : ℕ → Option (Quote Cents) → List Word
quote_words machine (Some q) = Number machine ∷ (Number q.minutes ∷ (Number q.cost.value ∷ []))
quote_words machine None = Number machine ∷ (NoQuote ∷ [])
