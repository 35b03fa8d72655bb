-- The number of the refusal of a text that does not fit
use Rattle.refusals.specs.Answer.{Refused, plain}
use Rattle.texts.specs.declared.too_short.TooShort.{TooShort}

abbrev pub too_short_told : TooShort → Refused
too_short_told refusal = plain 8
