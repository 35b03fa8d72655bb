-- The numbers of the refusals of cards and of rows, and what they carry
use Rattle.refusals.specs.Answer.{Refused, plain, carrying}
use Rattle.tariffs.specs.declared.refusal.CardRefusal.{CardRefusal}
use Rattle.tariffs.specs.declared.refusal.CardRefusal.TheVariants.{Full, OutOfRange}
use Rattle.tariffs.specs.declared.refusal.RowRefusal.{RowRefusal}
use Rattle.tariffs.specs.declared.refusal.RowRefusal.TheVariants.{Bad, TooMany}

abbrev pub card_told : CardRefusal → Refused
card_told Full = plain 4
card_told OutOfRange = plain 5

abbrev pub row_told : RowRefusal → Refused
row_told (Bad row) = carrying 6 row
row_told TooMany = carrying 6 256
