-- The refusals of a sheet by number
use Rattle.refusals.specs.Answer.{Refused, plain}
use Rattle.sheets.specs.declared.refusal.SheetRefusal.{SheetRefusal}
use Rattle.sheets.specs.declared.refusal.SheetRefusal.TheVariants.{Full, Unknown, WorkOutOfRange}

abbrev pub sheet_told : SheetRefusal → Refused
sheet_told Full = plain 1
sheet_told Unknown = plain 2
sheet_told WorkOutOfRange = plain 3
