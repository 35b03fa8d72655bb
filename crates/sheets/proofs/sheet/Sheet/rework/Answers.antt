use Rattle.std.proofs.Common.{rules}
use Rattle.sheets.proofs.Histories.{known_further}
use Rattle.sheets.proofs.Sheets.{rework_written}
use Rattle.sheets.proofs.sheet.Sheet.rework.Goals as goal

pub returns-clause-known : goal.returns-clause-known
returns-clause-known c = known_further _ _ _ (search (rules, rework_written))
