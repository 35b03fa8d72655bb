use Rattle.std.proofs.Common.{rules}
use Rattle.numbers.proofs.OnSpellings.{byte_string}
use Rattle.sheets.specs.Book.{book}
use Rattle.keyfile.proofs.OnFiles.{accepted_files_are_as_written}
use Rattle.keyfile.proofs.sheet.read_sheet.Goals as goal

pub returns-clause-as_written : goal.returns-clause-as_written
returns-clause-as_written c = accepted_files_are_as_written c.args.bytes.now (book c.read_sheet_from.new.sheet) (byte_string c.args.bytes.now (λ i. (c.type_inv.bytes i).fits)) (search rules)
