use Rattle.std.proofs.Common.{rules}
use Rattle.numbers.specs.Reader.{input_of}
use Rattle.sheets.specs.Book.{book}
use Rattle.keyfile.proofs.OnFiles.{what_is_read_is_known}
use Rattle.keyfile.proofs.sheet.read_sheet_from.Goals as goal

pub returns-clause-known : goal.returns-clause-known
returns-clause-known c = what_is_read_is_known (input_of c.args.reader.now) (book c.loop.opened) (input_of c.loop.ahead) (search rules)
