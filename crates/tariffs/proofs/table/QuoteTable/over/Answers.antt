use Rattle.tariffs.proofs.Tables.{first_row_quotes}
use Rattle.tariffs.proofs.table.QuoteTable.over.Goals as goal

pub returns-clause-words : goal.returns-clause-words
returns-clause-words c = first_row_quotes c.args.rows.now
