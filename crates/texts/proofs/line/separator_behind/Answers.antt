use Rattle.std.proofs.Common.{sym}
use Rattle.texts.specs.declared.word.Word.TheVariants.{Refused}
use Rattle.texts.proofs.Lines.{separator_within}
use Rattle.texts.proofs.line.separator_behind.Goals as goal

pub returns-then-place-words : goal.returns-then-place-words
returns-then-place-words c = sym (separator_within c.args.words.now _ Refused c.if-place-words.true)
