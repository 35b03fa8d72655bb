use Rattle.std.proofs.Common.{[], ◌∷◌, arith}
use Rattle.texts.specs.declared.word.Word.TheVariants.{Same}
use Rattle.texts.specs.Line.{line}
use Rattle.texts.proofs.Fitting.{fits_in}
use Rattle.keyanswer.proofs.verdict.write_better.Goals as goal

pub returns-in-None-clause-fits : goal.returns-in-None-clause-fits
returns-in-None-clause-fits c = fits_in 40 (line (Same ∷ [])) c.args.text.now c.write_line.result c.write_line.ensures.answer (omega arith)
