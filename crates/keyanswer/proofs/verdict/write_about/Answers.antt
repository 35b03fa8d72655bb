use Rattle.std.proofs.Common.{◌^◌, ◌<◌, [], ◌∷◌, rules}
use Rattle.texts.specs.declared.word.Word.TheVariants.{Number, Refused}
use Rattle.texts.specs.Line.{line}
use Rattle.texts.proofs.Fitting.{fits_in}
use Rattle.keyanswer.proofs.OnVerdicts.{bare_about, carrying_about}
use Rattle.keyanswer.proofs.verdict.write_about.Goals as goal

pub returns-in-Some-clause-fits : goal.returns-in-Some-clause-fits
returns-in-Some-clause-fits c =
    let small : c.from.result < 256 = search rules in
    let fits : c.in-Some.value < 2 ^ 64 = search rules in
    fits_in 40 (line (Refused ∷ (c.args.input ∷ (Number c.from.result ∷ (Number c.in-Some.value ∷ []))))) c.args.text.now c.write_line.result c.write_line.ensures.answer
    (carrying_about c.args.input c.requires c.from.result c.in-Some.value small fits)

pub returns-in-None-clause-fits : goal.returns-in-None-clause-fits
returns-in-None-clause-fits c =
    let small : c.from.result < 256 = search rules in
    fits_in 40 (line (Refused ∷ (c.args.input ∷ (Number c.from.result ∷ [])))) c.args.text.now c.write_line-in-None.result c.write_line-in-None.ensures.answer
    (bare_about c.args.input c.requires c.from.result small)
