use Rattle.std.proofs.Common.{◌^◌, ◌<◌, ◌≤◌, [], ◌∷◌, arith, rules}
use Rattle.texts.specs.declared.word.Word.TheVariants.{Number}
use Rattle.texts.specs.Line.{line}
use Rattle.texts.proofs.Fitting.{fits_in}
use Rattle.keyanswer.proofs.OnVerdicts.{pair_line_length}
use Rattle.keyanswer.proofs.verdict.write_pair.Goals as goal

pub returns-clause-fits : goal.returns-clause-fits
returns-clause-fits c =
    let small : c.from.result < 2 ^ 32 = search rules in
    let within = c.args.pair.now.cost.within in
    let few : c.amount.result ≤ 1000000000000000 = omega (arith, c.amount.ensures, within) in
    fits_in 40 (line (c.args.sheet ∷ (Number c.from.result ∷ (Number c.amount.result ∷ [])))) c.args.text.now c.write_line.result c.write_line.ensures.answer
    (pair_line_length c.args.sheet c.requires c.from.result c.amount.result small few)
