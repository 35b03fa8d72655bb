use Rattle.std.proofs.Common.{◌^◌, ◌<◌, rules}
use Rattle.refusals.specs.Answer.{plain, carrying}
use Rattle.texts.specs.Line.{line}
use Rattle.texts.specs.RefusalLine.{refusal_words}
use Rattle.texts.proofs.Fitting.{fits_in, bare_length, carrying_length}
use Rattle.texts.proofs.refusal_line.write_refusal.Goals as goal

pub returns-in-Some-clause-fits : goal.returns-in-Some-clause-fits
returns-in-Some-clause-fits g c =
    let small : c.from.result < 256 = search rules in
    let fits : c.in-Some.value < 2 ^ 64 = search rules in
    fits_in 33 (line (refusal_words (carrying c.from.result c.in-Some.value))) c.args.memory.now c.write_line.result c.write_line.ensures.answer (carrying_length c.from.result c.in-Some.value small fits)

pub returns-in-None-clause-fits : goal.returns-in-None-clause-fits
returns-in-None-clause-fits g c =
    let small : c.from.result < 256 = search rules in
    fits_in 33 (line (refusal_words (plain c.from.result))) c.args.memory.now c.write_line-in-None.result c.write_line-in-None.ensures.answer (bare_length c.from.result small)
