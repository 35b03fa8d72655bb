use Rattle.std.proofs.Common.{◌^◌, ◌<◌, Some, None, sym, ◌∙◌, rules}
use Rattle.texts.specs.Line.{line}
use Rattle.texts.proofs.Fitting.{fits_in}
use Rattle.hire.specs.QuoteLine.{quote_words}
use Rattle.hire.proofs.Quotes.{by_quote}
use Rattle.hire.proofs.line.write_quote.Goals as goal

pub returns-in-Some-clause-fits : goal.returns-in-Some-clause-fits
returns-in-Some-clause-fits g c =
    let small : c.args.machine < 2 ^ 64 = search rules in
    let long = by_quote (g.T.Tariff.meaning c.args.tariff.now) (g.T.Tariff.ranged c.args.tariff.now) c.args.machine c.args.work small (Some c.in-Some.quote) (sym c.quote.ensures ∙ c.in-Some.is) in
    fits_in 63 (line (quote_words c.args.machine (Some c.in-Some.quote))) c.args.memory.now c.write_line.result (rw (c.from.ensures, c.amount.ensures) at c.write_line.ensures.answer) long

pub returns-in-None-clause-fits : goal.returns-in-None-clause-fits
returns-in-None-clause-fits g c =
    let small : c.args.machine < 2 ^ 64 = search rules in
    let long = by_quote (g.T.Tariff.meaning c.args.tariff.now) (g.T.Tariff.ranged c.args.tariff.now) c.args.machine c.args.work small None (sym c.quote.ensures ∙ c.in-None.is) in
    fits_in 63 (line (quote_words c.args.machine None)) c.args.memory.now c.write_line-in-None.result c.write_line-in-None.ensures.answer long
