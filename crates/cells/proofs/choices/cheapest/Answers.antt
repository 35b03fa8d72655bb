use Rattle.std.proofs.Common.{◌≡◌, ap, ◌∙◌, arith}
use Rattle.sheets.specs.Book.{book}
use Rattle.model.specs.Allowance.{cheapest, cheapest_below}
use Rattle.cells.specs.Minutes.{task_at}
use Rattle.cells.proofs.InWords.{cheapest_cases}
use Rattle.cells.proofs.Laws.{laws_of}
use Rattle.cells.proofs.choices.cheapest.Goals as goal

pub returns : goal.returns
returns g c =
    let K = g.T.Cost.Cost.kind in
    let T = g.T.Tariff.meaning c.args.timed.now.priced.tariff.now in
    let task = task_at (book c.args.timed.now.priced.sheet.now).tasks c.args.number in
    let all : c.loop-machine.machine ≡ T.count = omega arith in
    let found : c.loop-machine.best ≡ cheapest K T task c.args.allowance = c.loop-machine.invariant ∙ ap (cheapest_below K T task c.args.allowance) all in
    record {
      value = found;
      chosen = cheapest_cases (laws_of g.met.T.Cost.Cost) T (g.T.Tariff.ranged c.args.timed.now.priced.tariff.now) task c.args.allowance c.loop-machine.best found;
    }
