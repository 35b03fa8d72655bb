use Rattle.std.proofs.Common.{refl, sym}
use Rattle.sheets.specs.declared.call.Call.TheVariants.{Front}
use Rattle.sheets.specs.Book.{book}
use Rattle.sheets.proofs.Histories.{known_further}
use Rattle.cells.proofs.Laws.{laws_of}
use Rattle.planner.proofs.BetterTold.{better_tells}
use Rattle.planner.proofs.better.better_bargain.Goals as goal

pub returns : goal.returns
returns g c =
    let T = g.T.Tariff.meaning c.of_standing-first.result.priced.tariff.now in
    let U = g.U.Tariff.meaning c.of_standing-second.result.priced.tariff.now in
    let F = g.T.Tariff.ranged c.of_standing-first.result.priced.tariff.now in
    let G = g.U.Tariff.ranged c.of_standing-second.result.priced.tariff.now in
    let laws = laws_of g.met.T.Cost.Cost in
    rw (sym c.of_standing-first.ensures.priced, sym c.of_standing-second.ensures.priced) (record {
      answer = c.compare.ensures.answer;
      cells = c.compare.ensures.cells;
      first_points = c.compare.ensures.first_points;
      second_points = c.compare.ensures.second_points;
      words = better_tells laws T U F G (book c.of_standing-first.result.priced.sheet.now) (book c.of_standing-second.result.priced.sheet.now) c.args.cells.now c.args.first_points.now c.args.second_points.now c.compare.result c.compare.ensures.answer;
      known = (known_further _ Front _ refl, known_further _ Front _ refl);
    })
