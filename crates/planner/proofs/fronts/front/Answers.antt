use Rattle.std.proofs.Common.{refl, sym}
use Rattle.sheets.specs.declared.call.Call.TheVariants.{Front}
use Rattle.sheets.proofs.Histories.{known_further}
use Rattle.cells.proofs.Laws.{laws_of}
use Rattle.planner.proofs.OffTheFront.{front_below, front_empty}
use Rattle.planner.proofs.fronts.front.Goals as goal

pub returns : goal.returns
returns g c =
    let T = g.T.Tariff.meaning c.of_standing-timed.result.priced.tariff.now in
    let F = g.T.Tariff.ranged c.of_standing-timed.result.priced.tariff.now in
    let laws = laws_of g.met.T.Cost.Cost in
    rw (sym c.of_standing-timed.ensures.priced) (record {
      answer = c.write_front.ensures.answer;
      cells = c.write_front.ensures.cells;
      points = c.write_front.ensures.points;
      words = c.write_front.ensures.words;
      below = front_below laws T F c.of_standing-timed.result.priced.sheet.now c.write_front.new.points c.write_front.result c.write_front.ensures.words;
      empty = front_empty laws T F c.of_standing-timed.result.priced.sheet.now c.write_front.new.points c.write_front.result c.write_front.ensures.words;
      known = known_further _ Front _ refl;
    })
