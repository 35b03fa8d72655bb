use Rattle.std.proofs.Common.{Ok}
use Rattle.sheets.specs.Book.{book}
use Rattle.cells.proofs.Laws.{laws_of}
use Rattle.model.proofs.Bargains.{equal_fronts_mean_same_bargains}
use Rattle.planner.proofs.Verdicts.{verdict_holds}
use Rattle.planner.proofs.BetterTold.{same_told}
use Rattle.planner.proofs.bargains.same_bargains.Goals as goal

pub returns : goal.returns
returns g c =
    let K = g.T.Cost.Cost.kind in
    let T = g.T.Tariff.meaning c.args.first.now.tariff.now in
    let U = g.U.Tariff.meaning c.args.second.now.tariff.now in
    let F = g.T.Tariff.ranged c.args.first.now.tariff.now in
    let G = g.U.Tariff.ranged c.args.second.now.tariff.now in
    let laws = laws_of g.met.T.Cost.Cost in
    let cells = c.args.cells.now in
    let first_points = c.args.first_points.now in
    let second_points = c.args.second_points.now in
    let answer = same_told laws T U F G (book c.args.first.now.sheet.now) (book c.args.second.now.sheet.now) cells first_points second_points c.in_ok-better.better c.is_none.result c.is_none.ensures c.in_ok-better.ensures.answer in
    record {
      answer = answer;
      cells = c.in_ok-better.ensures.cells;
      first_points = c.in_ok-better.ensures.first_points;
      second_points = c.in_ok-better.ensures.second_points;
      bargains = equal_fronts_mean_same_bargains laws T U F G;
      verdict = verdict_holds laws T U F G c.args.first.now.sheet.now c.args.second.now.sheet.now cells first_points second_points (Ok c.is_none.result) answer;
      known = c.in_ok-better.ensures.known;
    }

pub returns-in_err-better-clause-bargains : goal.returns-in_err-better-clause-bargains
returns-in_err-better-clause-bargains g c =
    let T = c.args.first.now.tariff.now in
    let U = c.args.second.now.tariff.now in
    equal_fronts_mean_same_bargains (laws_of g.met.T.Cost.Cost) (g.T.Tariff.meaning T) (g.U.Tariff.meaning U) (g.T.Tariff.ranged T) (g.U.Tariff.ranged U)
