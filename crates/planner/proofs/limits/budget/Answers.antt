use Rattle.std.proofs.Common.{refl, sym}
use Rattle.sheets.specs.declared.call.Call.TheVariants.{Budget}
use Rattle.sheets.proofs.Histories.{known_further}
use Rattle.cells.proofs.Laws.{laws_of}
use Rattle.planner.proofs.Equations.{budget_equation, budget_equation_at_once}
use Rattle.planner.proofs.Words.{budget_tells}
use Rattle.planner.proofs.OffTheFront.{budget_off_the_front}
use Rattle.planner.proofs.limits.budget.Goals as goal

pub returns : goal.returns
returns g c =
    let T = g.T.Tariff.meaning c.of_standing-timed.result.priced.tariff.now in
    let F = g.T.Tariff.ranged c.of_standing-timed.result.priced.tariff.now in
    let laws = laws_of g.met.T.Cost.Cost in
    let told = c.answer_limit.ensures in
    rw (sym c.of_standing-timed.ensures.priced) (record {
      answer = told.answer;
      cells = told.cells;
      bytes = told.bytes;
      words = budget_tells laws T F c.of_standing-timed.result.priced.sheet.now c.args.cells.now c.args.bytes.now c.answer_limit.new.bytes c.args.limit c.answer_limit.result told.answer told.bytes;
      equation = budget_equation laws T F c.of_standing-timed.result.priced.sheet.now c.args.cells.now c.args.bytes.now c.args.limit c.answer_limit.result told.answer;
      at_once = budget_equation_at_once laws T F c.of_standing-timed.result.priced.sheet.now c.args.cells.now c.args.bytes.now c.args.limit c.answer_limit.result told.answer;
      off_the_front = budget_off_the_front laws T F c.of_standing-timed.result.priced.sheet.now c.args.limit c.args.cells.now c.args.bytes.now c.answer_limit.result told.answer;
      known = known_further _ Budget _ refl;
    })
