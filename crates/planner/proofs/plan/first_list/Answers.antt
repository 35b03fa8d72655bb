use Rattle.std.proofs.Common.{◌<◌, length, arith}
use Rattle.sheets.specs.Book.{book}
use Rattle.planner.proofs.FirstList.{reaches_read, spent_more, listed_more, listed_all}
use Rattle.planner.proofs.plan.first_list.Goals as goal

pub stages-preserved-then-completes : goal.stages-preserved-then-completes
stages-preserved-then-completes g c =
    let K = g.T.Cost.Cost.kind in
    let T = g.T.Tariff.meaning c.args.timed.now.priced.tariff.now in
    let spent = c.loop-allowance.spent in
    let tested = reaches_read K T (book c.args.timed.now.priced.sheet.now) c.args.point.now c.requires.filled
    c.stages.stage c.loop-allowance.left c.loop-allowance.allowance spent c.next_cost-cost.result c.cost_at-rest.result c.completes.result
    (omega arith) (omega arith) c.next_cost-cost.ensures c.cost_at-rest.ensures c.completes.ensures in
    let next = spent_more K T (book c.args.timed.now.priced.sheet.now) c.args.point.now c.stages.stage c.loop-allowance.allowance spent c.or_neutral.result c.join-spent.result c.next_cost-cost.result
    c.join-spent.ensures c.or_neutral.ensures c.next_cost-cost.ensures in
    let room : c.stages.stage < length c.loop-allowance.list = omega arith in
    let more = listed_more K T (book c.args.timed.now.priced.sheet.now) c.args.point.now c.loop-allowance.list c.stages.stage c.loop-allowance.left c.loop-allowance.allowance spent c.join-spent.result c.completes.result
    (omega arith) room (omega arith) tested c.then-completes.either c.loop-allowance.invariant.3 next c.loop-allowance.invariant.2 in
    (omega arith, more)

pub returns : goal.returns
returns g c =
    listed_all g.T.Cost.Cost.kind (g.T.Tariff.meaning c.args.timed.now.priced.tariff.now) (book c.args.timed.now.priced.sheet.now) c.args.point.now
    c.stages.list c.stages.stage c.stages.left c.stages.spent (omega arith) c.stages.invariant.1
