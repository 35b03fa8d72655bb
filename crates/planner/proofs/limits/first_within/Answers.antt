use Rattle.std.proofs.Common.{sym, ◌∙◌}
use Rattle.planner.specs.Row.{first_row}
use Rattle.planner.proofs.FirstWithin.{first_here}
use Rattle.planner.proofs.limits.first_within.Goals as goal

pub returns-in-loop-length-clause-value : goal.returns-in-loop-length-clause-value
returns-in-loop-length-clause-value g c =
    sym (first_here g.C.Cost.kind (first_row g.C.Cost.kind c.args.rows.now) c.args.limit c.loop-length.length c.in-Some.cost c.args.end c.loop-length-test.true c.loop-length.invariant
    (sym c.cost_at.ensures ∙ c.in-Some.is) (sym c.at_most.ensures ∙ c.if-at_most.true))
