use Rattle.std.proofs.Common.{ap, ◌∙◌, length, arith, rules}
use Rattle.std.proofs.lemmas.Iterator.{YieldsList-from_range}
use Rattle.std.proofs.lemmas.Iterator.Consumers.{YieldsList-from_filter_map, count_from_yields_List}
use Rattle.planner.specs.Row.{first_row}
use Rattle.planner.proofs.Points.{dropped, dropped_told, drops_told}
use Rattle.planner.proofs.scan.count_points.Goals as goal

pub returns : goal.returns
returns g c =
    let K = g.C.Cost.kind in
    let costs = first_row K c.args.rows.now in
    let width = c.args.rows.now.layout.width in
    count_from_yields_List c.filter_map.result c.count.result c.count.ensures.ran
    (YieldsList-from_filter_map _ (dropped K costs) (YieldsList-from_range 0 width width c.filter_map.ensures.source (omega arith)) c.filter_map.ensures.closure (λ x r q k. (search rules, dropped_told K costs x r (search rules))))
    ∙ ap length (drops_told K costs width)
