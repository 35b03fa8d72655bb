use Rattle.std.proofs.Common.{◌≡◌, ℕ, ◌+◌, ◌<◌, List, length, Some, sym, ap, ◌∙◌, subst}
use Rattle.std.specs.Option.{option_to_list}
use Rattle.model.specs.declared.point.Point.{Point}
use Rattle.model.specs.Scan.{point_at}
use Rattle.cells.specs.Memory.{row_costs}
use Rattle.planner.proofs.Points.{Written, room_behind, written_more, written_same}
use Rattle.planner.proofs.scan.write_points.Given as given
use Rattle.planner.proofs.scan.write_points.Goals as goal
use Rattle.planner.proofs.scan.write_points.Goals.{in-Some, in_default}

-- a point that comes has room
room : (g : given.Over) (c : goal.In-Some g) → c.loop-minute.count < length c.loop-minute.points
room g c =
    let K = g.C.Cost.kind in
    let costs = row_costs K c.args.rows.now.layout c.args.rows.now.cells.now 0 in
    room_behind K costs c.args.points.now c.loop-minute.points c.loop-minute.minute c.loop-minute.count c.args.rows.now.layout.width c.in-Some.point c.loop-minute.invariant.1 c.loop-minute-test.true c.requires
    (ap option_to_list (sym c.in-Some.is) ∙ c.point_at.ensures)

pub bounds-points-count : goal.bounds-points-count
bounds-points-count g c = room g c

pub loop-minute-preserved : goal.loop-minute-preserved
loop-minute-preserved g c =
    let K = g.C.Cost.kind in
    let costs = row_costs K c.args.rows.now.layout c.args.rows.now.cells.now 0 in
    let was = c.args.points.now in
    let t = c.loop-minute.minute in
    let so_far = c.loop-minute.invariant.1 in
    elim c.match-point_at.branch [
      | in-Some w ↦
          let some : option_to_list (Some w.in-Some.point) ≡ point_at K costs t (costs t) = ap option_to_list (sym w.in-Some.is) ∙ c.point_at.ensures in
          let free = room_behind K costs was c.loop-minute.points t c.loop-minute.count c.args.rows.now.layout.width w.in-Some.point so_far c.loop-minute-test.true c.requires some in
          let more = written_more K costs was c.loop-minute.points t c.loop-minute.count w.in-Some.point so_far free some in
          let here = subst (λ (ps : List (Point g.row.C.Denot)). Written K costs was ps (t + 1) (c.loop-minute.count + 1)) (sym w.points-is) more in
          let now_here = subst (λ (n : ℕ). Written K costs was c.match-point_at.points (t + 1) n) (sym w.count-is) here in
          (now_here.long, now_here)
      | in_default w ↦
          let same = written_same K costs was c.loop-minute.points t c.loop-minute.count c.point_at.result w.in_default.is c.point_at.ensures so_far in
          let here = subst (λ (ps : List (Point g.row.C.Denot)). Written K costs was ps (t + 1) c.loop-minute.count) (sym w.points-is) same in
          let now_here = subst (λ (n : ℕ). Written K costs was c.match-point_at.points (t + 1) n) (sym w.count-is) here in
          (now_here.long, now_here)
    ]
