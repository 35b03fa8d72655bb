use Rattle.std.proofs.Common.{◌≡◌, ℕ, ◌+◌, ◌-◌, ◌<◌, ◌≤◌, length, get_or, Some, None, Option, sym, ap, ◌∙◌, ap₂, arith}
use Rattle.std.proofs.lemmas.List.{get_or_default}
use Rattle.model.specs.declared.cell.Cell.{Cell}
use Rattle.model.specs.Cell.{cell_of, cost_in}
use Rattle.cells.specs.Layout.{size}
use Rattle.cells.specs.Memory.{cell_at, row_costs, lowered, lowered_row}
use Rattle.cells.proofs.Lowerings.{lowered_by}
use Rattle.cells.proofs.Rows.{written_more, written_past, still}
use Rattle.cells.proofs.memory.lower_row.Goals as goal
use Rattle.cells.proofs.memory.lower_row.Goals.{in-Some, in_default}

pub loop-minutes-preserved : goal.loop-minutes-preserved
loop-minutes-preserved g c =
    let K = g.C.Cost.kind in
    let before = c.args.cells.now in
    let cells = c.loop-minutes.cells in
    let m = c.loop-minutes.minutes in
    let a = c.args.allowance in
    let new = lowered_row K c.args.layout before c.args.stage a c.args.cost in
    let allowed : c.args.allowance ≤ c.loop-minutes.minutes = omega arith in
    let room : size c.args.layout ≤ length c.loop-minutes.cells = omega arith in
    let inside : c.place-behind.result < length c.loop-minutes.cells = omega (arith, c.place-behind.ensures.inside (omega arith) (omega arith)) in
    -- the row behind is as it was
    let behind : (d : Cell g.row.C.Denot) → get_or c.loop-minutes.cells c.place-behind.result d ≡ cell_at g.C.Cost.kind c.args.layout c.args.cells.now (c.args.stage + 1) (c.loop-minutes.minutes - c.args.allowance) =
    λ d. get_or_default cells c.place-behind.result d (cell_of K None) inside
    ∙ ap (λ (i : ℕ). get_or cells i (cell_of K None)) c.place-behind.ensures.value
    ∙ c.loop-minutes.invariant.elsewhere (c.args.stage + 1) (c.loop-minutes.minutes - c.args.allowance) (omega arith) (omega arith) (omega arith) in
    let rest : (o : Option g.row.C.Denot) → c.least.result ≡ o → row_costs K c.args.layout before (c.args.stage + 1) (m - a) ≡ o =
    λ o e. sym (ap (λ (cell : Cell g.row.C.Denot). cost_in cell) (c.index-cells-behind.is ∙ behind c.index-cells-behind.result)) ∙ sym c.least.ensures ∙ e in
    elim c.match-least.branch [
      | in-Some w ↦
          let here = still new m c.loop-minutes.invariant (omega arith) in
          rw (w.cells-is, w.lower.ensures, w.place.ensures.value) (written_more new m c.loop-minutes.invariant (lowered K (cell_at K c.args.layout cells c.args.stage m) (Some w.join.result)) (omega arith) (omega arith) room
          (lowered_by K c.args.layout before c.args.stage a c.args.cost m allowed (Some w.in-Some.rest) (rest _ w.in-Some.is)
          ∙ sym (ap₂ (λ (cell : Cell g.row.C.Denot) (o : g.row.C.Denot). lowered K cell (Some o)) here w.join.ensures)))
      | in_default w ↦ rw w.cells-is (written_past new m c.loop-minutes.invariant (lowered_by K c.args.layout before c.args.stage a c.args.cost m allowed None (rest _ w.in_default.is)))
    ]
