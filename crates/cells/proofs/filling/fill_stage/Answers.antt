use Rattle.std.proofs.Common.{◌≡◌, ℕ, suc, ◌+◌, ◌<◌, None, Option, false, length, get_or, min, refl, sym, ap, ◌∙◌, ap₂, arith}
use Rattle.std.proofs.lemmas.List.{length-take, get_or-take, get_or_default}
use Rattle.sheets.specs.Book.{book}
use Rattle.model.specs.Assignment.{stage_tasks}
use Rattle.model.specs.Allowance.{cost_within, cost_until}
use Rattle.model.specs.declared.cell.Cell.{Cell}
use Rattle.model.specs.Cell.{cell_of, cost_in}
use Rattle.model.proofs.CostSteps.{cost_kept}
use Rattle.cells.specs.Memory.{cell_at, row_costs, if_less, stage_row}
use Rattle.cells.proofs.Laws.{laws_of}
use Rattle.cells.proofs.Drops.{falling_like, less_is}
use Rattle.cells.proofs.Rows.{written_then}
use Rattle.cells.proofs.Fillings.{stage_row_like, stage_row_past, row_begun, row_untimed, row_no_less, row_lowered, row_extended}
use Rattle.cells.proofs.filling.fill_stage.Goals as goal
use Rattle.cells.proofs.filling.fill_stage.Goals.{then-quoted+in-Some, then-quoted+in_default, else-quoted}

pub loop-allowance-init : goal.loop-allowance-init
loop-allowance-init g c =
    let K = g.T.Cost.Cost.kind in
    let T = g.T.Tariff.meaning c.args.timed.now.priced.tariff.now in
    let tasks = stage_tasks (book c.args.timed.now.priced.sheet.now).tasks c.args.stage in
    let rest = row_costs K c.args.layout c.write_row.new.cells (c.args.stage + 1) in
    (refl, row_begun K T tasks rest (c.args.longest + 1) (rw c.of.ensures at c.write_row.ensures))

pub loop-allowance-preserved : goal.loop-allowance-preserved
loop-allowance-preserved g c =
    let K = g.T.Cost.Cost.kind in
    let T = g.T.Tariff.meaning c.args.timed.now.priced.tariff.now in
    let F = g.T.Tariff.ranged c.args.timed.now.priced.tariff.now in
    let tasks = stage_tasks (book c.args.timed.now.priced.sheet.now).tasks c.args.stage in
    let rest = row_costs K c.args.layout c.write_row.new.cells (c.args.stage + 1) in
    let begun = cell_at K c.args.layout c.write_row.new.cells c.args.stage in
    let a = c.loop-allowance.allowance in
    let before = c.loop-allowance.before in
    let so_far = c.loop-allowance.invariant in
    let within : a < 1441 = omega (arith, c.min.ensures, length-take c.min.result c.quoted_times-times.result) in
    let quoted = get_or-take c.min.result c.quoted_times-times.result a false (omega (arith, length-take c.min.result c.quoted_times-times.result)) ∙ c.quoted_times-times.ensures a within in
    let next : cost_within K T tasks a ≡ cost_until K T tasks (a + 1) = ap (cost_until K T tasks) (let e : suc a ≡ a + 1 = omega arith in e) in
    elim c.if-quoted.branch [
      | then-quoted+in-Some w ↦
          let less = sym (ap₂ (λ (x y : Option g.row.T-Cost.Denot). if_less K x y) so_far.0 w.stage_cost-cost.ensures) ∙ sym w.if_less.ensures ∙ w.in-Some.is in (
            w.before-is ∙ w.stage_cost-cost.ensures ∙ next,
            rw w.cells-is (row_lowered K T tasks rest (c.args.longest + 1) begun a so_far.1 w.in-Some.less
                (λ u l. ap (λ (cell : Cell g.row.T-Cost.Denot). cost_in cell) (so_far.1.elsewhere (c.args.stage + 1) u (omega arith) (omega arith) l))
                (sym quoted ∙ w.if-quoted.true) (less_is K (cost_until K T tasks a) (cost_within K T tasks a) w.in-Some.less less) w.lower_row.ensures),
          )
      | then-quoted+in_default w ↦
          let none = sym (ap₂ (λ (x y : Option g.row.T-Cost.Denot). if_less K x y) so_far.0 w.stage_cost-cost.ensures) ∙ sym w.if_less.ensures ∙ w.in_default.is in
          let falling = falling_like K c.args.layout.width (row_costs K c.args.layout c.args.cells.now (c.args.stage + 1)) rest
          (λ u l. sym (ap (λ (cell : Cell g.row.T-Cost.Denot). cost_in cell) (c.write_row.ensures.elsewhere (c.args.stage + 1) u (omega arith) (omega arith) l))) c.requires.falling in (
            w.before-is ∙ w.stage_cost-cost.ensures ∙ next,
            rw w.cells-is (row_no_less K T tasks rest (c.args.longest + 1) begun a so_far.1 (laws_of g.met.T.Cost.Cost) F (omega arith) falling none),
          )
      | else-quoted w ↦
          let untimed = sym quoted ∙ w.if-quoted.false in (
            w.before-is ∙ so_far.0 ∙ cost_kept K T F tasks a untimed ∙ next,
            rw w.cells-is (row_untimed K T tasks rest (c.args.longest + 1) begun a so_far.1 untimed),
          )
    ]

pub returns : goal.returns
returns g c =
    let K = g.T.Cost.Cost.kind in
    let T = g.T.Tariff.meaning c.args.timed.now.priced.tariff.now in
    let tasks = stage_tasks (book c.args.timed.now.priced.sheet.now).tasks c.args.stage in
    let rest = row_costs K c.args.layout c.write_row.new.cells (c.args.stage + 1) in
    let first = row_costs K c.args.layout c.args.cells.now (c.args.stage + 1) in
    let n = c.loop-allowance.allowance in
    let longest = c.args.longest in
    let all : n ≡ min 1441 (longest + 1) = omega (arith, c.min.ensures, length-take c.min.result c.quoted_times-times.result) in
    let inside : c.place.result < length c.loop-allowance.cells = omega (arith, c.place.ensures.inside (omega arith) c.requires.short) in
    let last = c.index-cells-place.is ∙ get_or_default c.loop-allowance.cells c.place.result _ (cell_of K None) inside ∙ ap (λ (i : ℕ). get_or c.loop-allowance.cells i (cell_of K None)) c.place.ensures.value in
    written_then c.write_row.ensures (row_extended K
    (stage_row K T tasks rest n) (stage_row K T tasks first 1441) (cell_at K c.args.layout c.write_row.new.cells c.args.stage) longest c.index-cells-place.result c.requires.short last
    (λ t l.
    stage_row_past K T tasks rest n 1441 t (omega arith) (λ a k m. omega arith)
    ∙ stage_row_like K T tasks rest first 1441 t (λ u m. ap (λ (cell : Cell g.row.T-Cost.Denot). cost_in cell) (c.write_row.ensures.elsewhere (c.args.stage + 1) u (omega arith) (omega arith) (omega arith))))
    c.loop-allowance.invariant.1 c.write_row-2.ensures)
