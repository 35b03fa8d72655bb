use Rattle.std.proofs.Common.{◌≡◌, ℕ, ◌+◌, ◌-◌, drop, Some, Ok, sym, ap, ◌∙◌, subst, arith}
use Rattle.sheets.specs.Book.{book}
use Rattle.model.specs.Assignment.{stage_tasks, standing}
use Rattle.model.specs.Cell.{cell_of, span, width}
use Rattle.model.specs.Question.{few_cells}
use Rattle.model.proofs.Loops.{stages_end, stage_count, span_bound, greatest_time_bound}
use Rattle.cells.specs.declared.layout.Layout.{Layout}
use Rattle.cells.specs.Layout.{layout_of}
use Rattle.cells.proofs.Laws.{laws_of}
use Rattle.cells.proofs.Fillings.{FilledFrom, enough_if_made, longest_from, longest_short, filled_last, filled_more, filled_all, filled_falls}
use Rattle.cells.proofs.filling.fill.Goals as goal

pub loop-stage-init : goal.loop-stage-init
loop-stage-init g c =
    let T = g.T.Tariff.meaning c.args.timed.now.priced.tariff.now in
    let e = enough_if_made (few_cells T (book c.args.timed.now.priced.sheet.now) c.args.cells.now) c.in_ok-layout.layout (layout_of T (book c.args.timed.now.priced.sheet.now)) c.in_ok-layout.ensures.answer in
    let first : c.in_ok-layout.layout.stages ≡ (book c.args.timed.now.priced.sheet.now).stages = ap (λ (l : Layout). l.stages) e.1 in (
      sym (ap (λ (n : ℕ). span T (drop n (standing (book c.args.timed.now.priced.sheet.now)))) first ∙ ap (span T) (stages_end (book c.args.timed.now.priced.sheet.now))),
      filled_last (laws_of g.met.T.Cost.Cost) T (g.T.Tariff.ranged c.args.timed.now.priced.tariff.now) (book c.args.timed.now.priced.sheet.now) c.in_ok-layout.layout e.1 c.of-nothing_left.result (c.of-nothing_left.ensures ∙ ap (λ (cost : g.row.T-Cost.Denot). cell_of g.T.Cost.Cost.kind (Some cost)) c.neutral.ensures) c.write_row.ensures,
    )

pub overflow_add-longest : goal.overflow_add-longest
overflow_add-longest g c =
    let T = g.T.Tariff.meaning c.args.timed.now.priced.tariff.now in
    let F = g.T.Tariff.ranged c.args.timed.now.priced.tariff.now in
    let b = book c.args.timed.now.priced.sheet.now in
    omega (arith, c.loop-stage.invariant.0, longest_short T b c.loop-stage.stage, span_bound T F (standing b), stage_count b, c.greatest_time-longest.ensures, greatest_time_bound T F (stage_tasks b.tasks (c.loop-stage.stage - 1)))

pub fill_stage-requires-clause-short : goal.fill_stage-requires-clause-short
fill_stage-requires-clause-short g c =
    let T = g.T.Tariff.meaning c.args.timed.now.priced.tariff.now in
    let b = book c.args.timed.now.priced.sheet.now in
    let e = enough_if_made (few_cells T b c.args.cells.now) c.in_ok-layout.layout (layout_of T b) c.in_ok-layout.ensures.answer in
    let stages : c.in_ok-layout.layout.stages ≡ (book c.args.timed.now.priced.sheet.now).stages = ap (λ (l : Layout). l.stages) e.1 in
    let width : c.in_ok-layout.layout.width ≡ width T (book c.args.timed.now.priced.sheet.now) = ap (λ (l : Layout). l.width) e.1 in
    let longest = longest_from T b c.loop-stage.stage c.loop-stage.longest c.greatest_time-longest.result c.loop-stage-test.true (omega arith) c.loop-stage.invariant.0 c.greatest_time-longest.ensures in
    omega (arith, longest, longest_short T b (c.loop-stage.stage - 1))

pub fill_stage-requires-clause-falling : goal.fill_stage-requires-clause-falling
fill_stage-requires-clause-falling g c =
    let K = g.T.Cost.Cost.kind in
    let T = g.T.Tariff.meaning c.args.timed.now.priced.tariff.now in
    let next : c.loop-stage.stage ≡ c.loop-stage.stage - 1 + 1 = omega arith in
    let rows = subst (λ (n : ℕ). FilledFrom K T (book c.args.timed.now.priced.sheet.now) c.in_ok-layout.layout n c.write_row.new.cells c.loop-stage.cells) next c.loop-stage.invariant.1 in
    filled_falls (laws_of g.met.T.Cost.Cost) T (g.T.Tariff.ranged c.args.timed.now.priced.tariff.now) (book c.args.timed.now.priced.sheet.now) (c.loop-stage.stage - 1 + 1) (omega arith) rows

pub loop-stage-preserved : goal.loop-stage-preserved
loop-stage-preserved g c =
    let K = g.T.Cost.Cost.kind in
    let T = g.T.Tariff.meaning c.args.timed.now.priced.tariff.now in
    let e = enough_if_made (few_cells T (book c.args.timed.now.priced.sheet.now) c.args.cells.now) c.in_ok-layout.layout (layout_of T (book c.args.timed.now.priced.sheet.now)) c.in_ok-layout.ensures.answer in
    let next : c.loop-stage.stage ≡ c.loop-stage.stage - 1 + 1 = omega arith in
    let rows = subst (λ (n : ℕ). FilledFrom K T (book c.args.timed.now.priced.sheet.now) c.in_ok-layout.layout n c.write_row.new.cells c.loop-stage.cells) next c.loop-stage.invariant.1 in
    let b = book c.args.timed.now.priced.sheet.now in
    let stages : c.in_ok-layout.layout.stages ≡ (book c.args.timed.now.priced.sheet.now).stages = ap (λ (l : Layout). l.stages) e.1 in
    let longest = longest_from T b c.loop-stage.stage c.loop-stage.longest c.greatest_time-longest.result c.loop-stage-test.true (omega arith) c.loop-stage.invariant.0 c.greatest_time-longest.ensures in (
      longest,
      filled_more (laws_of g.met.T.Cost.Cost) T (g.T.Tariff.ranged c.args.timed.now.priced.tariff.now) (book c.args.timed.now.priced.sheet.now) c.in_ok-layout.layout e.1 (c.loop-stage.stage - 1) (omega arith) rows _ longest c.fill_stage.ensures,
    )

pub returns : goal.returns
returns g c =
    let K = g.T.Cost.Cost.kind in
    let T = g.T.Tariff.meaning c.args.timed.now.priced.tariff.now in
    let e = enough_if_made (few_cells T (book c.args.timed.now.priced.sheet.now) c.args.cells.now) c.in_ok-layout.layout (layout_of T (book c.args.timed.now.priced.sheet.now)) c.in_ok-layout.ensures.answer in
    let first : c.loop-stage.stage ≡ 0 = omega arith in
    let inv = subst (λ (n : ℕ). FilledFrom K T (book c.args.timed.now.priced.sheet.now) c.in_ok-layout.layout n c.write_row.new.cells c.loop-stage.cells) first c.loop-stage.invariant.1 in
    let rows : FilledFrom K T (book c.args.timed.now.priced.sheet.now) c.in_ok-layout.layout 0 c.args.cells.now c.loop-stage.cells = record { rows = inv.rows; past = inv.past ∙ c.write_row.ensures.past } in
    record {
      answer = rw e.0 (ap Ok e.1);
      after = rw e.0 (filled_all (laws_of g.met.T.Cost.Cost) T (g.T.Tariff.ranged c.args.timed.now.priced.tariff.now) (book c.args.timed.now.priced.sheet.now) c.in_ok-layout.layout e.1 (omega (arith, c.in_ok-layout.ensures.room)) rows);
    }
