use Rattle.std.proofs.Common.{◌≡◌, ◌<◌, ◌≤◌, List, ◌++◌, length, drop, Ok, sym, ap, ◌∙◌, arith}
use Rattle.sheets.specs.Book.{book}
use Rattle.model.specs.declared.point.Point.{Point}
use Rattle.cells.specs.Layout.{layout_of}
use Rattle.model.specs.Front.{front}
use Rattle.model.specs.Question.{few_cells}
use Rattle.cells.proofs.Laws.{laws_of}
use Rattle.planner.proofs.FirstRow.{enough_from_filled, row_is_front, front_refused_8, points_kept_8, front_answered, points_written}
use Rattle.planner.proofs.Words.{front_tells}
use Rattle.planner.proofs.fronts.write_front.Goals as goal

pub returns-then-points-count : goal.returns-then-points-count
returns-then-points-count g c =
    let K = g.T.Cost.Cost.kind in
    let T = g.T.Tariff.meaning c.args.timed.now.priced.tariff.now in
    let b = book c.args.timed.now.priced.sheet.now in
    let cells = c.args.cells.now in
    let points = c.args.points.now in
    let done = enough_from_filled (few_cells T b cells) (layout_of T b) c.in_ok-layout.layout c.in_ok-layout.ensures.answer in
    let read = row_is_front (laws_of g.met.T.Cost.Cost) T (g.T.Tariff.ranged c.args.timed.now.priced.tariff.now) b cells c.fill.new.cells c.in_ok-layout.layout done.0 c.in_ok-layout.ensures.after done.1 in
    let counted : c.count_points-count.result ≡ length (front K T b) = c.count_points-count.ensures ∙ ap length read in
    let short : length points < length (front K T b) = omega (arith, counted, c.if-points-count.true) in
    record {
      answer = sym (front_refused_8 K T b cells points done.0 short);
      cells = c.in_ok-layout.ensures.after;
      points = sym (points_kept_8 K T b cells points done.0 short);
      words = tt;
    }

pub returns : goal.returns
returns g c =
    let K = g.T.Cost.Cost.kind in
    let T = g.T.Tariff.meaning c.args.timed.now.priced.tariff.now in
    let b = book c.args.timed.now.priced.sheet.now in
    let cells = c.args.cells.now in
    let points = c.args.points.now in
    let done = enough_from_filled (few_cells T b cells) (layout_of T b) c.in_ok-layout.layout c.in_ok-layout.ensures.answer in
    let read = row_is_front (laws_of g.met.T.Cost.Cost) T (g.T.Tariff.ranged c.args.timed.now.priced.tariff.now) b cells c.fill.new.cells c.in_ok-layout.layout done.0 c.in_ok-layout.ensures.after done.1 in
    let counted : c.count_points-count.result ≡ length (front K T b) = c.count_points-count.ensures ∙ ap length read in
    let fits : length (front K T b) ≤ length points = omega (arith, counted, c.if-points-count.false) in
    let written = c.write_points.ensures ∙ ap (λ (ps : List (Point g.row.T-Cost.Denot)). ps ++ drop (length ps) points) read in
    record {
      answer = ap Ok counted ∙ sym (front_answered K T b cells points done.0 fits);
      cells = c.in_ok-layout.ensures.after;
      points = written ∙ sym (points_written K T b cells points done.0 fits);
      words = front_tells (laws_of g.met.T.Cost.Cost) T (g.T.Tariff.ranged c.args.timed.now.priced.tariff.now) b c.count_points-count.result points c.write_points.new.points counted written;
    }
