use Rattle.std.proofs.Common.{◌≡◌, false, List, [], ap, ◌∙◌, rules, tests}
use Rattle.std.proofs.lemmas.Bool.{or_parts}
use Rattle.sheets.specs.Book.{book}
use Rattle.model.specs.declared.cell.Cell.{Cell}
use Rattle.model.specs.Question.{few_cells, filled, front_answer, front_points}
use Rattle.model.proofs.BetterBargains.{better_bargains_are_shown}
use Rattle.cells.proofs.Laws.{laws_of}
use Rattle.planner.specs.Bargain.{few_for_either}
use Rattle.planner.proofs.FirstRow.{cells_filled}
use Rattle.planner.proofs.Compared.{answered_both}
use Rattle.planner.proofs.better.compare.Goals as goal

pub returns-clause-answer : goal.returns-clause-answer
returns-clause-answer g c =
    let K = g.T.Cost.Cost.kind in
    let T = g.T.Tariff.meaning c.args.first.now.priced.tariff.now in
    let U = g.U.Tariff.meaning c.args.second.now.priced.tariff.now in
    let b = book c.args.first.now.priced.sheet.now in
    let o = book c.args.second.now.priced.sheet.now in
    let cells = c.args.cells.now in
    let second_points = c.args.second_points.now in
    let enough : few_for_either K T b U o cells c.args.first_points.now second_points ≡ false = search (rules, tests) in
    let left : c.write_front.new.cells ≡ filled K T b cells = c.in_ok-first_count.ensures.cells ∙ cells_filled K T b cells [] (or_parts (few_cells T b cells) (few_cells U o cells) enough).0 in
    answered_both K T b U o cells c.args.first_points.now second_points enough c.in_ok-first_count.first_count c.write_front.new.points c.in_ok-first_count.ensures.answer c.in_ok-first_count.ensures.points
    c.in_ok-second_count.second_count c.write_front-2.new.points
    (c.in_ok-second_count.ensures.answer ∙ ap (λ (cs : List (Cell g.row.T-Cost.Denot)). front_answer K U o cs second_points) left)
    (c.in_ok-second_count.ensures.points ∙ ap (λ (cs : List (Cell g.row.T-Cost.Denot)). front_points K U o cs second_points) left)
    c.first_difference.result c.first_difference.ensures
    (better_bargains_are_shown (laws_of g.met.T.Cost.Cost) T U (g.T.Tariff.ranged c.args.first.now.priced.tariff.now) (g.U.Tariff.ranged c.args.second.now.priced.tariff.now) b o).where_fronts_differ
