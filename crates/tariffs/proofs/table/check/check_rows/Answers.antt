use Rattle.std.proofs.Common.{◌≡◌, length, None, Ok, Err, sym, ap, ◌∙◌, rules, tests}
use Rattle.std.proofs.lemmas.Iterator.{YieldsList-from_slice}
use Rattle.std.proofs.lemmas.Iterator.Search.{position_from_yields_List}
use Rattle.refusals.specs.Answer.{carrying}
use Rattle.tariffs.specs.First.{position}
use Rattle.tariffs.specs.Rows.{bad_row, rows_verdict}
use Rattle.tariffs.proofs.Firsts.{position_counted}
use Rattle.tariffs.proofs.table.check.check_rows.Goals as goal

pub returns-in-Some-clause-answer : goal.returns-in-Some-clause-answer
returns-in-Some-clause-answer c =
    let rows = c.args.rows.now in
    let sought : c.position.result ≡ position bad_row rows = position_from_yields_List bad_row _ _ c.position.result c.position.ensures.ran (YieldsList-from_slice rows c.iter.ensures.rest) (λ x b q k. search (rules, tests)) ∙ sym (position_counted bad_row rows) in
    ap (rows_verdict (length rows)) (sym c.in-Some.is ∙ sought)

pub returns-in-None-clause-answer : goal.returns-in-None-clause-answer
returns-in-None-clause-answer c =
    let rows = c.args.rows.now in
    let sought : c.position.result ≡ position bad_row rows = position_from_yields_List bad_row _ _ c.position.result c.position.ensures.ran (YieldsList-from_slice rows c.iter.ensures.rest) (λ x b q k. search (rules, tests)) ∙ sym (position_counted bad_row rows) in
    let many : Err (carrying 6 256) ≡ rows_verdict (length rows) None = search (rules, tests) in
    many ∙ ap (rows_verdict (length rows)) (sym c.in-None.is ∙ sought)

pub returns-in-None-2-clause-answer : goal.returns-in-None-2-clause-answer
returns-in-None-2-clause-answer c =
    let rows = c.args.rows.now in
    let sought : c.position.result ≡ position bad_row rows = position_from_yields_List bad_row _ _ c.position.result c.position.ensures.ran (YieldsList-from_slice rows c.iter.ensures.rest) (λ x b q k. search (rules, tests)) ∙ sym (position_counted bad_row rows) in
    let few : Ok (tt {0}) ≡ rows_verdict (length rows) None = search (rules, tests) in
    few ∙ ap (rows_verdict (length rows)) (sym c.in-None.is ∙ sought)
