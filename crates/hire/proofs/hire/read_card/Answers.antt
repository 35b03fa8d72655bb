use Rattle.std.proofs.Common.{◌≡◌, ◌+◌, List, get_or, Ok, sym, ◌∙◌, subst, arith, rules}
use Rattle.std.specs.Result.{MatchResult}
use Rattle.std.proofs.lemmas.Result.{MatchResult-weaker, err_from_is_err_and}
use Rattle.tariffs.specs.declared.line.Line.{Line}
use Rattle.tariffs.specs.Card.{lines_of}
use Rattle.tariffs.proofs.Cards.{obeyed_from_ok, lines_added}
use Rattle.hire.specs.declared.terms.Terms.{Terms}
use Rattle.hire.specs.Refusal.{hire_told}
use Rattle.hire.specs.Hire.{told_at}
use Rattle.hire.proofs.Reading.{Reading, reading_told, reading_more, reading_all}
use Rattle.hire.proofs.hire.read_card.Goals as goal

abbrev no_terms : Terms
no_terms = record { speed = 0; rate = 0 }

pub returns-in_err-map_err : goal.returns-in_err-map_err
returns-in_err-map_err c =
    let i = c.loop-machine.machine-counter in
    let told = c.in_err-map_err.field-0.0 in
    let which : MatchResult c.add.result (λ machine. ⊥) (λ refusal. hire_told told ≡ told_at refusal i (get_or c.args.terms.now i no_terms)) =
    MatchResult-weaker c.add.result c.map_err.ensures.cases (λ machine e. grind (arith)) (λ refusal h. search rules) in
    let exit = err_from_is_err_and c.from_residual.result c.from_residual.ensures.1 in
    rw (exit.1, exit.2) (reading_told c.args.terms.now (lines_of c.loop-machine.card) i no_terms c.loop-machine.invariant c.loop-machine-test.true c.add.result told c.add.ensures.answer which)

pub loop-machine-preserved : goal.loop-machine-preserved
loop-machine-preserved c =
    let terms = c.args.terms.now in
    let lines = lines_of c.loop-machine.card in
    let offer = get_or terms c.loop-machine.machine-counter no_terms in
    let ok : c.add.result ≡ Ok c.in_ok-map_err.field-0 = grind (arith) in
    let good = obeyed_from_ok lines offer.speed offer.rate c.in_ok-map_err.field-0 (grind (arith)) in
    let more = reading_more terms lines c.loop-machine.machine-counter no_terms c.loop-machine.invariant c.loop-machine-test.true good.0 good.1 in
    subst (λ (lines : List Line). Reading terms lines (c.loop-machine.machine-counter + 1))
    (sym (c.add.ensures.after ∙ lines_added lines offer.speed offer.rate good.0 good.1))
    more

pub returns : goal.returns
returns c = reading_all _ _ _ no_terms c.loop-machine.invariant c.loop-machine-test.false
