use Rattle.std.proofs.Common.{◌≡◌, rules, tests, arith}
use Rattle.std.proofs.lemmas.Bool.Decides.{nat_tests}
use Rattle.std.proofs.lemmas.Iterator.{YieldsList-from_slice}
use Rattle.texts.proofs.Numbers.{number_behind, number_from_yields_List}
use Rattle.texts.proofs.number.read_number.Goals as goal

pub returns : goal.returns
returns c =
    let text = c.args.text.now in
    let number : c.try_fold.result ≡ number_behind 0 text = number_from_yields_List _ c.try_fold.result c.try_fold.ensures.ran (YieldsList-from_slice text cc) (λ value x w f q k. search (rules, tests)) in
    grind (arith, nat_tests)
