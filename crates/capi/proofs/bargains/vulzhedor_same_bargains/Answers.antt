use Rattle.std.proofs.Common.{◌≡◌, ℕ, Bool, true, false, eqb, sym, refl, ap, ◌∙◌, subst, rules}
use mir.Val.{bool_byte}
use Rattle.costs.specs.Cents.{cents_kind}
use Rattle.model.specs.Bargain.{Verdict}
use Rattle.keyanswer.specs.Compare.{offered}
use Rattle.capi.proofs.bargains.vulzhedor_same_bargains.Goals as goal

-- a truth value is told again by its number
told_again : (equal : Bool) → eqb (bool_byte equal) 1 ≡ equal
told_again true = refl
told_again false = refl

pub returns-in-Ok : goal.returns-in-Ok
returns-in-Ok c =
    let told = ap (λ (number : ℕ). eqb number 1) c.from.ensures ∙ told_again c.in-Ok.same in
    record {
      status = search rules;
      verdict = search rules;
      input = search rules;
      value = search rules;
      judged = λ _ first second first_spelled second_spelled.
          subst (λ (equal : Bool). Verdict cents_kind (offered first) first.book (offered second) second.book equal)
          (sym told) (c.in-Ok.ensures.judged first second first_spelled second_spelled);
    }
