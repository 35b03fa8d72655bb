-- What the numbers of a better bargain tell
use Rattle.std.proofs.Common.{◌≡◌, ℕ, List, Some, None, Ok, Option, sym, ◌∙◌, subst, arith}
use Rattle.costs.specs.Cents.{cents_kind}
use Rattle.costs.specs.Same.{same_cents}
use Rattle.costs.specs.declared.cents.Cents.{Cents}
use Rattle.model.specs.declared.better.Better.{Better}
use Rattle.model.specs.declared.better.Better.TheVariants.{First, Second}
use Rattle.model.specs.declared.point.Point.{Point}
use Rattle.model.specs.Better.{IsBetter}
use Rattle.planner.specs.Better.{BetterTells}
use Rattle.keyinput.specs.Batch.{Offer}
use Rattle.keyanswer.specs.Better.{BatchesTell}
use Rattle.keyanswer.specs.Compare.{offered}
use Rattle.capi.specs.Better.{which_better, length_told, cost_told, NumbersTell, RightlyTold}

-- pairs of the same numbers are one
one_pair : (p q : Point Cents) → q.length ≡ p.length → q.cost.value ≡ p.cost.value → p ≡ q
one_pair p q l c = λ i. record { length = sym l i; cost = same_cents p.cost q.cost (sym c) i }

module _ (first second : Offer) where
  numbers_tell : (verdict : Option (Better Cents)) (better length cost length_was cost_was : ℕ)
      → better ≡ which_better verdict → length ≡ length_told verdict length_was → cost ≡ cost_told verdict cost_was
      → BetterTells cents_kind (offered first) first.book (offered second) second.book (Ok verdict) → NumbersTell first second better length cost
  numbers_tell None better length cost length_was cost_was b l c tells = record {
    neither = λ e. tells;
    by_first = λ e p m n. absurd (omega arith);
    by_second = λ e p m n. absurd (omega arith);
  }
  numbers_tell (Some (First p)) better length cost length_was cost_was b l c tells = record {
    neither = λ e. absurd (omega arith);
    by_first = λ e q m n.
        subst (IsBetter cents_kind (offered first) first.book (offered second) second.book) (one_pair p q (m ∙ l) (n ∙ c)) tells;
    by_second = λ e q m n. absurd (omega arith);
  }
  numbers_tell (Some (Second p)) better length cost length_was cost_was b l c tells = record {
    neither = λ e. absurd (omega arith);
    by_first = λ e q m n. absurd (omega arith);
    by_second = λ e q m n.
        subst (IsBetter cents_kind (offered second) second.book (offered first) first.book) (one_pair p q (m ∙ l) (n ∙ c)) tells;
  }

pub rightly_told : (first_input second_input : List ℕ) (verdict : Option (Better Cents)) (better length cost length_was cost_was : ℕ)
    → better ≡ which_better verdict → length ≡ length_told verdict length_was → cost ≡ cost_told verdict cost_was
    → BatchesTell first_input second_input (Ok verdict) → RightlyTold first_input second_input 0 better length cost
rightly_told first_input second_input verdict better length cost length_was cost_was b l c tells =
    λ _ first second read also_read. numbers_tell first second verdict better length cost length_was cost_was b l c (tells first second read also_read)
