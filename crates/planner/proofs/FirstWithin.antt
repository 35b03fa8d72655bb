-- The first minute with a cost at most a limit
use Rattle.std.proofs.Common.{◌≡◌, ℕ, zero, suc, ◌+◌, ◌-◌, ◌<◌, ◌≤◌, true, Some, None, Option, refl, ap, ◌∙◌, subst, ap₂, arith}
use Rattle.std.proofs.lemmas.Bool.{cond-true}
use Rattle.costs.specs.Kind.{Kind}
use Rattle.model.specs.declared.point.Point.{Point}
use Rattle.model.specs.Scan.{point, or_here, first_below}

module _ {C : Type 0} (K : Kind C) (costs : ℕ → Option C) (limit : C) where
  -- once found, it stays the first
  pub first_stays : (n : ℕ) (p : Point C) (m : ℕ) → n ≤ m → first_below K costs limit n ≡ Some p → first_below K costs limit m ≡ Some p
  first_stays n p m h e = let same : n + (m - n) ≡ m = omega arith in subst (λ (k : ℕ). first_below K costs limit k ≡ Some p) same (go (m - n))
    where
      go : (d : ℕ) → first_below K costs limit (n + d) ≡ Some p
      go zero = let same : n + 0 ≡ n = omega arith in rw same e
      go (suc d) = let same : n + suc d ≡ suc (n + d) = omega arith in rw same (ap (or_here K limit (n + d) (costs (n + d))) (go d))

  pub first_here : (n : ℕ) (cost : C) (m : ℕ) → n < m → first_below K costs limit n ≡ None → costs n ≡ Some cost → K.at_most cost limit ≡ true → first_below K costs limit m ≡ Some (point n cost)
  first_here n cost m h none e low =
      first_stays (suc n) (point n cost) m (omega arith)
      (ap₂ (λ (o : Option C) (before : Option (Point C)). or_here K limit n o before) e none ∙ cond-true (K.at_most cost limit) _ _ low)

-- the first minute rests on the costs before the end
pub first_alike : {C : Type 0} (K : Kind C) (limit : C) (costs others : ℕ → Option C) (n : ℕ) → ((t : ℕ) → t < n → costs t ≡ others t) → first_below K costs limit n ≡ first_below K others limit n
first_alike K limit costs others zero same = refl
first_alike {C} K limit costs others (suc n) same = ap₂ (λ (o : Option C) (before : Option (Point C)). or_here K limit n o before) (same n (omega arith)) (first_alike K limit costs others n (λ t h. same t (omega arith)))
