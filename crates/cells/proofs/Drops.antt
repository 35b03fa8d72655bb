-- A stage's cost lowers a row only where it drops
use Rattle.std.proofs.Common.{◌≡◌, ℕ, zero, suc, ◌-◌, ◌<◌, ◌≤◌, Bool, true, false, cond, ◌&&◌, leb, List, Some, None, Option, sym, refl, ap, ◌∙◌, ap₂, inl, inr, arith}
use Rattle.std.proofs.lemmas.Bool.{cases_Bool, and_parts, leb-true, le-leb}
use Rattle.costs.specs.Kind.{Kind, Laws}
use Rattle.tariffs.specs.Meaning.{Meaning, Ranged}
use Rattle.sheets.specs.declared.task.Task.{Task}
use Rattle.model.specs.Allowance.{joined, cheaper, cheapest_of, cost_within, cost_until, is_time}
use Rattle.model.specs.Cell.{IsLeast}
use Rattle.model.proofs.CostSteps.{cost_kept}
use Rattle.model.proofs.LeastCosts.{at_most_refl, join_mono, cheapest_of_least}
use Rattle.model.proofs.Loops.{cheapest_of_same}
use Rattle.cells.specs.Memory.{Falling, if_less, offer_before}

module _ {C : Type 0} {K : Kind C} (L : Laws K) where
  -- a cost is the least of itself alone
  own_least : (o : Option C) → IsLeast K (λ c. o ≡ Some c) o
  own_least None = λ c e. cc
  own_least (Some d) = (refl, λ c e. let same : d ≡ c = cc in rw same (at_most_refl L c))

  -- the cheapest of some costs is at most each of them
  cheapest_at_most : (costs : ℕ → Option C) (n a : ℕ) (x : C) → a < n → costs a ≡ Some x → (y : C) × (cheapest_of K costs n ≡ Some y) × (K.at_most y x ≡ true)
  cheapest_at_most costs n a x l e = go (cheapest_of K costs n) refl (cheapest_of_least L (λ b c. costs b ≡ Some c) costs (λ b. own_least (costs b)) n)
    where
      go : (o : Option C) → cheapest_of K costs n ≡ o → IsLeast K (λ c. (b : ℕ) × (b < n) × (costs b ≡ Some c)) o → (y : C) × (cheapest_of K costs n ≡ Some y) × (K.at_most y x ≡ true)
      go None f h = absurd (h x (a, l, e))
      go (Some y) f h = (y, f, h.1 x (a, l, e))

  module _ (T : Meaning C) (F : Ranged T) (tasks : List Task) where
    -- what the stage costs within one minute less, it costs within some time quoted before
    last_time : (a : ℕ) (b : C) → cost_until K T tasks a ≡ Some b → (u : ℕ) × (u < a) × (is_time T tasks u ≡ true) × (cost_within K T tasks u ≡ Some b)
    last_time zero b e = cc
    last_time (suc a) b e = elim (cases_Bool (is_time T tasks a)) [
      | inl timed ↦ (a, omega arith, timed, e)
      | inr untimed ↦ let before = last_time a b (cost_kept K T F tasks a untimed ∙ e) in (before.0, omega (arith, before.1), before.2, before.3)
    ]

    module _ (rest : ℕ → Option C) (width t a : ℕ) (falling : Falling K width rest) (short : t < width) where
      abbrev offers : ℕ → Option C
      offers = offer_before K T tasks rest t

      -- an offer no less than one before it is not the cheapest
      offer_not_cheapest : (u : ℕ) (b c r : C) → u < a → a ≤ t → is_time T tasks u ≡ true → cost_within K T tasks u ≡ Some b → K.at_most b c ≡ true → rest (t - a) ≡ Some r
          → cheaper K (cheapest_of K offers a) (Some (K.join c r)) ≡ cheapest_of K offers a
      offer_not_cheapest u b c r l m timed within less here =
          let fallen = falling (t - a) (t - u) r (omega arith) (omega arith) here in
          let offered : offers u ≡ Some (K.join b fallen.0) =
          ap (λ (v : Bool). cond (v && is_time T tasks u) (joined K (cost_within K T tasks u) (rest (t - u))) None) (le-leb u t (omega arith))
          ∙ ap (λ (v : Bool). cond v (joined K (cost_within K T tasks u) (rest (t - u))) None) timed
          ∙ ap₂ (λ (x y : Option C). joined K x y) within fallen.1 in
          let least = cheapest_at_most offers a u (K.join b fallen.0) l offered in
          let most = L.transitive least.0 (K.join b fallen.0) (K.join c r) least.2 (join_mono L b c fallen.0 r less fallen.2) in
          ap (λ (x : Option C). cheaper K x (Some (K.join c r))) least.1
          ∙ ap (λ (v : Bool). cond v (Some least.0) (Some (K.join c r))) most
          ∙ sym least.1

      -- where the stage costs no less than within one minute less, its offer leaves the cheapest as it is
      pub no_less : if_less K (cost_until K T tasks a) (cost_within K T tasks a) ≡ None → cheapest_of K offers (suc a) ≡ cheapest_of K offers a
      no_less none = by_cost (cost_until K T tasks a) (cost_within K T tasks a) refl refl none
        where
          nothing : offers a ≡ None → cheapest_of K offers (suc a) ≡ cheapest_of K offers a
          nothing e = cheapest_of_same K T offers a e

          either : (v : Bool) → ◌≡◌ {A = Option C} (cond v None None) None
          either true = refl
          either false = refl

          by_rest : (b c : C) (o : Option C) → cost_until K T tasks a ≡ Some b → cost_within K T tasks a ≡ Some c → K.at_most b c ≡ true → rest (t - a) ≡ o → (v : Bool) → (leb a t && is_time T tasks a) ≡ v
              → cheapest_of K offers (suc a) ≡ cheapest_of K offers a
          by_rest b c o until within less here false h = nothing (ap (λ (v : Bool). cond v (joined K (cost_within K T tasks a) (rest (t - a))) None) h)
          by_rest b c None until within less here true h = nothing (ap₂ (λ (x y : Option C). cond (leb a t && is_time T tasks a) (joined K x y) None) within here ∙ either (leb a t && is_time T tasks a))
          by_rest b c (Some r) until within less here true h =
              let before = last_time a b until in
              let offered : offers a ≡ Some (K.join c r) = ap (λ (v : Bool). cond v (joined K (cost_within K T tasks a) (rest (t - a))) None) h ∙ ap₂ (λ (x y : Option C). joined K x y) within here in
              ap (λ (o : Option C). cheaper K (cheapest_of K offers a) o) offered
              ∙ offer_not_cheapest before.0 b c r before.1 (leb-true a t (and_parts (leb a t) (is_time T tasks a) h).0) before.2 before.3 less here

          by_cost : (before now : Option C) → cost_until K T tasks a ≡ before → cost_within K T tasks a ≡ now → if_less K before now ≡ None → cheapest_of K offers (suc a) ≡ cheapest_of K offers a
          by_cost before None until within e = nothing (ap (λ (x : Option C). cond (leb a t && is_time T tasks a) (joined K x (rest (t - a))) None) within ∙ either (leb a t && is_time T tasks a))
          by_cost None (Some c) until within e = cc
          by_cost (Some b) (Some c) until within e = elim (cases_Bool (K.at_most b c)) [
            | inl less ↦ by_rest b c (rest (t - a)) until within less refl (leb a t && is_time T tasks a) refl
            | inr more ↦ let some : Some c ≡ None = sym (ap (λ (v : Bool). cond v None (Some c)) more) ∙ e in cc
          ]

module _ {C : Type 0} (K : Kind C) where
  pub falling_like : (width : ℕ) (costs other : ℕ → Option C) → ((u : ℕ) → u < width → costs u ≡ other u) → Falling K width costs → Falling K width other
  falling_like width costs other same falling t u c l m e =
      let fallen = falling t u c l m (same t (omega arith) ∙ e) in
      (fallen.0, sym (same u m) ∙ fallen.1, fallen.2)

  -- what is less than the cost before is that cost
  pub less_is : (before cost : Option C) (less : C) → if_less K before cost ≡ Some less → cost ≡ Some less
  less_is None cost less e = e
  less_is (Some b) None less e = cc
  less_is (Some b) (Some c) less e = elim (cases_Bool (K.at_most b c)) [
    | inl t ↦ let none : None ≡ Some less = sym (ap (λ (v : Bool). cond v None (Some c)) t) ∙ e in cc
    | inr t ↦ sym (ap (λ (v : Bool). cond v None (Some c)) t) ∙ e
  ]
