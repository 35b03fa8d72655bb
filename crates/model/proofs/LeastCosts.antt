-- Least costs, stage by stage
use Rattle.std.proofs.Common.{◌≡◌, ℕ, zero, suc, ◌+◌, ◌-◌, ◌<◌, ◌≤◌, max, Bool, true, false, cond, ◌&&◌, leb, ◌⊎◌, List, [], ◌∷◌, map, Some, None, filter, Option, sym, refl, ap, ◌∙◌, subst, inl, inr, zero-le, le_trans, le_refl, arith}
use Rattle.std.specs.Option.{option_map}
use Rattle.std.proofs.lemmas.Bool.{both_ways, leb-true, le-leb, leb-false, cases_lt, and_parts, and_from}
use Rattle.costs.specs.Kind.{Kind, Laws}
use Rattle.tariffs.specs.Meaning.{Meaning, Ranged}
use Rattle.tariffs.specs.declared.quote.Quote.{Quote}
use Rattle.sheets.specs.declared.task.Task.{Task}
use Rattle.model.specs.declared.point.Point.{Point}
use Rattle.model.specs.declared.choice.Choice.{Choice}
use Rattle.model.specs.Lists.{In, Paired}
use Rattle.model.specs.Assignment.{quote_of, Quoted, IsAssignment, stage_time, stage_cost, length_of, cost_of, charge_of, pair_of, pairs}
use Rattle.model.specs.Allowance.{joined, cheaper, cheapest_of, cheaper_choice, choice_within, cheapest_below, cost_within, greatest_time, is_time}
use Rattle.model.specs.Cell.{IsLeast, least_cost, CostWithin, offer, span, LeastCostsShareOutMinutes}
use Rattle.model.proofs.Lists.{in_map, of_map, in_kept_by, of_kept_by}
use Rattle.model.proofs.Leasts.{cost_order, Least, least_is}
use Rattle.model.proofs.Assignments.{below_count, in_pairs, of_pairs}
use Rattle.model.proofs.Spans.{stage_time_at_most, length_span, stage_time_is_time}

module _ {C : Type 0} {K : Kind C} (L : Laws K) where
  pub at_most_refl : (a : C) → K.at_most a a ≡ true
  at_most_refl a = elim (L.total a a) [ inl t ↦ t | inr t ↦ t ]

  pub join_mono : (a b c d : C) → K.at_most a b ≡ true → K.at_most c d ≡ true → K.at_most (K.join a c) (K.join b d) ≡ true
  join_mono a b c d h k = L.transitive _ _ _ (L.monotone a b c h) (rw (L.commutative b c, L.commutative b d) (L.monotone c d b k))

  -- a set of costs may be said in another way
  pub like : (S R : C → Type 0) → ((c : C) → S c → R c) → ((c : C) → R c → S c) → (o : Option C) → IsLeast K S o → IsLeast K R o
  like S R f g None h = λ c r. h c (g c r)
  like S R f g (Some m) h = (f m h.0, λ c r. h.1 c (g c r))

  -- the least is one
  pub is_least_unique : (S : C → Type 0) (o u : Option C) → IsLeast K S o → IsLeast K S u → o ≡ u
  is_least_unique S None None h k = refl
  is_least_unique S None (Some n) h k = absurd (h n k.0)
  is_least_unique S (Some m) None h k = absurd (k m h.0)
  is_least_unique S (Some m) (Some n) h k = ap Some (L.antisymmetric m n (h.1 n k.0) (k.1 m h.0))

  -- of two sets
  pub either_least : (S R : C → Type 0) (o u : Option C) → IsLeast K S o → IsLeast K R u → IsLeast K (λ c. S c ⊎ R c) (cheaper K o u)
  either_least S R None None h k = λ c e. elim e [ inl s ↦ h c s | inr r ↦ k c r ]
  either_least S R None (Some n) h k = (inr k.0, λ c e. elim e [ inl s ↦ absurd (h c s) | inr r ↦ k.1 c r ])
  either_least S R (Some m) None h k = (inl h.0, λ c e. elim e [ inl s ↦ h.1 c s | inr r ↦ absurd (k c r) ])
  either_least S R (Some m) (Some n) h k = go (K.at_most m n) refl
    where
      go : (b : Bool) → K.at_most m n ≡ b → IsLeast K (λ c. S c ⊎ R c) (cond b (Some m) (Some n))
      go true t = (inl h.0, λ c e. elim e [ inl s ↦ h.1 c s | inr r ↦ L.transitive _ _ _ t (k.1 c r) ])
      go false t = (inr k.0, λ c e. elim e [ inl s ↦ L.transitive _ _ _ (elim (L.total m n) [ inl y ↦ absurd (both_ways _ t y) | inr y ↦ y ]) (h.1 c s) | inr r ↦ k.1 c r ])

  -- joins of one from each
  pub Joins : (S R : C → Type 0) → C → Type 0
  Joins S R c = (x : C) × (y : C) × S x × R y × (c ≡ K.join x y)

  pub joins_least : (S R : C → Type 0) (o u : Option C) → IsLeast K S o → IsLeast K R u → IsLeast K (Joins S R) (joined K o u)
  unfolding Joins
  joins_least S R None u h k = λ c j. h j.0 j.2
  joins_least S R (Some m) None h k = λ c j. k j.1 j.3
  joins_least S R (Some m) (Some n) h k = ((m, n, h.0, k.0, refl), λ c j. rw j.4 (join_mono m j.0 n j.1 (h.1 j.0 j.2) (k.1 j.1 j.3)))

  -- of the sets below n
  pub cheapest_of_least : (S : ℕ → C → Type 0) (f : ℕ → Option C) → ((a : ℕ) → IsLeast K (S a) (f a)) → (n : ℕ) → IsLeast K (λ c. (a : ℕ) × (a < n) × S a c) (cheapest_of K f n)
  cheapest_of_least S f h zero = λ c r. omega (arith, r.1)
  cheapest_of_least S f h (suc n) = like (λ c. ((a : ℕ) × (a < n) × S a c) ⊎ S n c) (λ c. (a : ℕ) × (a < suc n) × S a c) (λ c e. elim e [ inl s ↦ (s.0, omega (arith, s.1), s.2) | inr s ↦ (n, le_refl (suc n), s) ])
      (λ c r. elim (cases_lt r.0 n) [ inl l ↦ inl (r.0, l, r.2) | inr l ↦ let e : r.0 ≡ n = omega (arith, r.1) in inr (subst (λ (a : ℕ). S a c) e r.2) ])
      _ (either_least (λ c. (a : ℕ) × (a < n) × S a c) (S n) _ _ (cheapest_of_least S f h n) (h n))

  module _ (T : Meaning C) where
    abbrev price_of : Option (Choice C) → Option C
    price_of o = option_map (λ (choice : Choice C). choice.cost) o

    -- a quote within the allowance has this cost
    Priced : ℕ → Option (Quote C) → C → Type 0
    Priced a o c = (q : Quote C) × (o ≡ Some q) × (q.minutes ≤ a) × (c ≡ q.cost)

    within_least : (a m : ℕ) (o : Option (Quote C)) → IsLeast K (Priced a o) (price_of (choice_within a m o))
    unfolding Priced
    within_least a m None = λ c p. let e = p.1 in cc
    within_least a m (Some q) = go (leb q.minutes a) refl
      where
        same : (r : Quote C) → Some q ≡ Some r → q ≡ r
        same r e = cc

        go : (b : Bool) → leb q.minutes a ≡ b → IsLeast K (Priced a (Some q)) (price_of (cond b (Some (record { machine = m; cost = q.cost })) None))
        go true t = ((q, refl, leb-true _ _ t, refl), λ c p. let e : c ≡ q.cost = p.3 ∙ ap (λ (r : Quote C). r.cost) (sym (same p.0 p.1)) in rw e (at_most_refl q.cost))
        go false t = λ c p. let e : q.minutes ≡ p.0.minutes = ap (λ (r : Quote C). r.minutes) (same p.0 p.1) in omega (arith, leb-false _ _ t, p.2)

    price_cheaper : (o u : Option (Choice C)) → price_of (cheaper_choice K o u) ≡ cheaper K (price_of o) (price_of u)
    price_cheaper None u = refl
    price_cheaper (Some x) None = refl
    price_cheaper (Some x) (Some y) = elim (K.at_most x.cost y.cost) as (λ b. price_of (cond b (Some x) (Some y)) ≡ cond b (Some x.cost) (Some y.cost)) [ true ↦ refl | false ↦ refl ]

    QuoteCost : ℕ → Task → ℕ → C → Type 0
    QuoteCost n w a c = (m : ℕ) × (m < n) × (q : Quote C) × (quote_of T w m ≡ Some q) × (q.minutes ≤ a) × (c ≡ q.cost)

    below_least : (w : Task) (a n : ℕ) → IsLeast K (QuoteCost n w a) (price_of (cheapest_below K T w a n))
    unfolding Priced QuoteCost
    below_least w a zero = λ c r. omega (arith, r.1)
    below_least w a (suc n) = subst (IsLeast K (QuoteCost (suc n) w a)) (sym (price_cheaper (cheapest_below K T w a n) (choice_within a n (quote_of T w n))))
        (like (λ c. QuoteCost n w a c ⊎ Priced a (quote_of T w n) c) (QuoteCost (suc n) w a)
        (λ c e. elim e [ inl r ↦ (r.0, omega (arith, r.1), r.2, r.3, r.4, r.5) | inr p ↦ (n, le_refl (suc n), p.0, p.1, p.2, p.3) ])
        (λ c r. elim (cases_lt r.0 n) [
          | inl l ↦ inl (r.0, l, r.2, r.3, r.4, r.5)
          | inr g ↦
              let e : r.0 ≡ n = omega (arith, r.1) in inr (r.2, subst (λ (m : ℕ). quote_of T w m ≡ Some r.2) e r.3, r.4, r.5)
        ])
        _ (either_least (QuoteCost n w a) (Priced a (quote_of T w n)) _ _ (below_least w a n) (within_least a n (quote_of T w n))))

    -- the costs of a stage's assignments within a
    abbrev pub StageCost : List Task → ℕ → C → Type 0
    StageCost tasks a c = (machines : List ℕ) × Paired (Quoted T) tasks machines × (stage_time T tasks machines ≤ a) × (c ≡ stage_cost K T tasks machines)

    module _ (F : Ranged T) where
      pub cost_within_least : (tasks : List Task) (a : ℕ) → IsLeast K (StageCost tasks a) (cost_within K T tasks a)
      unfolding Joins QuoteCost
      cost_within_least [] a = (([], tt, zero-le, refl), λ c r. rw r.3 (at_most_refl K.neutral))
      cost_within_least (w ∷ ws) a = like _ _ to from _ (joins_least (QuoteCost T.count w a) (StageCost ws a) _ _ (below_least w a T.count) (cost_within_least ws a))
        where
          to : (c : C) → Joins (QuoteCost T.count w a) (StageCost ws a) c → StageCost (w ∷ ws) a c
          to c j = let x = j.2 in let y = j.3 in
              (x.0 ∷ y.0, ((x.2, x.3), y.1), rw x.3 (omega (arith, x.4, y.2)), cc (j.4, x.5, y.3, ap (charge_of K) x.3))

          from : (c : C) → StageCost (w ∷ ws) a c → Joins (QuoteCost T.count w a) (StageCost ws a) c
          from c r = go r.0 r.1 r.2 r.3
            where
              go : (ms : List ℕ) → Paired (Quoted T) (w ∷ ws) ms → stage_time T (w ∷ ws) ms ≤ a → c ≡ stage_cost K T (w ∷ ws) ms → Joins (QuoteCost T.count w a) (StageCost ws a) c
              go [] p l e = absurd p
              go (m ∷ ms) p l e =
                  let q : Quote C = p.0.0 in
                  let s : quote_of T w m ≡ Some q = p.0.1 in
                  let l' : max q.minutes (stage_time T ws ms) ≤ a = rw s at l in
                  (q.cost, stage_cost K T ws ms, (m, below_count T F w m q s, q, s, omega arith, refl), (ms, p.1, omega arith, refl), e ∙ ap (λ (o : Option (Quote C)). K.join (charge_of K o) (stage_cost K T ws ms)) s)

      -- the least cost in words
      pub least_cost_least : (stages : List (List Task)) (t : ℕ) → IsLeast K (CostWithin K T stages t) (least_cost K T stages t)
      least_cost_least stages t = go (least_cost K T stages t) (least_is (cost_order L) (map price (filter short (pairs K T stages))))
        where
          price : Point C → C
          price p = p.cost

          short : Point C → Bool
          short p = leb p.length t

          to : (c : C) → In c (map price (filter short (pairs K T stages))) → CostWithin K T stages t c
          to c i =
              let r = of_map price (filter short (pairs K T stages)) i in
              let k = of_kept_by short (pairs K T stages) r.1 in
              let p = of_pairs K T stages r.0 k.0 in
              (p.0, p.1, subst (λ (x : Point C). x.length ≤ t) p.2 (leb-true _ _ k.1), r.2 ∙ ap price p.2)

          from : (c : C) → CostWithin K T stages t c → In c (map price (filter short (pairs K T stages)))
          from c r = subst (λ (x : C). In x (map price (filter short (pairs K T stages)))) (sym r.3)
              (in_map price (in_kept_by short (in_pairs K T stages F (pair_of K T stages r.0) (r.0, r.1, refl)) (le-leb _ _ r.2)))

          go : (o : Option C) → Least (cost_order L) (map price (filter short (pairs K T stages))) o → IsLeast K (CostWithin K T stages t) o
          go None h = λ c r. h c (from c r)
          go (Some m) h = (to m h.0, λ c r. h.1 c (from c r))

      -- one from the stage and one from those behind it
      first_and_rest : (tasks : List Task) (stages : List (List Task)) (t : ℕ) (c : C) → CostWithin K T (tasks ∷ stages) t c →
          (machines : List ℕ) × (stage_time T tasks machines ≤ t) × Paired (Quoted T) tasks machines × Joins (StageCost tasks (stage_time T tasks machines)) (CostWithin K T stages (t - stage_time T tasks machines)) c
      unfolding Joins
      first_and_rest tasks stages t c r = go r.0 r.1 r.2 r.3
        where
          go : (plan : List (List ℕ)) → IsAssignment T (tasks ∷ stages) plan → length_of T (tasks ∷ stages) plan ≤ t → c ≡ cost_of K T (tasks ∷ stages) plan →
              (machines : List ℕ) × (stage_time T tasks machines ≤ t) × Paired (Quoted T) tasks machines × Joins (StageCost tasks (stage_time T tasks machines)) (CostWithin K T stages (t - stage_time T tasks machines)) c
          go [] p l e = absurd p
          go (ms ∷ a) p l e = (ms, omega arith, p.0, (stage_cost K T tasks ms, cost_of K T stages a, (ms, p.0, le_refl _, refl), (a, p.1, omega arith, refl), e))

      together : (tasks : List Task) (stages : List (List Task)) (t a : ℕ) (c : C) → a ≤ t → Joins (StageCost tasks a) (CostWithin K T stages (t - a)) c → CostWithin K T (tasks ∷ stages) t c
      unfolding Joins
      together tasks stages t a c l j = let x = j.2 in let y = j.3 in
          (x.0 ∷ y.0, (x.1, y.1), omega (arith, x.2, y.2), cc (j.4, x.3, y.3))

      pub by_allowances : (tasks : List Task) (stages : List (List Task)) (t : ℕ) → least_cost K T (tasks ∷ stages) t ≡ cheapest_of K (λ a. joined K (cost_within K T tasks a) (least_cost K T stages (t - a))) (t + 1)
      by_allowances tasks stages t = is_least_unique (CostWithin K T (tasks ∷ stages) t) _ _ (least_cost_least (tasks ∷ stages) t)
          (like _ _ (λ c r. together tasks stages t r.0 c (omega (arith, r.1)) r.2)
          (λ c r. let f = first_and_rest tasks stages t c r in (stage_time T tasks f.0, omega (arith, f.1), f.3)) _
          (cheapest_of_least (λ a. Joins (StageCost tasks a) (CostWithin K T stages (t - a))) _ (λ a. joins_least (StageCost tasks a) (CostWithin K T stages (t - a)) _ _ (cost_within_least tasks a) (least_cost_least stages (t - a))) (t + 1)))

      pub none_left : (t : ℕ) → least_cost K T [] t ≡ Some K.neutral
      none_left t = rw (le-leb 0 t zero-le) refl

      pub by_times : (tasks : List Task) (stages : List (List Task)) (t n : ℕ) → greatest_time T tasks < n → least_cost K T (tasks ∷ stages) t ≡ cheapest_of K (offer K T tasks stages t) n
      by_times tasks stages t n l = is_least_unique (CostWithin K T (tasks ∷ stages) t) _ _ (least_cost_least (tasks ∷ stages) t)
          (like (λ c. (a : ℕ) × (a < n) × Offered a c) (CostWithin K T (tasks ∷ stages) t)
          (λ c r. together tasks stages t r.0 c r.2.0 r.2.2)
          (λ c r. let f = first_and_rest tasks stages t c r in (stage_time T tasks f.0, omega (arith, stage_time_at_most T F tasks f.0), (f.1, stage_time_is_time T F tasks f.0 f.2, f.3))) _
          (cheapest_of_least Offered (offer K T tasks stages t) offer_least n))
        where
          Offered : ℕ → C → Type 0
          Offered a c = (a ≤ t) × (is_time T tasks a ≡ true) × Joins (StageCost tasks a) (CostWithin K T stages (t - a)) c

          offer_least : (a : ℕ) → IsLeast K (Offered a) (offer K T tasks stages t a)
          offer_least a = go (leb a t && is_time T tasks a) refl
            where
              joins : IsLeast K (Joins (StageCost tasks a) (CostWithin K T stages (t - a))) (joined K (cost_within K T tasks a) (least_cost K T stages (t - a)))
              joins = joins_least (StageCost tasks a) (CostWithin K T stages (t - a)) _ _ (cost_within_least tasks a) (least_cost_least stages (t - a))

              go : (b : Bool) → (leb a t && is_time T tasks a) ≡ b → IsLeast K (Offered a) (cond b (joined K (cost_within K T tasks a) (least_cost K T stages (t - a))) None)
              go true e = let r = and_parts (leb a t) _ e in like _ (Offered a) (λ c j. (leb-true _ _ r.0, r.1, j)) (λ c o. o.2) _ joins
              go false e = λ c o. both_ways _ e (and_from _ _ (le-leb _ _ o.0) o.1)

      -- past the span nothing changes
      pub beyond : (stages : List (List Task)) (t : ℕ) → span T stages ≤ t → least_cost K T stages t ≡ least_cost K T stages (span T stages)
      beyond stages t l = is_least_unique (CostWithin K T stages (span T stages)) _ _
          (like (CostWithin K T stages t) (CostWithin K T stages (span T stages)) (λ c r. (r.0, r.1, length_span T F stages r.0, r.3)) (λ c r. (r.0, r.1, le_trans r.2 l, r.3)) _ (least_cost_least stages t))
          (least_cost_least stages (span T stages))

      -- an assignment's cost is reached
      pub reached_by : (stages : List (List Task)) (t : ℕ) (c : C) → CostWithin K T stages t c → (d : C) × (least_cost K T stages t ≡ Some d) × (K.at_most d c ≡ true)
      reached_by stages t c r = go (least_cost K T stages t) refl (least_cost_least stages t)
        where
          go : (o : Option C) → least_cost K T stages t ≡ o → IsLeast K (CostWithin K T stages t) o → (d : C) × (least_cost K T stages t ≡ Some d) × (K.at_most d c ≡ true)
          go None e h = absurd (h c r)
          go (Some d) e h = (d, e, h.1 c r)

      pub reached : (stages : List (List Task)) (t : ℕ) (c : C) → least_cost K T stages t ≡ Some c → CostWithin K T stages t c
      reached stages t c e = let h : IsLeast K (CostWithin K T stages t) (Some c) = subst (IsLeast K (CostWithin K T stages t)) e (least_cost_least stages t) in h.0

      pub stage_reached : (tasks : List Task) (a : ℕ) (c : C) → cost_within K T tasks a ≡ Some c → StageCost tasks a c
      stage_reached tasks a c e = let h : IsLeast K (StageCost tasks a) (Some c) = subst (IsLeast K (StageCost tasks a)) e (cost_within_least tasks a) in h.0

      pub stage_reached_by : (tasks : List Task) (a : ℕ) (c : C) → StageCost tasks a c → (d : C) × (cost_within K T tasks a ≡ Some d) × (K.at_most d c ≡ true)
      stage_reached_by tasks a c r = go (cost_within K T tasks a) refl (cost_within_least tasks a)
        where
          go : (o : Option C) → cost_within K T tasks a ≡ o → IsLeast K (StageCost tasks a) o → (d : C) × (cost_within K T tasks a ≡ Some d) × (K.at_most d c ≡ true)
          go None e h = absurd (h c r)
          go (Some d) e h = (d, e, h.1 c r)

      -- some allowance of the first stage leaves the rest enough
      pub first_step : (tasks : List Task) (stages : List (List Task)) (t : ℕ) (c : C) → least_cost K T (tasks ∷ stages) t ≡ Some c →
          (a : ℕ) × (a ≤ t) × (x : C) × (y : C) × (cost_within K T tasks a ≡ Some x) × (least_cost K T stages (t - a) ≡ Some y) × (K.at_most (K.join x y) c ≡ true)
      unfolding Joins
      first_step tasks stages t c e =
          let f = first_and_rest tasks stages t c (reached (tasks ∷ stages) t c e) in
          let a : ℕ = stage_time T tasks f.0 in
          let j = f.3 in
          let x = stage_reached_by tasks a j.0 j.2 in
          let y = reached_by stages (t - a) j.1 j.3 in
          (a, f.1, x.0, y.0, x.1, y.1, subst (λ (w : C). K.at_most (K.join x.0 y.0) w ≡ true) (sym j.4) (join_mono x.0 j.0 y.0 j.1 x.2 y.2))

      -- more minutes are never dearer
      pub falling : (stages : List (List Task)) (t u : ℕ) (c : C) → least_cost K T stages t ≡ Some c → t ≤ u → (d : C) × (least_cost K T stages u ≡ Some d) × (K.at_most d c ≡ true)
      falling stages t u c e l = let r = reached stages t c e in reached_by stages u c (r.0, r.1, le_trans r.2 l, r.3)

  pub least_costs : LeastCostsShareOutMinutes K
  least_costs T F = record {
    least = least_cost_least T F;
    none_left = none_left T F;
    by_allowances = by_allowances T F;
    by_times = by_times T F;
    bounded = length_span T F;
    beyond = beyond T F;
    falling = falling T F;
  }
