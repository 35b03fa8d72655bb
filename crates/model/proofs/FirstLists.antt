-- The first allowance list that counts
use Rattle.std.proofs.Common.{◌≡◌, ℕ, zero, suc, ◌+◌, ◌-◌, ◌<◌, ◌≤◌, Bool, true, false, cond, ◌⊎◌, List, [], ◌∷◌, Some, None, Option, sym, refl, ap, ◌∙◌, subst, ap₂, inl, inr, zero-le, arith}
use Rattle.std.proofs.lemmas.Bool.{both_ways, cases_Bool, cases_lt, cases_order}
use Rattle.costs.specs.Kind.{Kind, Laws}
use Rattle.tariffs.specs.Meaning.{Meaning, Ranged}
use Rattle.sheets.specs.declared.task.Task.{Task}
use Rattle.model.specs.declared.point.Point.{Point}
use Rattle.model.specs.Lists.{total}
use Rattle.model.specs.Allowance.{joined, cost_within}
use Rattle.model.specs.Cell.{least_cost}
use Rattle.model.specs.Plan.{Precedes, list_cost, IsFirst, completes, first_from, or_neutral, first_list}
use Rattle.model.proofs.LeastCosts.{at_most_refl, join_mono, reached, reached_by, stage_reached, first_step, none_left}

-- the search stops at the first that passes
pub first_from_is : (f : ℕ → Bool) (a n b : ℕ) → a ≤ b → b ≤ a + n → f b ≡ true →
    (f (first_from f a n) ≡ true) × (first_from f a n ≤ a + n) × ((u : ℕ) → a ≤ u → f u ≡ true → first_from f a n ≤ u)
first_from_is f a zero b l m t = let e : b ≡ a = omega arith in (subst (λ (x : ℕ). f x ≡ true) e t, omega arith, λ u k _. k)
first_from_is f a (suc n) b l m t = go (λ k. first_from_is f (a + 1) n b k (omega arith) t) (f a) refl
  where
    Goal : ℕ → Type 0
    Goal r = (f r ≡ true) × (r ≤ a + suc n) × ((u : ℕ) → a ≤ u → f u ≡ true → r ≤ u)

    other : (u : ℕ) → a ≤ u → f a ≡ false → f u ≡ true → a + 1 ≤ u
    other u k e h = elim (cases_lt a u) [ inl g ↦ omega arith | inr g ↦ let s : u ≡ a = omega arith in absurd (both_ways _ e (subst (λ (x : ℕ). f x ≡ true) s h)) ]

    go : (a + 1 ≤ b → (f (first_from f (a + 1) n) ≡ true) × (first_from f (a + 1) n ≤ a + 1 + n) × ((u : ℕ) → a + 1 ≤ u → f u ≡ true → first_from f (a + 1) n ≤ u)) → (x : Bool) → f a ≡ x → Goal (cond x a (first_from f (a + 1) n))
    go ih true e = (e, omega arith, λ u k _. k)
    go ih false e = let r = ih (other b l e t) in (r.0, omega (arith, r.1), λ u k h. r.2 u (other u k e h) h)

module _ {C : Type 0} {K : Kind C} (L : Laws K) where
  pub joined_parts : (o u : Option C) (x : C) → joined K o u ≡ Some x → (y : C) × (z : C) × (o ≡ Some y) × (u ≡ Some z) × (x ≡ K.join y z)
  joined_parts None u x e = cc
  joined_parts (Some y) None x e = cc
  joined_parts (Some y) (Some z) x e = (y, z, refl, refl, (cc))

  -- at most what an option holds
  abbrev pub Reached : Option C → C → Type 0
  Reached o y = (x : C) × (o ≡ Some x) × (K.at_most x y ≡ true)

  completes_parts : (p : C) (o u : Option C) (c : C) → completes K p o u c ≡ true → (x : C) × (y : C) × (o ≡ Some x) × (u ≡ Some y) × (K.at_most (K.join p (K.join x y)) c ≡ true)
  completes_parts p None u c e = absurd (both_ways false refl e)
  completes_parts p (Some x) None c e = absurd (both_ways false refl e)
  completes_parts p (Some x) (Some y) c e = (x, y, refl, refl, e)

  completes_from : (p : C) (o u : Option C) (c x y : C) → o ≡ Some x → u ≡ Some y → K.at_most (K.join p (K.join x y)) c ≡ true → completes K p o u c ≡ true
  completes_from p o u c x y e f h = rw (e, f) h

  join_right : (p x y : C) → K.at_most x y ≡ true → K.at_most (K.join p x) (K.join p y) ≡ true
  join_right p x y h = join_mono L p p x y (at_most_refl L p) h

  module _ (T : Meaning C) (F : Ranged T) where
    -- one step of the cells, from above
    cell_step : (ws : List Task) (s : List (List Task)) (a u : ℕ) (x y : C) → cost_within K T ws a ≡ Some x → least_cost K T s u ≡ Some y → Reached (least_cost K T (ws ∷ s) (a + u)) (K.join x y)
    cell_step ws s a u x y e f =
        let m = stage_reached L T F ws a x e in
        let r = reached L T F s u y f in
        reached_by L T F (ws ∷ s) (a + u) (K.join x y) (m.0 ∷ r.0, (m.1, r.1), omega (arith, m.2, r.2), cc (m.3, r.3))

    -- no list is cheaper than the cell of its total
    pub list_above : (s : List (List Task)) (m : List ℕ) (z : C) → list_cost K T s m ≡ Some z → Reached (least_cost K T s (total m)) z
    list_above [] [] z e = (K.neutral, refl, subst (λ (w : C). K.at_most K.neutral w ≡ true) (cc) (at_most_refl L K.neutral))
    list_above [] (a ∷ m) z e = let y : ◌≡◌ {A = ℕ} 0 1 = cc in absurd (omega arith)
    list_above (ws ∷ s) [] z e = let y : ◌≡◌ {A = ℕ} 0 1 = cc in absurd (omega arith)
    list_above (ws ∷ s) (a ∷ m) z e =
        let r = joined_parts (cost_within K T ws a) (list_cost K T s m) z e in
        let w = list_above s m r.1 r.3 in
        let v = cell_step ws s a (total m) r.0 w.0 r.2 w.1 in
        (v.0, v.1, L.transitive _ _ _ v.2 (subst (λ (q : C). K.at_most (K.join r.0 w.0) q ≡ true) (sym r.4) (join_right r.0 w.0 r.1 w.2)))

    -- the search stands well: the completion completes c, and none that is shorter does
    pub record Stands (s : List (List Task)) (t : ℕ) (p c : C) : Type 0 where
      pub rest : C
      pub is : least_cost K T s t ≡ Some rest
      pub reach : K.join p rest ≡ c
      pub shorter : (u : ℕ) (y : C) → u < t → least_cost K T s u ≡ Some y → K.at_most (K.join p y) c ≡ false

    pub record First (s : List (List Task)) (t : ℕ) (p c : C) (l : List ℕ) : Type 0 where
      pub sums : total l ≡ t
      pub costs : (y : C) × (list_cost K T s l ≡ Some y) × (K.join p y ≡ c)
      pub first : (m : List ℕ) (z : C) → total m ≡ t → list_cost K T s m ≡ Some z → K.join p z ≡ c → (m ≡ l) ⊎ Precedes l m

    -- what the step at a stage finds
    module _ (ws : List Task) (s : List (List Task)) (t : ℕ) (p c : C) (h : Stands (ws ∷ s) t p c) where
      test : ℕ → Bool
      test a = completes K p (cost_within K T ws a) (least_cost K T s (t - a)) c

      some_a : (a : ℕ) × (a ≤ t) × (test a ≡ true)
      unfolding test
      some_a =
          let r = first_step L T F ws s t h.rest h.is in
          (r.0, r.1, completes_from p _ _ c r.2 r.3 r.4 r.5 (subst (λ (w : C). K.at_most (K.join p (K.join r.2 r.3)) w ≡ true) h.reach (join_right p (K.join r.2 r.3) h.rest r.6)))

      a : ℕ
      a = first_from test 0 t

      found : (test a ≡ true) × (a ≤ t) × ((u : ℕ) → test u ≡ true → a ≤ u)
      unfolding a
      found = let r = some_a in let q = first_from_is test 0 t r.0 zero-le (omega (arith, r.1)) r.2 in (q.0, omega (arith, q.1), λ u k. q.2 u zero-le k)

      record Step : Type 0 where
        pub x : C
        pub y : C
        pub stage : cost_within K T ws a ≡ Some x
        pub after : least_cost K T s (t - a) ≡ Some y
        pub all : K.join (K.join p x) y ≡ c

      step : Step
      unfolding test
      step =
          let r = completes_parts p (cost_within K T ws a) (least_cost K T s (t - a)) c found.0 in
          let low = cell_step ws s a (t - a) r.0 r.1 r.2 r.3 in
          let e : a + (t - a) ≡ t = omega (arith, found.1) in
          let g : least_cost K T (ws ∷ s) t ≡ Some low.0 = ap (least_cost K T (ws ∷ s)) (sym e) ∙ low.1 in
          let i = h.is in
          let q : low.0 ≡ h.rest = cc in
          let up : K.at_most c (K.join p (K.join r.0 r.1)) ≡ true = subst (λ (w : C). K.at_most w (K.join p (K.join r.0 r.1)) ≡ true) (ap (K.join p) q ∙ h.reach) (join_right p low.0 _ low.2) in
          record { x = r.0; y = r.1; stage = r.2; after = r.3; all = L.associative p r.0 r.1 ∙ L.antisymmetric _ _ r.4 up }

      next_stands : Stands s (t - a) (K.join p (or_neutral K (cost_within K T ws a))) c
      next_stands = rw step.stage (record {
        rest = step.y;
        is = step.after;
        reach = step.all;
        shorter = λ u v l e. elim (cases_Bool (K.at_most (K.join (K.join p step.x) v) c)) [
          | inl k ↦ (let w = cell_step ws s a u step.x v step.stage e in
              let m = join_right p w.0 _ w.2 in
              let n : K.at_most (K.join p (K.join step.x v)) c ≡ true = subst (λ (z : C). K.at_most z c ≡ true) (L.associative p step.x v) k in
              absurd (both_ways _ (h.shorter (a + u) w.0 (omega arith) w.1) (L.transitive _ _ _ m n)))
          | inr k ↦ k
        ];
      })

      whole : (l : List ℕ) → First s (t - a) (K.join p (or_neutral K (cost_within K T ws a))) c l → First (ws ∷ s) t p c (a ∷ l)
      unfolding test
      whole l f = record {
        sums = omega (arith, found.1, f.sums);
        costs = (K.join step.x f.costs.0, rw (step.stage, f.costs.1) refl, sym (L.associative p step.x f.costs.0) ∙ subst (λ (z : C). K.join (K.join p z) f.costs.0 ≡ c) px f.costs.2);
        first = order;
      }
        where
          px : or_neutral K (cost_within K T ws a) ≡ step.x
          px = ap (or_neutral K) step.stage

          order : (m : List ℕ) (z : C) → total m ≡ t → list_cost K T (ws ∷ s) m ≡ Some z → K.join p z ≡ c → (m ≡ a ∷ l) ⊎ Precedes (a ∷ l) m
          order [] z e k j = let y : ◌≡◌ {A = ℕ} 0 1 = cc in absurd (omega arith)
          order (b ∷ m) z e k j = go (cases_order a b)
            where
              r : (y : C) × (v : C) × (cost_within K T ws b ≡ Some y) × (list_cost K T s m ≡ Some v) × (z ≡ K.join y v)
              r = joined_parts (cost_within K T ws b) (list_cost K T s m) z k

              w : Reached (least_cost K T s (total m)) r.1
              w = list_above s m r.1 r.3

              passes : test b ≡ true
              passes =
                  let g : total m ≡ t - b = omega arith in
                  completes_from p _ _ c r.0 w.0 r.2 (ap (least_cost K T s) (sym g) ∙ w.1)
                  (subst (λ (q : C). K.at_most (K.join p (K.join r.0 w.0)) q ≡ true) (ap (K.join p) (sym r.4) ∙ j) (join_right p _ _ (join_right r.0 w.0 r.1 w.2)))

              go : (a ≡ b) ⊎ ((a < b) ⊎ (b < a)) → (b ∷ m ≡ a ∷ l) ⊎ ((a < b) ⊎ ((a ≡ b) × Precedes l m))
              go (inl s') =
                  let g : total m ≡ t - a = omega arith in
                  let x' : cost_within K T ws a ≡ Some r.0 = ap (cost_within K T ws) s' ∙ r.2 in
                  let q : or_neutral K (cost_within K T ws a) ≡ r.0 = ap (or_neutral K) x' in
                  let v : K.join (K.join p (or_neutral K (cost_within K T ws a))) r.1 ≡ c = ap (λ (i : C). K.join (K.join p i) r.1) q ∙ L.associative p r.0 r.1 ∙ ap (K.join p) (sym r.4) ∙ j in
                  elim (f.first m r.1 g r.3 v) [ inl d ↦ inl (ap₂ (λ (i : ℕ) (is : List ℕ). i ∷ is) (sym s') d) | inr d ↦ inr (inr (s', d)) ]
              go (inr (inl g)) = inr (inl g)
              go (inr (inr g)) = let n = found.2 b passes in absurd (omega arith)

    pub first_is : (s : List (List Task)) (t : ℕ) (p c : C) → Stands s t p c → First s t p c (first_list K T s t p c)
    unfolding a test
    first_is [] t p c h = record {
      sums = sym zero_t;
      costs = (K.neutral, refl, ap (K.join p) nothing_left ∙ h.reach);
      first = λ m z e k j. only m z k;
    }
      where
        nothing_left : K.neutral ≡ h.rest
        nothing_left = let i = h.is in let n = none_left L T F t in cc

        zero_t : t ≡ 0
        zero_t = elim (cases_lt 0 t) [
          | inl g ↦ absurd (both_ways _ (h.shorter 0 K.neutral g (none_left L T F 0)) (subst (λ (q : C). K.at_most q c ≡ true) (sym (ap (K.join p) nothing_left ∙ h.reach)) (at_most_refl L c)))
          | inr g ↦ omega arith
        ]

        only : (m : List ℕ) (z : C) → list_cost K T [] m ≡ Some z → (m ≡ []) ⊎ Precedes [] m
        only [] z k = inl refl
        only (b ∷ m) z k = let y : ◌≡◌ {A = ℕ} 0 1 = cc in absurd (omega arith)
    first_is (ws ∷ s) t p c h = whole ws s t p c h _ (first_is s (t - a ws s t p c h) (K.join p (or_neutral K (cost_within K T ws (a ws s t p c h)))) c (next_stands ws s t p c h))

    -- from the start
    pub first_list_first : (s : List (List Task)) (p : Point C) → least_cost K T s p.length ≡ Some p.cost → ((u : ℕ) (y : C) → u < p.length → least_cost K T s u ≡ Some y → K.at_most y p.cost ≡ false) → IsFirst K T s p (first_list K T s p.length K.neutral p.cost)
    first_list_first s p e h =
        let f = first_is s p.length K.neutral p.cost (record { rest = p.cost; is = e; reach = left p.cost; shorter = λ u y l i. subst (λ (q : C). K.at_most q p.cost ≡ false) (sym (left y)) (h u y l i) }) in
        let y = f.costs in
        ((f.sums, y.1 ∙ ap Some (sym (left y.0) ∙ y.2)), λ m k. f.first m p.cost k.0 k.1 (left p.cost))
      where
        left : (x : C) → K.join K.neutral x ≡ x
        left x = L.commutative K.neutral x ∙ L.identity x
