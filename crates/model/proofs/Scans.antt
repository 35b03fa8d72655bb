-- What the loops over the first row of cells find: the front and the answers
use Rattle.std.proofs.Common.{◌≡◌, ℕ, zero, suc, ◌+◌, ◌<◌, Bool, true, false, cond, leb, ◌⊎◌, List, [], ◌∷◌, ◌++◌, Some, None, filter, Option, sym, refl, ap, ◌∙◌, subst, inl, inr, le_refl, arith}
use Rattle.std.proofs.lemmas.Bool.{both_ways, cases_lt, not-true, not_from_false}
use Rattle.costs.specs.Kind.{Kind, Laws}
use Rattle.tariffs.specs.Meaning.{Meaning, Ranged}
use Rattle.sheets.specs.declared.task.Task.{Task}
use Rattle.model.specs.declared.point.Point.{Point}
use Rattle.model.specs.Lists.{In, here, later, least}
use Rattle.model.specs.Assignment.{pairs}
use Rattle.model.specs.Front.{front_of, Rising}
use Rattle.model.specs.Limit.{shorter_then_cheaper, cheaper_then_shorter}
use Rattle.model.specs.Cell.{span, least_cost}
use Rattle.model.specs.Scan.{affordable, drops, point_at, drops_below, or_here, first_below, FrontIsWhereCostsDrop}
use Rattle.model.proofs.Lists.{in_left, in_right, of_append}
use Rattle.model.proofs.LeastCosts.{falling, beyond}
use Rattle.model.proofs.Rows.{Before, Drops, before_last, front_row, budget_row, budget_row_none, deadline_row}

-- at the end of a list by rising length
rising_append : {C : Type 0} (ps qs : List (Point C)) → Rising ps → Rising qs → ((p q : Point C) → In p ps → In q qs → p.length < q.length) → Rising (ps ++ qs)
rising_append [] qs r s h = s
rising_append (p ∷ ps) qs r s h = ((λ q i. elim (of_append ps qs i) [ inl j ↦ r.0 q j | inr j ↦ h p q (here refl) j ]), rising_append ps qs r.1 s (λ x y i j. h x y (later i) j))

module _ {C : Type 0} (K : Kind C) (row : ℕ → Option C) where
  at_parts : (t : ℕ) (o : Option C) (p : Point C) → In p (point_at K row t o) → (p.length ≡ t) × (o ≡ Some p.cost) × (drops K row t p.cost ≡ true)
  at_parts t None p i = elim i [ ]
  at_parts t (Some c) p i = go (drops K row t c) refl i
    where
      go : (b : Bool) → drops K row t c ≡ b → In p (cond b (record { length = t; cost = c } ∷ []) []) → (p.length ≡ t) × (Some c ≡ Some p.cost) × (drops K row t p.cost ≡ true)
      go true e (here x) = let d : p.cost ≡ c = ap (λ (q : Point C). q.cost) x in (ap (λ (q : Point C). q.length) x, ap Some (sym d), ap (drops K row t) d ∙ e)
      go true e (later j) = elim j [ ]
      go false e j = elim j [ ]

  at_from : (t : ℕ) (o : Option C) (p : Point C) → p.length ≡ t → o ≡ Some p.cost → drops K row t p.cost ≡ true → In p (point_at K row t o)
  at_from t o p l e h = rw (e, h) (here (λ i. record { length = l i; cost = p.cost }))

  of_drops : (n : ℕ) (p : Point C) → In p (drops_below K row n) → (p.length < n) × (row p.length ≡ Some p.cost) × (drops K row p.length p.cost ≡ true)
  of_drops zero p i = elim i [ ]
  of_drops (suc n) p i = go (λ j. of_drops n p j) (of_append (drops_below K row n) (point_at K row n (row n)) i)
    where
      go : (In p (drops_below K row n) → (p.length < n) × (row p.length ≡ Some p.cost) × (drops K row p.length p.cost ≡ true)) → In p (drops_below K row n) ⊎ In p (point_at K row n (row n)) → (p.length < suc n) × (row p.length ≡ Some p.cost) × (drops K row p.length p.cost ≡ true)
      go ih (inl j) = let r = ih j in (omega (arith, r.0), r.1, r.2)
      go ih (inr j) = let r = at_parts n (row n) p j in
          (omega (arith, r.0), ap row r.0 ∙ r.1, subst (λ (t : ℕ). drops K row t p.cost ≡ true) (sym r.0) r.2)

  in_drops : (n : ℕ) (p : Point C) → p.length < n → row p.length ≡ Some p.cost → drops K row p.length p.cost ≡ true → In p (drops_below K row n)
  in_drops zero p l e h = absurd (omega arith)
  in_drops (suc n) p l e h = elim (cases_lt p.length n) [
    | inl g ↦ in_left (point_at K row n (row n)) (in_drops n p g e h)
    | inr g ↦ let s : p.length ≡ n = omega arith in in_right (drops_below K row n) (at_from n (row n) p s (ap row (sym s) ∙ e) (subst (λ (t : ℕ). drops K row t p.cost ≡ true) s h))
  ]

  one_rising : (t : ℕ) (o : Option C) → Rising (point_at K row t o)
  one_rising t None = tt
  one_rising t (Some c) = elim (drops K row t c) as (λ b. Rising {C = C} (cond b (record { length = t; cost = c } ∷ []) [])) [ true ↦ ((λ q i. elim i [ ]), tt) | false ↦ tt ]

  drops_rising : (n : ℕ) → Rising (drops_below K row n)
  drops_rising zero = tt
  drops_rising (suc n) = rising_append (drops_below K row n) (point_at K row n (row n)) (drops_rising n) (one_rising n (row n))
      (λ p q i j. omega (arith, (of_drops n p i).0, (at_parts n (row n) q j).0))

module _ {C : Type 0} {K : Kind C} (L : Laws K) (T : Meaning C) (F : Ranged T) (s : List (List Task)) where
  not_affordable : (o : Option C) (b : C) → affordable K o b ≡ false → (x : C) → o ≡ Some x → K.at_most x b ≡ false
  not_affordable o b h x e = sym (ap (λ (i : Option C). affordable K i b) e) ∙ h

  unaffordable : (o : Option C) (b : C) → ((x : C) → o ≡ Some x → K.at_most x b ≡ false) → affordable K o b ≡ false
  unaffordable None b h = refl
  unaffordable (Some x) b h = h x refl

  drops_before : (t : ℕ) (c : C) → drops K (least_cost K T s) t c ≡ true → Before L T F s t c
  drops_before zero c h = λ u x l. absurd (omega arith)
  drops_before (suc u) c h = before_last L T F s u c (not_affordable (least_cost K T s u) c (not-true _ h))

  before_drops : (t : ℕ) (c : C) → Before L T F s t c → drops K (least_cost K T s) t c ≡ true
  before_drops zero c h = refl
  before_drops (suc u) c h = not_from_false _ (unaffordable (least_cost K T s u) c (λ x e. h u x (le_refl (suc u)) e))

  -- no drop past the span
  drop_span : (p : Point C) → Drops L T F s p → p.length < span T s + 1
  drop_span p d = elim (cases_lt (span T s) p.length) [
    | inl g ↦ (let e : least_cost K T s (span T s) ≡ Some p.cost = sym (beyond L T F s p.length (omega arith)) ∙ d.0 in
        absurd (both_ways _ (d.1 (span T s) p.cost g e) (elim (L.total p.cost p.cost) [ inl t ↦ t | inr t ↦ t ])))
    | inr g ↦ omega arith
  ]

  -- the front
  pub front_scan : drops_below K (least_cost K T s) (span T s + 1) ≡ front_of K (pairs K T s)
  front_scan = front_row L T F s (drops_below K (least_cost K T s) (span T s + 1)) (drops_rising K (least_cost K T s) (span T s + 1))
      (λ p. (
        (λ i. let r = of_drops K (least_cost K T s) (span T s + 1) p i in (r.1, drops_before p.length p.cost r.2)),
        (λ d. in_drops K (least_cost K T s) (span T s + 1) p (drop_span p d) d.0 (before_drops p.length p.cost d.1)),
      ))

  -- the first at most b
  abbrev pub FirstAt : C → ℕ → Option (Point C) → Type 0
  FirstAt b n None = Before L T F s n b
  FirstAt b n (Some p) = (p.length < n) × (least_cost K T s p.length ≡ Some p.cost) × (K.at_most p.cost b ≡ true) × Before L T F s p.length b

  pub first_is : (b : C) (n : ℕ) → FirstAt b n (first_below K (least_cost K T s) b n)
  first_is b zero = λ u x l. absurd (omega arith)
  first_is b (suc n) = go (first_below K (least_cost K T s) b n) (first_is b n) (least_cost K T s n) refl
    where
      none : Before L T F s n b → ((x : C) → least_cost K T s n ≡ Some x → K.at_most x b ≡ false) → Before L T F s (suc n) b
      none h k u x l e = elim (cases_lt u n) [ inl g ↦ h u x g e | inr g ↦ let i : u ≡ n = omega arith in k x (ap (least_cost K T s) (sym i) ∙ e) ]

      go : (o : Option (Point C)) → FirstAt b n o → (v : Option C) → least_cost K T s n ≡ v → FirstAt b (suc n) (or_here K b n v o)
      go (Some p) h v e = (omega (arith, h.0), h.1, h.2, h.3)
      go None h None e = none h (λ x i. cc)
      go None h (Some c) e = pick (K.at_most c b) refl
        where
          pick : (x : Bool) → K.at_most c b ≡ x → FirstAt b (suc n) (cond x (Some (record { length = n; cost = c })) None)
          pick true t = (le_refl (suc n), e, t, h)
          pick false t = none h (λ x i. let j : c ≡ x = cc in subst (λ (y : C). K.at_most y b ≡ false) j t)

  -- the budget
  pub budget_scan : (b : C) → first_below K (least_cost K T s) b (span T s + 1) ≡ least (shorter_then_cheaper K) (filter (λ p. K.at_most p.cost b) (pairs K T s))
  budget_scan b = go (first_below K (least_cost K T s) b (span T s + 1)) (first_is b (span T s + 1))
    where
      go : (o : Option (Point C)) → FirstAt b (span T s + 1) o → o ≡ least (shorter_then_cheaper K) (filter (λ p. K.at_most p.cost b) (pairs K T s))
      go None h = sym (budget_row_none L T F s b h)
      go (Some p) h = sym (budget_row L T F s b p.length p.cost h.1 h.2 h.3)

  -- the deadline: the row of d holds c, and the first at most c
  pub deadline_scan : (d : ℕ) (c : C) → least_cost K T s d ≡ Some c → first_below K (least_cost K T s) c (suc d) ≡ least (cheaper_then_shorter K) (filter (λ p. leb p.length d) (pairs K T s))
  deadline_scan d c e = go (first_below K (least_cost K T s) c (suc d)) (first_is c (suc d))
    where
      go : (o : Option (Point C)) → FirstAt c (suc d) o → o ≡ least (cheaper_then_shorter K) (filter (λ p. leb p.length d) (pairs K T s))
      go None h = absurd (both_ways _ (h d c (le_refl (suc d)) e) (elim (L.total c c) [ inl t ↦ t | inr t ↦ t ]))
      go (Some p) h = sym (subst (λ (x : C). least (cheaper_then_shorter K) (filter (λ q. leb q.length d) (pairs K T s)) ≡ Some (record { length = p.length; cost = x })) (sym same) (deadline_row L T F s d p.length c e (omega (arith, h.0)) (h.1 ∙ ap Some same) h.3))
        where
          same : p.cost ≡ c
          same =
              let r = falling L T F s p.length d p.cost h.1 (omega (arith, h.0)) in
              let f = r.1 in
              let j : r.0 ≡ c = cc in
              L.antisymmetric _ _ h.2 (subst (λ (y : C). K.at_most y p.cost ≡ true) j r.2)

pub front_is_where_costs_drop : {C : Type 0} {K : Kind C} → Laws K → FrontIsWhereCostsDrop K
front_is_where_costs_drop L T F stages = front_scan L T F stages
