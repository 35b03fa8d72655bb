-- From the least costs of a whole sheet by minutes to its front and its answers
use Rattle.std.proofs.Common.{◌≡◌, ℕ, suc, ◌+◌, ◌<◌, ◌≤◌, true, false, leb, ◌↔◌, List, Some, None, filter, Option, sym, refl, ap, ◌∙◌, subst, inl, inr, le_trans, le_refl, le_antisymm, arith}
use Rattle.std.proofs.lemmas.Bool.{both_ways, leb-true, le-leb, cases_Bool, cases_lt}
use Rattle.costs.specs.Kind.{Kind, Laws}
use Rattle.tariffs.specs.Meaning.{Meaning, Ranged}
use Rattle.sheets.specs.declared.task.Task.{Task}
use Rattle.model.specs.declared.point.Point.{Point}
use Rattle.model.specs.Lists.{In, least}
use Rattle.model.specs.Assignment.{pair_of, pairs}
use Rattle.model.specs.Front.{unbeaten, front_of, Rising}
use Rattle.model.specs.Limit.{shorter_then_cheaper, cheaper_then_shorter}
use Rattle.model.specs.Cell.{span, least_cost}
use Rattle.model.proofs.Lists.{in_kept_by, of_kept_by}
use Rattle.model.proofs.Leasts.{Least, least_is, least_unique}
use Rattle.model.proofs.Assignments.{in_pairs, of_pairs}
use Rattle.model.proofs.Fronts.{Best, same_point, same_list, rising, no_worse_from, no_longer, no_dearer, in_front, of_front}
use Rattle.model.proofs.Limits.{shorter_first, shorter_from, cheaper_first, cheaper_from, Cheaper}
use Rattle.model.proofs.Spans.{length_span}
use Rattle.model.proofs.LeastCosts.{reached, reached_by, falling}

module _ {C : Type 0} {K : Kind C} (L : Laws K) (T : Meaning C) (F : Ranged T) (s : List (List Task)) where
  -- least costs and pairs
  pub cost_of_pair : (p : Point C) (t : ℕ) → In p (pairs K T s) → p.length ≤ t → (c : C) × (least_cost K T s t ≡ Some c) × (K.at_most c p.cost ≡ true)
  cost_of_pair p t i l =
      let r = of_pairs K T s p i in
      reached_by L T F s t p.cost (r.0, r.1, subst (λ (x : Point C). x.length ≤ t) r.2 l, ap (λ (x : Point C). x.cost) r.2)

  pub pair_of_cost : (t : ℕ) (c : C) → least_cost K T s t ≡ Some c → (p : Point C) × In p (pairs K T s) × (p.length ≤ t) × (p.cost ≡ c)
  pair_of_cost t c e =
      let r = reached L T F s t c e in
      (pair_of K T s r.0, in_pairs K T s F (pair_of K T s r.0) (r.0, r.1, refl), r.2, sym r.3)

  some_same : (t : ℕ) (c d : C) → least_cost K T s t ≡ Some c → least_cost K T s t ≡ Some d → c ≡ d
  some_same t c d e f = cc

  -- nothing before t costs at most b
  abbrev pub Before : ℕ → C → Type 0
  Before t b = (u : ℕ) (x : C) → u < t → least_cost K T s u ≡ Some x → K.at_most x b ≡ false

  -- it is enough to look one back
  pub before_last : (t : ℕ) (b : C) → ((x : C) → least_cost K T s t ≡ Some x → K.at_most x b ≡ false) → Before (suc t) b
  before_last t b h u x l e =
      let r = falling L T F s u t x e (omega arith) in
      elim (cases_Bool (K.at_most x b)) [ inl y ↦ absurd (both_ways _ (h r.0 r.1) (L.transitive _ _ _ r.2 y)) | inr n ↦ n ]

  -- a point at most b is not before t
  not_before : (t : ℕ) (b : C) → Before t b → (q : Point C) → In q (pairs K T s) → K.at_most q.cost b ≡ true → t ≤ q.length
  not_before t b h q i m = elim (cases_lt q.length t) [
    | inl l ↦ let r = cost_of_pair q q.length i (le_refl q.length) in absurd (both_ways _ (h q.length r.0 l r.1) (L.transitive _ _ _ r.2 m))
    | inr g ↦ g
  ]

  -- a row's cost that nothing before reaches is a point's
  row_point : (t : ℕ) (c : C) → least_cost K T s t ≡ Some c → Before t c → In {A = Point C} (record { length = t; cost = c }) (pairs K T s)
  row_point t c e h =
      let r = pair_of_cost t c e in
      let m : K.at_most r.0.cost c ≡ true = rw r.3 (elim (L.total c c) [ inl y ↦ y | inr y ↦ y ]) in
      let l : r.0.length ≡ t = le_antisymm r.2 (not_before t c h r.0 r.1 m) in
      subst (λ (x : Point C). In x (pairs K T s)) (same_point r.0 (record { length = t; cost = c }) l r.3) r.1

  at_or_above : (t : ℕ) (c : C) → least_cost K T s t ≡ Some c → (q : Point C) → In q (pairs K T s) → q.length ≤ t → K.at_most c q.cost ≡ true
  at_or_above t c e q i l = let r = cost_of_pair q t i l in subst (λ (x : C). K.at_most x q.cost ≡ true) (some_same t _ _ r.1 e) r.2

  -- the budget: the first row at most b
  pub budget_row : (b : C) (t : ℕ) (c : C) → least_cost K T s t ≡ Some c → K.at_most c b ≡ true → Before t b →
      least (shorter_then_cheaper K) (filter (λ p. K.at_most p.cost b) (pairs K T s)) ≡ Some (record { length = t; cost = c })
  budget_row b t c e m h = least_unique (shorter_first L).order _ (record { length = t; cost = c })
      (in_kept_by (λ p. K.at_most p.cost b) (row_point t c e (λ u x l f. elim (cases_Bool (K.at_most x c)) [ inl y ↦ absurd (both_ways _ (h u x l f) (L.transitive _ _ _ y m)) | inr n ↦ n ])) m)
      (λ q i. let k = of_kept_by (λ p. K.at_most p.cost b) (pairs K T s) i in
      let g = not_before t b h q k.0 k.1 in
      shorter_from L (record { length = t; cost = c }) q (elim (cases_lt t q.length) [ inl l ↦ inl l | inr l ↦ inr (le_antisymm g l, at_or_above t c e q k.0 l) ]))

  pub budget_row_none : (b : C) → Before (span T s + 1) b → least (shorter_then_cheaper K) (filter (λ p. K.at_most p.cost b) (pairs K T s)) ≡ None
  budget_row_none b h = go (least (shorter_then_cheaper K) kept) (least_is (shorter_first L).order kept)
    where
      kept : List (Point C)
      kept = filter (λ p. K.at_most p.cost b) (pairs K T s)

      go : (o : Option (Point C)) → Least (shorter_first L).order kept o → o ≡ None
      go None k = refl
      go (Some m) k =
          let r = of_kept_by (λ p. K.at_most p.cost b) (pairs K T s) k.0 in
          let a = of_pairs K T s m r.0 in
          let l : m.length ≤ span T s = subst (λ (x : Point C). x.length ≤ span T s) (sym a.2) (length_span T F s a.0) in
          let g = not_before (span T s + 1) b h m r.0 r.1 in
          absurd (omega arith)

  -- the deadline: the row of d, and the first row of that cost
  pub deadline_row : (d t : ℕ) (c : C) → least_cost K T s d ≡ Some c → t ≤ d → least_cost K T s t ≡ Some c → Before t c →
      least (cheaper_then_shorter K) (filter (λ p. leb p.length d) (pairs K T s)) ≡ Some (record { length = t; cost = c })
  unfolding Cheaper
  deadline_row d t c ed l e h = least_unique (cheaper_first L).order _ (record { length = t; cost = c })
      (in_kept_by (λ p. leb p.length d) (row_point t c e h) (le-leb _ _ l))
      (λ q i. let k = of_kept_by (λ p. leb p.length d) (pairs K T s) i in
      let m = at_or_above d c ed q k.0 (leb-true _ _ k.1) in
      cheaper_from L (record { length = t; cost = c }) q (elim (cases_Bool (K.at_most q.cost c)) [
        | inl y ↦ inr (L.antisymmetric _ _ m y, not_before t c h q k.0 y)
        | inr n ↦ inl n
      ]))

  pub deadline_row_none : (d : ℕ) → least_cost K T s d ≡ None → least (cheaper_then_shorter K) (filter (λ p. leb p.length d) (pairs K T s)) ≡ None
  deadline_row_none d e = go (least (cheaper_then_shorter K) kept) (least_is (cheaper_first L).order kept)
    where
      kept : List (Point C)
      kept = filter (λ p. leb p.length d) (pairs K T s)

      go : (o : Option (Point C)) → Least (cheaper_first L).order kept o → o ≡ None
      go None k = refl
      go (Some m) k =
          let r = of_kept_by (λ p. leb p.length d) (pairs K T s) k.0 in
          let q = cost_of_pair m d r.0 (leb-true _ _ r.1) in
          let f = q.1 in
          cc

  -- the front: the rows that are cheaper than all before
  abbrev pub Drops : Point C → Type 0
  Drops p = (least_cost K T s p.length ≡ Some p.cost) × Before p.length p.cost

  drops_best : (p : Point C) → Drops p → Best K (pairs K T s) p
  drops_best p d q i n =
      same_point q p (le_antisymm (no_longer L q p n) (not_before p.length p.cost d.1 q i (no_dearer L q p n)))
      (L.antisymmetric _ _ (no_dearer L q p n) (at_or_above p.length p.cost d.0 q i (no_longer L q p n)))

  pub best_drops : (p : Point C) → In p (pairs K T s) → Best K (pairs K T s) p → Drops p
  best_drops p i b = (
    exact,
    λ u x l e. elim (cases_Bool (K.at_most x p.cost)) [
      | inl y ↦ (let r = pair_of_cost u x e in
          let k : r.0 ≡ p = b r.0 r.1 (no_worse_from L _ p (le_trans r.2 (omega arith)) (subst (λ (z : C). K.at_most z p.cost ≡ true) (sym r.3) y)) in
          let m : r.0.length ≡ p.length = ap (λ (z : Point C). z.length) k in
          absurd (omega (arith, r.2)))
      | inr n ↦ n
    ],
  )
    where
      exact : least_cost K T s p.length ≡ Some p.cost
      exact =
          let r = cost_of_pair p p.length i (le_refl p.length) in
          let q = pair_of_cost p.length r.0 r.1 in
          let k : q.0 ≡ p = b q.0 q.1 (no_worse_from L _ p q.2 (subst (λ (z : C). K.at_most z p.cost ≡ true) (sym q.3) r.2)) in
          r.1 ∙ ap {B = Option C} Some (sym q.3 ∙ ap (λ (z : Point C). z.cost) k)

  pub front_row : (ps : List (Point C)) → Rising ps → ((p : Point C) → In p ps ↔ Drops p) → ps ≡ front_of K (pairs K T s)
  front_row ps r h = same_list ps (front_of K (pairs K T s)) r (rising (filter (unbeaten K (pairs K T s)) (pairs K T s)))
      (λ x i. let d = (h x).0 i in in_front L (pairs K T s) x (row_point x.length x.cost d.0 d.1) (drops_best x d))
      (λ x i. let f = of_front L (pairs K T s) x i in (h x).1 (best_drops x f.0 f.1))
