-- The least point within a limit
use Rattle.std.proofs.Common.{◌≡◌, ◌<◌, ◌≤◌, Bool, true, false, not, ◌||◌, eqb, ltb, leb, ◌⊎◌, List, Some, None, filter, Option, sym, refl, ap, ◌∙◌, inl, inr, le_trans, le_antisymm, arith}
use Rattle.std.proofs.lemmas.Bool.{both_ways, and_parts, and_from, or_cases, or_left, or_right, leb-true, le-leb, ltb-true, lt-ltb, eqb-true, eq-eqb, cases_order, cases_Bool, not_from_false, cases_lt}
use Rattle.costs.specs.Kind.{Kind, Laws}
use Rattle.model.specs.declared.point.Point.{Point}
use Rattle.model.specs.Lists.{least}
use Rattle.model.specs.Front.{no_worse}
use Rattle.model.specs.Limit.{shorter_then_cheaper, cheaper_then_shorter}
use Rattle.model.proofs.Lists.{in_kept_by, of_kept_by}
use Rattle.model.proofs.Leasts.{Order, Least, least_is}
use Rattle.model.proofs.Fronts.{Covers, same_point, no_longer, no_dearer}

-- an order of points that follows "no longer and no dearer"
pub record Follows {C : Type 0} (K : Kind C) (before : Point C → Point C → Bool) : Type 0 where
  pub order : Order before
  pub agrees : (p q : Point C) → no_worse K p q ≡ true → before p q ≡ true

module _ {C : Type 0} {K : Kind C} {before : Point C → Point C → Bool} (O : Follows K before) where
  same_least : (ps qs : List (Point C)) → Covers K qs ps → Covers K ps qs → (o u : Option (Point C)) → Least O.order ps o → Least O.order qs u → o ≡ u
  same_least ps qs f g None None h k = refl
  same_least ps qs f g None (Some n) h k = absurd (h _ (g n k.0).1)
  same_least ps qs f g (Some m) None h k = absurd (k _ (f m h.0).1)
  same_least ps qs f g (Some m) (Some n) h k = ap Some (O.order.antisym m n
      (let r = g n k.0 in O.order.trans m r.0 n (h.1 r.0 r.1) (O.agrees _ _ r.2))
      (let r = f m h.0 in O.order.trans n r.0 m (k.1 r.0 r.1) (O.agrees _ _ r.2)))

  -- lists that cover each other have the same least
  pub least_of_covers : (ps qs : List (Point C)) → Covers K qs ps → Covers K ps qs → least before ps ≡ least before qs
  least_of_covers ps qs f g = same_least ps qs f g (least before ps) (least before qs) (least_is O.order ps) (least_is O.order qs)

-- a test that holds below where it holds keeps covers
pub kept_by_covers : {C : Type 0} (K : Kind C) (f : Point C → Bool) → ((p q : Point C) → no_worse K q p ≡ true → f p ≡ true → f q ≡ true) → (ps qs : List (Point C)) → Covers K qs ps → Covers K (filter f qs) (filter f ps)
kept_by_covers K f down ps qs c p i =
    let k = of_kept_by f ps i in
    let r = c p k.0 in
    (r.0, in_kept_by f r.1 (down p r.0 r.2 k.1), r.2)

module _ {C : Type 0} {K : Kind C} (L : Laws K) where
  pub shorter_from : (p q : Point C) → (p.length < q.length) ⊎ ((p.length ≡ q.length) × (K.at_most p.cost q.cost ≡ true)) → shorter_then_cheaper K p q ≡ true
  shorter_from p q (inl l) = or_left _ _ (lt-ltb _ _ l)
  shorter_from p q (inr h) = or_right (ltb p.length q.length) _ (and_from _ _ (eq-eqb _ _ h.0) h.1)

  pub shorter_parts : (p q : Point C) → shorter_then_cheaper K p q ≡ true → (p.length < q.length) ⊎ ((p.length ≡ q.length) × (K.at_most p.cost q.cost ≡ true))
  shorter_parts p q h = elim (or_cases (ltb p.length q.length) _ h) [ inl l ↦ inl (ltb-true _ _ l) | inr k ↦ let r = and_parts (eqb p.length q.length) _ k in inr (eqb-true _ _ r.0, r.1) ]

  pub shorter_first : Follows K (shorter_then_cheaper K)
  shorter_first = record { order = record { total = tot; antisym = anti; trans = tra }; agrees = agr }
    where
      tot : (p q : Point C) → (shorter_then_cheaper K p q ≡ true) ⊎ (shorter_then_cheaper K q p ≡ true)
      tot p q = elim (cases_order p.length q.length) [
        | inl e ↦ elim (L.total p.cost q.cost) [ inl t ↦ inl (shorter_from p q (inr (e, t))) | inr t ↦ inr (shorter_from q p (inr (sym e, t))) ]
        | inr o ↦ elim o [ inl l ↦ inl (shorter_from p q (inl l)) | inr l ↦ inr (shorter_from q p (inl l)) ]
      ]

      anti : (p q : Point C) → shorter_then_cheaper K p q ≡ true → shorter_then_cheaper K q p ≡ true → p ≡ q
      anti p q h k = go (shorter_parts p q h) (shorter_parts q p k)
        where
          go : (p.length < q.length) ⊎ ((p.length ≡ q.length) × (K.at_most p.cost q.cost ≡ true)) → (q.length < p.length) ⊎ ((q.length ≡ p.length) × (K.at_most q.cost p.cost ≡ true)) → p ≡ q
          go (inl a) (inl b) = absurd (omega arith)
          go (inl a) (inr b) = absurd (omega arith)
          go (inr a) (inl b) = absurd (omega arith)
          go (inr a) (inr b) = same_point p q a.0 (L.antisymmetric _ _ a.1 b.1)

      tra : (p q r : Point C) → shorter_then_cheaper K p q ≡ true → shorter_then_cheaper K q r ≡ true → shorter_then_cheaper K p r ≡ true
      tra p q r h k = shorter_from p r (go (shorter_parts p q h) (shorter_parts q r k))
        where
          go : (p.length < q.length) ⊎ ((p.length ≡ q.length) × (K.at_most p.cost q.cost ≡ true)) → (q.length < r.length) ⊎ ((q.length ≡ r.length) × (K.at_most q.cost r.cost ≡ true)) → (p.length < r.length) ⊎ ((p.length ≡ r.length) × (K.at_most p.cost r.cost ≡ true))
          go (inl a) (inl b) = inl (omega arith)
          go (inl a) (inr b) = inl (omega arith)
          go (inr a) (inl b) = inl (omega arith)
          go (inr a) (inr b) = inr (a.0 ∙ b.0, L.transitive _ _ _ a.1 b.1)

      agr : (p q : Point C) → no_worse K p q ≡ true → shorter_then_cheaper K p q ≡ true
      agr p q h = shorter_from p q (elim (cases_lt p.length q.length) [ inl l ↦ inl l | inr g ↦ inr (le_antisymm (no_longer L p q h) g, no_dearer L p q h) ])

  pub shorter_long : (p q : Point C) → shorter_then_cheaper K p q ≡ true → p.length ≤ q.length
  shorter_long p q h = elim (shorter_parts p q h) [ inl l ↦ omega arith | inr e ↦ omega arith ]

  -- dearer in truth, or no dearer and no longer
  unfoldable pub Cheaper : Point C → Point C → Type 0
  Cheaper p q = (K.at_most q.cost p.cost ≡ false) ⊎ ((p.cost ≡ q.cost) × (p.length ≤ q.length))

  pub cheaper_from : (p q : Point C) → Cheaper p q → cheaper_then_shorter K p q ≡ true
  unfolding Cheaper
  cheaper_from p q (inl f) = and_from _ _ (elim (L.total p.cost q.cost) [ inl t ↦ t | inr t ↦ absurd (both_ways _ f t) ]) (or_left _ _ (not_from_false _ f))
  cheaper_from p q (inr h) = and_from _ _ (elim (L.total p.cost q.cost) [ inl t ↦ t | inr t ↦ rw h.0 (rw h.0 at t) ]) (or_right (not (K.at_most q.cost p.cost)) _ (le-leb _ _ h.1))

  pub cheaper_parts : (p q : Point C) → cheaper_then_shorter K p q ≡ true → Cheaper p q
  unfolding Cheaper
  cheaper_parts p q h = go (K.at_most q.cost p.cost) refl (and_parts (K.at_most p.cost q.cost) _ h)
    where
      go : (b : Bool) → K.at_most q.cost p.cost ≡ b → (K.at_most p.cost q.cost ≡ true) × ((not b || leb p.length q.length) ≡ true) → (K.at_most q.cost p.cost ≡ false) ⊎ ((p.cost ≡ q.cost) × (p.length ≤ q.length))
      go true t r = inr (L.antisymmetric _ _ r.0 t, leb-true _ _ r.1)
      go false t r = inl t

  lt_trans_left : (a b c : C) → K.at_most b a ≡ false → K.at_most b c ≡ true → K.at_most c a ≡ false
  lt_trans_left a b c f t = elim (cases_Bool (K.at_most c a)) [ inl s ↦ absurd (both_ways _ f (L.transitive _ _ _ t s)) | inr s ↦ s ]

  pub cheaper_dear : (p q : Point C) → Cheaper p q → K.at_most p.cost q.cost ≡ true
  unfolding Cheaper
  cheaper_dear p q (inl f) = elim (L.total p.cost q.cost) [ inl t ↦ t | inr t ↦ absurd (both_ways _ f t) ]
  cheaper_dear p q (inr h) = elim (L.total p.cost q.cost) [ inl t ↦ t | inr t ↦ rw h.0 (rw h.0 at t) ]

  pub cheaper_first : Follows K (cheaper_then_shorter K)
  unfolding Cheaper
  cheaper_first = record { order = record { total = tot; antisym = anti; trans = tra }; agrees = agr }
    where
      tot : (p q : Point C) → (cheaper_then_shorter K p q ≡ true) ⊎ (cheaper_then_shorter K q p ≡ true)
      tot p q = go (K.at_most q.cost p.cost) refl (K.at_most p.cost q.cost) refl (cases_lt p.length q.length)
        where
          go : (a : Bool) → K.at_most q.cost p.cost ≡ a → (b : Bool) → K.at_most p.cost q.cost ≡ b → (p.length < q.length) ⊎ (q.length ≤ p.length) → (cheaper_then_shorter K p q ≡ true) ⊎ (cheaper_then_shorter K q p ≡ true)
          go false s b t o = inl (cheaper_from p q (inl s))
          go true s false t o = inr (cheaper_from q p (inl t))
          go true s true t (inl l) = inl (cheaper_from p q (inr (L.antisymmetric _ _ t s, omega arith)))
          go true s true t (inr l) = inr (cheaper_from q p (inr (L.antisymmetric _ _ s t, l)))

      anti : (p q : Point C) → cheaper_then_shorter K p q ≡ true → cheaper_then_shorter K q p ≡ true → p ≡ q
      anti p q h k = go (cheaper_parts p q h) (cheaper_parts q p k)
        where
          go : Cheaper p q → Cheaper q p → p ≡ q
          go (inl a) b = absurd (both_ways _ a (cheaper_dear q p b))
          go (inr a) (inl b) = absurd (both_ways _ b (cheaper_dear p q (inr a)))
          go (inr a) (inr b) = same_point p q (le_antisymm a.1 b.1) a.0

      tra : (p q r : Point C) → cheaper_then_shorter K p q ≡ true → cheaper_then_shorter K q r ≡ true → cheaper_then_shorter K p r ≡ true
      tra p q r h k = cheaper_from p r (go (cheaper_parts p q h) (cheaper_parts q r k))
        where
          go : Cheaper p q → Cheaper q r → Cheaper p r
          go (inl a) b = inl (lt_trans_left _ _ _ a (cheaper_dear q r b))
          go (inr a) (inl b) = inl (rw a.0 b)
          go (inr a) (inr b) = inr (a.0 ∙ b.0, le_trans a.1 b.1)

      agr : (p q : Point C) → no_worse K p q ≡ true → cheaper_then_shorter K p q ≡ true
      agr p q h = go (K.at_most q.cost p.cost) refl
        where
          go : (a : Bool) → K.at_most q.cost p.cost ≡ a → cheaper_then_shorter K p q ≡ true
          go false s = cheaper_from p q (inl s)
          go true s = cheaper_from p q (inr (L.antisymmetric _ _ (no_dearer L p q h) s, no_longer L p q h))
