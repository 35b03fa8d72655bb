-- Fronts: the unbeaten points of a list, by rising length
use Rattle.std.proofs.Common.{◌≡◌, ◌<◌, ◌≤◌, Bool, true, false, cond, not, ◌&&◌, ltb, leb, ◌⊎◌, List, [], ◌∷◌, filter, sym, refl, ap, ◌∙◌, subst, ap₂, inl, inr, le_trans, le_refl, le_antisymm, arith}
use Rattle.std.proofs.lemmas.Bool.{both_ways, and_parts, and_from, leb-true, le-leb, ltb-true, ltb-false, not-true, not_from_true, not_from_false}
use Rattle.costs.specs.Kind.{Kind, Laws}
use Rattle.model.specs.declared.point.Point.{Point}
use Rattle.model.specs.Lists.{In, here, later}
use Rattle.model.specs.Front.{no_worse, beats, unbeaten, put_by_length, by_rising_length, front_of, Rising}
use Rattle.model.proofs.Lists.{of_cons, in_kept_by, of_kept_by, any_false, any_absent}

-- every point of the second list has one of the first that is no longer and no dearer
abbrev pub Covers : {C : Type 0} → Kind C → List (Point C) → List (Point C) → Type 0
Covers {C} K qs ps = (p : Point C) → In p ps → (q : Point C) × In q qs × (no_worse K q p ≡ true)

-- nothing in the list is no worse than p, but p
abbrev pub Best : {C : Type 0} → Kind C → List (Point C) → Point C → Type 0
Best {C} K ps p = (q : Point C) → In q ps → no_worse K q p ≡ true → q ≡ p

pub same_point : {C : Type 0} (p q : Point C) → p.length ≡ q.length → p.cost ≡ q.cost → p ≡ q
same_point p q e f = λ i. record { length = e i; cost = f i }

-- putting in by rising length
pub of_put : {C : Type 0} {x p : Point C} (qs : List (Point C)) → In x (put_by_length p qs) → (x ≡ p) ⊎ In x qs
of_put [] i = of_cons i
of_put {C} {x} {p} (q ∷ qs) i = go (λ j. of_put qs j) (ltb p.length q.length) (ltb q.length p.length) i
  where
    go : (In x (put_by_length p qs) → (x ≡ p) ⊎ In x qs) → (a b : Bool) → In x (cond a (p ∷ q ∷ qs) (cond b (q ∷ put_by_length p qs) (q ∷ qs))) → (x ≡ p) ⊎ In x (q ∷ qs)
    go ih true b j = of_cons j
    go ih false true (here e) = inr (here e)
    go ih false true (later j) = elim (ih j) [ inl e ↦ inl e | inr k ↦ inr (later k) ]
    go ih false false j = inr j

pub put_rising : {C : Type 0} (p : Point C) (qs : List (Point C)) → Rising qs → Rising (put_by_length p qs)
put_rising p [] r = ((λ q i. elim i [ ]), tt)
put_rising {C} p (q ∷ qs) r = go (put_rising p qs r.1) (ltb p.length q.length) refl (ltb q.length p.length) refl
  where
    go : Rising (put_by_length p qs) → (a : Bool) → ltb p.length q.length ≡ a → (b : Bool) → ltb q.length p.length ≡ b → Rising (cond a (p ∷ q ∷ qs) (cond b (q ∷ put_by_length p qs) (q ∷ qs)))
    go ih true l b m = ((λ x i. elim (of_cons i) [ inl e ↦ rw e (ltb-true _ _ l) | inr j ↦ le_trans (ltb-true _ _ l) (let h = r.0 x j in omega arith) ]), r)
    go ih false l true m = ((λ x i. elim (of_put qs i) [ inl e ↦ rw e (ltb-true _ _ m) | inr j ↦ r.0 x j ]), ih)
    go ih false l false m = r

pub rising : {C : Type 0} (ps : List (Point C)) → Rising (by_rising_length ps)
rising [] = tt
rising (p ∷ ps) = put_rising p (by_rising_length ps) (rising ps)

pub of_rising : {C : Type 0} {x : Point C} (ps : List (Point C)) → In x (by_rising_length ps) → In x ps
of_rising [] i = i
of_rising (p ∷ ps) i = elim (of_put (by_rising_length ps) i) [ inl e ↦ here e | inr j ↦ later (of_rising ps j) ]

-- points of one length are one
abbrev Apart : {C : Type 0} → List (Point C) → Type 0
Apart {C} ps = (p q : Point C) → In p ps → In q ps → p.length ≡ q.length → p ≡ q

pub in_put : {C : Type 0} {x p : Point C} (qs : List (Point C)) → ((q : Point C) → In q qs → p.length ≡ q.length → p ≡ q) → (x ≡ p) ⊎ In x qs → In x (put_by_length p qs)
in_put [] h (inl e) = here e
in_put [] h (inr i) = elim i [ ]
in_put {C} {x} {p} (q ∷ qs) h i = go (λ j. in_put qs (λ q' k. h q' (later k)) j) (ltb p.length q.length) refl (ltb q.length p.length) refl i
  where
    go : ((x ≡ p) ⊎ In x qs → In x (put_by_length p qs)) → (a : Bool) → ltb p.length q.length ≡ a → (b : Bool) → ltb q.length p.length ≡ b → (x ≡ p) ⊎ In x (q ∷ qs) → In x (cond a (p ∷ q ∷ qs) (cond b (q ∷ put_by_length p qs) (q ∷ qs)))
    go ih true l b m (inl e) = here e
    go ih true l b m (inr j) = later j
    go ih false l true m (inl e) = later (ih (inl e))
    go ih false l true m (inr j) = elim (of_cons j) [ inl e ↦ here e | inr k ↦ later (ih (inr k)) ]
    go ih false l false m (inl e) = here (e ∙ h q (here refl) (le_antisymm (ltb-false _ _ m) (ltb-false _ _ l)))
    go ih false l false m (inr j) = j

pub in_rising : {C : Type 0} {x : Point C} (ps : List (Point C)) → Apart ps → In x ps → In x (by_rising_length ps)
in_rising [] h i = i
in_rising (p ∷ ps) h i =
    in_put (by_rising_length ps) (λ q j. h p q (here refl) (later (of_rising ps j)))
    (elim (of_cons i) [ inl e ↦ inl e | inr j ↦ inr (in_rising ps (λ a b k l. h a b (later k) (later l)) j) ])

-- a list by rising length is known by what it holds
pub same_list : {C : Type 0} (ps qs : List (Point C)) → Rising ps → Rising qs → ((x : Point C) → In x ps → In x qs) → ((x : Point C) → In x qs → In x ps) → ps ≡ qs
same_list [] [] r s f g = refl
same_list [] (q ∷ qs) r s f g = elim (g q (here refl)) [ ]
same_list (p ∷ ps) [] r s f g = elim (f p (here refl)) [ ]
same_list {C} (p ∷ ps) (q ∷ qs) r s f g = ap₂ (λ (x : Point C) xs. x ∷ xs) first (same_list ps qs r.1 s.1 (λ x i. down x (of_cons (f x (later i))) (r.0 x i)) (λ x i. up x (of_cons (g x (later i))) (s.0 x i)))
  where
    first : p ≡ q
    first = elim (of_cons (f p (here refl))) [ inl e ↦ e | inr i ↦ elim (of_cons (g q (here refl))) [ inl e ↦ sym e | inr j ↦ let a = s.0 p i in let b = r.0 q j in absurd (omega arith) ] ]

    down : (x : Point C) → (x ≡ q) ⊎ In x qs → p.length < x.length → In x qs
    down x (inl e) l = let h : x.length ≡ p.length = ap (λ (z : Point C). z.length) (e ∙ sym first) in absurd (omega arith)
    down x (inr i) l = i

    up : (x : Point C) → (x ≡ p) ⊎ In x ps → q.length < x.length → In x ps
    up x (inl e) l = let h : x.length ≡ q.length = ap (λ (z : Point C). z.length) (e ∙ first) in absurd (omega arith)
    up x (inr i) l = i

module _ {C : Type 0} {K : Kind C} (L : Laws K) where
  at_most_refl : (a : C) → K.at_most a a ≡ true
  at_most_refl a = elim (L.total a a) [ inl t ↦ t | inr t ↦ t ]

  pub no_worse_from : (p q : Point C) → p.length ≤ q.length → K.at_most p.cost q.cost ≡ true → no_worse K p q ≡ true
  no_worse_from p q l d = and_from _ _ (le-leb _ _ l) d

  pub no_longer : (p q : Point C) → no_worse K p q ≡ true → p.length ≤ q.length
  no_longer p q h = leb-true _ _ (and_parts _ _ h).0

  pub no_dearer : (p q : Point C) → no_worse K p q ≡ true → K.at_most p.cost q.cost ≡ true
  no_dearer p q h = (and_parts (leb p.length q.length) _ h).1

  pub no_worse_refl : (p : Point C) → no_worse K p p ≡ true
  no_worse_refl p = no_worse_from p p (le_refl p.length) (at_most_refl p.cost)

  pub no_worse_trans : (p q r : Point C) → no_worse K p q ≡ true → no_worse K q r ≡ true → no_worse K p r ≡ true
  no_worse_trans p q r h k = no_worse_from p r (le_trans (no_longer p q h) (no_longer q r k)) (L.transitive _ _ _ (no_dearer p q h) (no_dearer q r k))

  pub no_worse_antisym : (p q : Point C) → no_worse K p q ≡ true → no_worse K q p ≡ true → p ≡ q
  no_worse_antisym p q h k = same_point p q (le_antisymm (no_longer p q h) (no_longer q p k)) (L.antisymmetric _ _ (no_dearer p q h) (no_dearer q p k))

  -- unbeaten K, said with paths
  pub best_of_unbeaten : (ps : List (Point C)) (p : Point C) → unbeaten K ps p ≡ true → Best K ps p
  best_of_unbeaten ps p u q i h = no_worse_antisym q p h (go (no_worse K q p) (no_worse K p q) h (any_false (λ q'. beats K q' p) (not-true _ u) i))
    where
      go : (a b : Bool) → a ≡ true → (a && not b) ≡ false → b ≡ true
      go true true t f = refl
      go true false t f = sym f
      go false b t f = absurd (both_ways false refl t)

  pub unbeaten_of_best : (ps : List (Point C)) (p : Point C) → Best K ps p → unbeaten K ps p ≡ true
  unbeaten_of_best ps p b = not_from_false _ (any_absent (λ q. beats K q p) ps (λ q i. go q (no_worse K q p) refl (b q i)))
    where
      go : (q : Point C) (a : Bool) → no_worse K q p ≡ a → (no_worse K q p ≡ true → q ≡ p) → (a && not (no_worse K p q)) ≡ false
      go q true t f = not_from_true _ (subst (λ (x : Point C). no_worse K p x ≡ true) (sym (f t)) (no_worse_refl p))
      go q false t f = refl

  -- below any point of the list there is a best one
  pub descend : (ps : List (Point C)) (p : Point C) → (m : Point C) × ((m ≡ p) ⊎ In m ps) × (no_worse K m p ≡ true) × Best K ps m
  descend [] p = (p, inl refl, no_worse_refl p, λ q i. elim i [ ])
  descend (q ∷ ps) p = go (descend ps p)
    where
      Goal : Type 0
      Goal = (m : Point C) × ((m ≡ p) ⊎ In m (q ∷ ps)) × (no_worse K m p ≡ true) × Best K (q ∷ ps) m

      go : (m : Point C) × ((m ≡ p) ⊎ In m ps) × (no_worse K m p ≡ true) × Best K ps m → Goal
      go r = pick (no_worse K q r.0) refl
        where
          pick : (b : Bool) → no_worse K q r.0 ≡ b → Goal
          pick true t = (
            q,
            inr (here refl),
            no_worse_trans q r.0 p t r.2,
            λ x i h. elim (of_cons i) [
              | inl e ↦ e
              | inr j ↦
                  let e : x ≡ r.0 = r.3 x j (no_worse_trans x q r.0 h t) in
                  no_worse_antisym x q h (subst (λ (y : Point C). no_worse K q y ≡ true) (sym e) t)
            ],
          )
          pick false t = (
            r.0,
            elim r.1 [ inl e ↦ inl e | inr j ↦ inr (later j) ],
            r.2,
            λ x i h. elim (of_cons i) [
              | inl e ↦
                  absurd (both_ways _ t (subst (λ (y : Point C). no_worse K y r.0 ≡ true) e h))
              | inr j ↦ r.3 x j h
            ],
          )

  -- two best points of one length are one
  best_apart : (ps : List (Point C)) → Apart (filter (unbeaten K ps) ps)
  best_apart ps p q i j e =
      let k = of_kept_by (unbeaten K ps) ps i in
      let l = of_kept_by (unbeaten K ps) ps j in
      elim (L.total p.cost q.cost) [
        | inl t ↦ best_of_unbeaten ps q l.1 p k.0 (no_worse_from p q (omega arith) t)
        | inr t ↦ sym (best_of_unbeaten ps p k.1 q l.0 (no_worse_from q p (omega arith) t))
      ]

  pub in_front : (ps : List (Point C)) (p : Point C) → In p ps → Best K ps p → In p (front_of K ps)
  in_front ps p i b = in_rising (filter (unbeaten K ps) ps) (best_apart ps) (in_kept_by (unbeaten K ps) i (unbeaten_of_best ps p b))

  pub of_front : (ps : List (Point C)) (p : Point C) → In p (front_of K ps) → In p ps × Best K ps p
  of_front ps p i = let k = of_kept_by (unbeaten K ps) ps (of_rising (filter (unbeaten K ps) ps) i) in (k.0, best_of_unbeaten ps p k.1)

  pub front_covers : (ps : List (Point C)) → Covers K (front_of K ps) ps
  front_covers ps p i = let d = descend ps p in
      (d.0, in_front ps d.0 (elim d.1 [ inl e ↦ subst (λ (x : Point C). In x ps) (sym e) i | inr j ↦ j ]) d.3, d.2)

  -- points below each point of either list
  pub covers_of_front : (ps qs : List (Point C)) → front_of K ps ≡ front_of K qs → Covers K qs ps
  covers_of_front ps qs e p i =
      let r = front_covers ps p i in
      (r.0, (of_front qs r.0 (subst (λ (f : List (Point C)). In r.0 f) e r.1)).0, r.2)

  best_moves : (ps qs : List (Point C)) → Covers K qs ps → Covers K ps qs → (p : Point C) → In p ps → Best K ps p → In p qs × Best K qs p
  best_moves ps qs f g p i b =
      let r = f p i in
      (subst (λ (x : Point C). In x qs) (back r.0 r.1 r.2) r.1, back)
    where
      back : Best K qs p
      back q j h =
          let s = g q j in
          let e : s.0 ≡ p = b s.0 s.1 (no_worse_trans s.0 q p s.2 h) in
          no_worse_antisym q p h (subst (λ (x : Point C). no_worse K x q ≡ true) e s.2)

  pub front_of_covers : (ps qs : List (Point C)) → Covers K qs ps → Covers K ps qs → front_of K ps ≡ front_of K qs
  front_of_covers ps qs f g = same_list (front_of K ps) (front_of K qs) (rising (filter (unbeaten K ps) ps)) (rising (filter (unbeaten K qs) qs))
      (λ x i. let a = of_front ps x i in let b = best_moves ps qs f g x a.0 a.1 in in_front qs x b.0 b.1)
      (λ x i. let a = of_front qs x i in let b = best_moves qs ps g f x a.0 a.1 in in_front ps x b.0 b.1)
