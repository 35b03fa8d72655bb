-- The better bargain of two sheets: in words, and on their fronts
use Rattle.std.proofs.Common.{◌≡◌, ◌<◌, Bool, true, false, cond, ◌⊎◌, ◌↔◌, List, [], ◌∷◌, Some, None, filter, Option, sym, refl, ap, ◌∙◌, subst, ap₂, inl, inr, le_antisymm, arith}
use Rattle.std.proofs.lemmas.Bool.{both_ways, cases_Bool, cases_lt, not-true, not_from_false}
use Rattle.costs.specs.Kind.{Kind, Laws}
use Rattle.tariffs.specs.Meaning.{Meaning, Ranged}
use Rattle.sheets.specs.Book.{Book}
use Rattle.model.specs.declared.point.Point.{Point}
use Rattle.model.specs.declared.better.Better.{Better}
use Rattle.model.specs.declared.better.Better.TheVariants.{First, Second}
use Rattle.model.specs.Lists.{In, here, later, any, least}
use Rattle.model.specs.Assignment.{standing, pairs}
use Rattle.model.specs.Front.{no_worse, unbeaten, front_of, front, Rising}
use Rattle.model.specs.Limit.{shorter_then_cheaper}
use Rattle.model.specs.Better.{is_unmatched, sooner, best_unmatched, better, Unmatched, IsBetter, first_difference, BetterBargainsAreShown}
use Rattle.model.proofs.Lists.{of_cons, in_kept_by, of_kept_by, any_false, any_absent, of_any}
use Rattle.model.proofs.Leasts.{Least, least_is, least_unique, least_none}
use Rattle.model.proofs.Assignments.{in_pairs, of_pairs}
use Rattle.model.proofs.Fronts.{Covers, Best, no_worse_from, no_longer, no_dearer, no_worse_refl, no_worse_trans, in_front, of_front, front_covers, covers_of_front, front_of_covers, rising}
use Rattle.model.proofs.Limits.{least_of_covers, shorter_from, shorter_parts, shorter_first, shorter_long}
use Rattle.model.proofs.Bargains.{covers_of_matched, matched_of_covers}

module _ {C : Type 0} {K : Kind C} (L : Laws K) where
  -- none of the others is no worse than p
  abbrev NoneAsGood : List (Point C) → Point C → Type 0
  NoneAsGood qs p = (q : Point C) → In q qs → no_worse K q p ≡ true → ⊥

  -- those of the second list that none of the first is as good as
  abbrev unmatched : List (Point C) → List (Point C) → List (Point C)
  unmatched qs ps = filter (is_unmatched K qs) ps

  in_unmatched : {qs ps : List (Point C)} {p : Point C} → In p ps → NoneAsGood qs p → In p (unmatched qs ps)
  in_unmatched {qs} {ps} {p} i h = in_kept_by (is_unmatched K qs) i (not_from_false _ (any_absent (λ q. no_worse K q p) qs (λ q j. elim (cases_Bool (no_worse K q p)) [ inl t ↦ absurd (h q j t) | inr f ↦ f ])))

  of_unmatched : (qs ps : List (Point C)) {p : Point C} → In p (unmatched qs ps) → In p ps × NoneAsGood qs p
  of_unmatched qs ps {p} i =
      let k = of_kept_by (is_unmatched K qs) ps i in
      (k.0, λ q j t. both_ways _ (any_false (λ x. no_worse K x p) (not-true _ k.1) j) t)

  -- the shortest of a list, and of that length the cheapest
  abbrev best : List (Point C) → Option (Point C)
  best ps = least (shorter_then_cheaper K) ps

  best_is : (ps : List (Point C)) (p : Point C) → best ps ≡ Some p → In p ps × ((x : Point C) → In x ps → shorter_then_cheaper K p x ≡ true)
  best_is ps p e = subst (Least (shorter_first L).order ps) e (least_is (shorter_first L).order ps)

  not_later : (p q : Point C) → shorter_then_cheaper K q p ≡ false → shorter_then_cheaper K p q ≡ true
  not_later p q f = elim ((shorter_first L).order.total p q) [ inl t ↦ t | inr t ↦ absurd (both_ways _ f t) ]

  -- the fronts show it
  best_of_fronts : (ps qs : List (Point C)) → best (unmatched (front_of K qs) (front_of K ps)) ≡ best (unmatched qs ps)
  best_of_fronts ps qs = least_of_covers (shorter_first L) _ _ up down
    where
      up : Covers K (unmatched qs ps) (unmatched (front_of K qs) (front_of K ps))
      up p i =
          let k = of_unmatched (front_of K qs) (front_of K ps) i in
          let none : NoneAsGood qs p = λ q j t. let f = front_covers L qs q j in k.1 f.0 f.1 (no_worse_trans L f.0 q p f.2 t) in
          (p, in_unmatched (of_front L ps p k.0).0 none, no_worse_refl L p)

      down : Covers K (unmatched (front_of K qs) (front_of K ps)) (unmatched qs ps)
      down p i =
          let k = of_unmatched qs ps i in
          let f = front_covers L ps p k.0 in
          let none : NoneAsGood (front_of K qs) f.0 = λ q j t. k.1 q (of_front L qs q j).0 (no_worse_trans L q f.0 p t f.2) in
          (f.0, in_unmatched f.1 none, f.2)

  -- along the list lengths rise, and no point is as good as a later one
  abbrev Steps : List (Point C) → Type 0
  Steps [] = Unit {0}
  Steps (p ∷ ps) = ((q : Point C) → In q ps → (p.length < q.length) × (no_worse K p q ≡ true → ⊥)) × Steps ps

  steps_from : (ps : List (Point C)) → Rising ps → ((p q : Point C) → In p ps → In q ps → no_worse K p q ≡ true → p ≡ q) → Steps ps
  steps_from [] r h = tt
  steps_from (p ∷ ps) r h = (
    (λ q i.
        let longer = r.0 q i in
        (longer, λ t. let e : p.length ≡ q.length = ap (λ (x : Point C). x.length) (h p q (here refl) (later i) t) in absurd (omega arith))),
    steps_from ps r.1 (λ x y i j. h x y (later i) (later j)),
  )

  front_steps : (ps : List (Point C)) → Steps (front_of K ps)
  front_steps ps = steps_from (front_of K ps) (rising (filter (unbeaten K ps) ps)) (λ p q i j t. (of_front L ps q j).1 p (of_front L ps p i).0 t)

  -- where the heads differ, the one that comes first is the best unmatched of its list, and comes before all of the other
  module _ (p : Point C) (ps : List (Point C)) (s : Steps (p ∷ ps)) where
    best_of_head : (qs : List (Point C)) → NoneAsGood qs p → best (unmatched qs (p ∷ ps)) ≡ Some p
    best_of_head qs none = least_unique (shorter_first L).order (unmatched qs (p ∷ ps)) p (in_unmatched (here refl) none) (λ x i. elim (of_cons (of_unmatched qs (p ∷ ps) i).0) [
      | inl e ↦ (shorter_first L).agrees p x (subst (λ (y : Point C). no_worse K p y ≡ true) (sym e) (no_worse_refl L p))
      | inr j ↦ shorter_from L p x (inl (s.0 x j).0)
    ])

    module _ (q : Point C) (qs : List (Point C)) (t : Steps (q ∷ qs)) (sooner_head : shorter_then_cheaper K q p ≡ false) where
      others_later : (g : Point C) → In g (q ∷ qs) → shorter_then_cheaper K g p ≡ false
      others_later g i = elim (of_cons i) [
        | inl e ↦ subst (λ (x : Point C). shorter_then_cheaper K x p ≡ false) (sym e) sooner_head
        | inr j ↦ elim (cases_Bool (shorter_then_cheaper K g p)) [
          | inl b ↦ (let short = shorter_long L g p b in
              let long = shorter_long L p q (not_later p q sooner_head) in
              let longer = (t.0 g j).0 in
              absurd (omega arith))
          | inr f ↦ f
        ]
      ]

      head_is_best : best (unmatched (q ∷ qs) (p ∷ ps)) ≡ Some p
      head_is_best = best_of_head (q ∷ qs) (λ g i b. both_ways _ (others_later g i) ((shorter_first L).agrees g p b))

  -- a common head is matched, and matches no other
  best_of_tails : (p : Point C) (ps qs : List (Point C)) → Steps (p ∷ ps) → best (unmatched (p ∷ qs) (p ∷ ps)) ≡ best (unmatched qs ps)
  best_of_tails p ps qs s = least_of_covers (shorter_first L) _ _ up down
    where
      up : Covers K (unmatched qs ps) (unmatched (p ∷ qs) (p ∷ ps))
      up x i =
          let k = of_unmatched (p ∷ qs) (p ∷ ps) i in
          elim (of_cons k.0) [
            | inl e ↦ absurd (k.1 p (here refl) (subst (λ (y : Point C). no_worse K p y ≡ true) (sym e) (no_worse_refl L p)))
            | inr j ↦ (x, in_unmatched j (λ q l. k.1 q (later l)), no_worse_refl L x)
          ]

      down : Covers K (unmatched (p ∷ qs) (p ∷ ps)) (unmatched qs ps)
      down x i =
          let k = of_unmatched qs ps i in
          let none : NoneAsGood (p ∷ qs) x = λ q j b. elim (of_cons j) [ inl e ↦ (s.0 x k.0).1 (subst (λ (y : Point C). no_worse K y x ≡ true) e b) | inr l ↦ k.1 q l b ] in
          (x, in_unmatched (later k.0) none, no_worse_refl L x)

  first_sooner : (o u : Option (Point C)) (p : Point C) → o ≡ Some p → ((q : Point C) → u ≡ Some q → shorter_then_cheaper K q p ≡ false) → sooner K o u ≡ Some (First p)
  first_sooner None u p e h = cc
  first_sooner (Some x) None p e h = cc
  first_sooner (Some x) (Some q) p e h =
      let same : x ≡ p = cc in
      rw (same, not_later p q (h q refl)) refl

  second_sooner : (o u : Option (Point C)) (q : Point C) → u ≡ Some q → ((p : Point C) → o ≡ Some p → shorter_then_cheaper K p q ≡ false) → sooner K o u ≡ Some (Second q)
  second_sooner o None q e h = cc
  second_sooner None (Some x) q e h = cc
  second_sooner (Some p) (Some x) q e h =
      let same : x ≡ q = cc in
      rw (same, h p refl) refl

  -- what stands where fronts first differ
  pub where_they_differ : (ps qs : List (Point C)) → Steps ps → Steps qs → sooner K (best (unmatched qs ps)) (best (unmatched ps qs)) ≡ first_difference K ps qs
  where_they_differ [] [] s t = refl
  where_they_differ [] (q ∷ qs) s t = second_sooner None (best (unmatched [] (q ∷ qs))) q (best_of_head q qs t [] (λ g i. elim i [ ])) (λ p e. cc)
  where_they_differ (p ∷ ps) [] s t = first_sooner (best (unmatched [] (p ∷ ps))) None p (best_of_head p ps s [] (λ g i. elim i [ ])) (λ q e. cc)
  where_they_differ (p ∷ ps) (q ∷ qs) s t = go (where_they_differ ps qs s.1 t.1) (shorter_then_cheaper K p q) refl (shorter_then_cheaper K q p) refl
    where
      mine : Option (Point C)
      mine = best (unmatched (q ∷ qs) (p ∷ ps))

      yours : Option (Point C)
      yours = best (unmatched (p ∷ ps) (q ∷ qs))

      go : sooner K (best (unmatched qs ps)) (best (unmatched ps qs)) ≡ first_difference K ps qs → (a : Bool) → shorter_then_cheaper K p q ≡ a → (b : Bool) → shorter_then_cheaper K q p ≡ b
          → sooner K mine yours ≡ cond a (cond b (first_difference K ps qs) (Some (First p))) (Some (Second q))
      go ih true e true f =
          let same : p ≡ q = (shorter_first L).order.antisym p q e f in
          ap₂ (sooner K)
          (subst (λ (x : Point C). best (unmatched (x ∷ qs) (p ∷ ps)) ≡ best (unmatched qs ps)) same (best_of_tails p ps qs s))
          (subst (λ (x : Point C). best (unmatched (x ∷ ps) (q ∷ qs)) ≡ best (unmatched ps qs)) (sym same) (best_of_tails q qs ps t))
          ∙ ih
      go ih true e false f = first_sooner mine yours p (head_is_best p ps s q qs t f) (λ g h. others_later p ps s q qs t f g (of_unmatched (p ∷ ps) (q ∷ qs) (best_is _ g h).0).0)
      go ih false e b f = second_sooner mine yours q (head_is_best q qs t p ps s e) (λ g h. others_later q qs t p ps s e g (of_unmatched (q ∷ qs) (p ∷ ps) (best_is _ g h).0).0)

  first_parts : (o u : Option (Point C)) (p : Point C) → sooner K o u ≡ Some (First p) → (o ≡ Some p) × ((q : Point C) → u ≡ Some q → shorter_then_cheaper K p q ≡ true)
  first_parts None None p e = cc
  first_parts None (Some x) p e = cc
  first_parts (Some x) None p e = let same : x ≡ p = cc in (ap Some same, λ q f. cc)
  first_parts (Some x) (Some y) p e = go (shorter_then_cheaper K x y) refl e
    where
      go : (b : Bool) → shorter_then_cheaper K x y ≡ b → ◌≡◌ {A = Option (Better C)} (Some (cond b (First x) (Second y))) (Some (First p)) → (◌≡◌ {A = Option (Point C)} (Some x) (Some p)) × ((q : Point C) → Some y ≡ Some q → shorter_then_cheaper K p q ≡ true)
      go true t e = let same : x ≡ p = cc in (ap Some same, λ q f. let also : y ≡ q = cc in rw (sym same, sym also) t)
      go false t e = cc

  second_parts : (o u : Option (Point C)) (q : Point C) → sooner K o u ≡ Some (Second q) → (u ≡ Some q) × ((p : Point C) → o ≡ Some p → shorter_then_cheaper K q p ≡ true)
  second_parts None None q e = cc
  second_parts (Some x) None q e = cc
  second_parts None (Some y) q e = let same : y ≡ q = cc in (ap Some same, λ p f. cc)
  second_parts (Some x) (Some y) q e = go (shorter_then_cheaper K x y) refl e
    where
      go : (b : Bool) → shorter_then_cheaper K x y ≡ b → ◌≡◌ {A = Option (Better C)} (Some (cond b (First x) (Second y))) (Some (Second q)) → (◌≡◌ {A = Option (Point C)} (Some y) (Some q)) × ((p : Point C) → Some x ≡ Some p → shorter_then_cheaper K q p ≡ true)
      go true t e = cc
      go false t e = let same : y ≡ q = cc in (ap Some same, λ p f. let also : x ≡ p = cc in rw (sym same, sym also) (not_later y x t))

  none_parts : (o u : Option (Point C)) → (sooner K o u ≡ None) ↔ ((o ≡ None) × (u ≡ None))
  none_parts None None = ((λ e. (refl, refl)), λ h. refl)
  none_parts None (Some y) = ((λ e. cc), λ h. let e = h.1 in cc)
  none_parts (Some x) None = ((λ e. cc), λ h. let e = h.0 in cc)
  none_parts (Some x) (Some y) = ((λ e. cc), λ h. let e = h.0 in cc)

  -- no pair of the second list is unmatched exactly when the first covers it
  covers_unless_unmatched : (qs ps : List (Point C)) → (best (unmatched qs ps) ≡ None) ↔ Covers K qs ps
  covers_unless_unmatched qs ps =
      let none = least_none (shorter_first L).order (unmatched qs ps) in (
        (λ e p i. elim (cases_Bool (any (λ q. no_worse K q p) qs)) [
          | inl t ↦ of_any (λ q. no_worse K q p) qs t
          | inr f ↦ absurd (none.0 e p (in_kept_by (is_unmatched K qs) i (not_from_false _ f)))
        ]),
        (λ c. none.1 (λ p i. let k = of_unmatched qs ps i in let r = c p k.0 in k.1 r.0 r.1 r.2)),
      )

  -- the words on two books
  module _ (T : Meaning C) (F : Ranged T) (first : Book) (U : Meaning C) (G : Ranged U) (second : Book) where
    abbrev ps : List (Point C)
    ps = pairs K T (standing first)

    abbrev qs : List (Point C)
    qs = pairs K U (standing second)

    of_words : (p : Point C) → Unmatched K T first U second p → In p (unmatched qs ps)
    of_words p u = in_unmatched (in_pairs K T (standing first) F p u.0) (λ q j t. u.1 q (of_pairs K U (standing second) q j) (no_longer L q p t) (no_dearer L q p t))

    to_words : (p : Point C) → In p (unmatched qs ps) → Unmatched K T first U second p
    to_words p i =
        let k = of_unmatched qs ps i in
        (of_pairs K T (standing first) p k.0, λ q h l d. k.1 q (in_pairs K U (standing second) G q h) (no_worse_from L q p l d))

    -- nothing is as good as the best of those that are unmatched
    best_on_front : (p : Point C) → best_unmatched K T first U second ≡ Some p → In p (front K T first)
    best_on_front p e = in_front L ps p (of_unmatched qs ps least.0).0 alone
      where
        least : In p (unmatched qs ps) × ((x : Point C) → In x (unmatched qs ps) → shorter_then_cheaper K p x ≡ true)
        least = best_is _ p e

        alone : Best K ps p
        alone x i t =
            let none : NoneAsGood qs x = λ q j b. (of_unmatched qs ps least.0).1 q j (no_worse_trans L q x p b t) in
            (shorter_first L).order.antisym x p ((shorter_first L).agrees x p t) (least.1 x (in_unmatched i none))

  module _ (T : Meaning C) (F : Ranged T) (first : Book) (U : Meaning C) (G : Ranged U) (second : Book) where
    is_better : (p : Point C) → best_unmatched K T first U second ≡ Some p → ((q : Point C) → best_unmatched K U second T first ≡ Some q → shorter_then_cheaper K p q ≡ true) → IsBetter K T first U second p
    is_better p e h = record {
      unmatched = unmatched_p;
      shortest = λ q u. shorter_long L p q (least q u);
      cheapest = λ q u l. elim (shorter_parts L p q (least q u)) [ inl s ↦ absurd (omega arith) | inr d ↦ d.1 ];
      second_longer = λ q u. longer q u (best_unmatched K U second T first) refl (least_is (shorter_first L).order (unmatched (ps T F first U G second) (qs T F first U G second)));
      on_front = best_on_front T F first U G second p e;
    }
      where
        unmatched_p : Unmatched K T first U second p
        unmatched_p = to_words T F first U G second p (best_is _ p e).0

        least : (q : Point C) → Unmatched K T first U second q → shorter_then_cheaper K p q ≡ true
        least q u = (best_is _ p e).1 q (of_words T F first U G second q u)

        longer : (q : Point C) → Unmatched K U second T first q → (o : Option (Point C)) → best_unmatched K U second T first ≡ o → Least (shorter_first L).order (unmatched (ps T F first U G second) (qs T F first U G second)) o → p.length < q.length
        longer q u None f k = absurd (k q (of_words U G second T F first q u))
        longer q u (Some r) f k = elim (shorter_parts L p q ((shorter_first L).order.trans p r q (h r f) (k.1 q (of_words U G second T F first q u)))) [
          | inl l ↦ l
          | inr d ↦ absurd (u.1 p unmatched_p.0 (omega (arith, d.0)) d.1)
        ]

    better_is : (p : Point C) → IsBetter K T first U second p → (best_unmatched K T first U second ≡ Some p) × ((q : Point C) → best_unmatched K U second T first ≡ Some q → shorter_then_cheaper K q p ≡ false)
    better_is p w = (
      least_unique (shorter_first L).order _ p (of_words T F first U G second p w.unmatched) (λ x i. shorter_from L p x (before x (to_words T F first U G second x i))),
      (λ q e. elim (cases_Bool (shorter_then_cheaper K q p)) [
        | inl t ↦ (let short = shorter_long L q p t in
            let long = w.second_longer q (to_words U G second T F first q (best_is _ q e).0) in
            absurd (omega arith))
        | inr f ↦ f
      ]),
    )
      where
        before : (x : Point C) → Unmatched K T first U second x → (p.length < x.length) ⊎ ((p.length ≡ x.length) × (K.at_most p.cost x.cost ≡ true))
        before x u = elim (cases_lt p.length x.length) [
          | inl l ↦ inl l
          | inr l ↦ let e : p.length ≡ x.length = le_antisymm (w.shortest x u) l in inr (e, w.cheapest x u (sym e))
        ]

    none_better : (Covers K (pairs K U (standing second)) (pairs K T (standing first)) × Covers K (pairs K T (standing first)) (pairs K U (standing second))) ↔ (better K T first U second ≡ None)
    none_better =
        let parts = none_parts (best_unmatched K T first U second) (best_unmatched K U second T first) in
        let one = covers_unless_unmatched (pairs K U (standing second)) (pairs K T (standing first)) in
        let two = covers_unless_unmatched (pairs K T (standing first)) (pairs K U (standing second)) in
        ((λ c. parts.1 (one.1 c.0, two.1 c.1)), λ e. (one.0 (parts.0 e).0, two.0 (parts.0 e).1))

  better_on_fronts : (T U : Meaning C) (first second : Book) → better K T first U second ≡ first_difference K (front K T first) (front K U second)
  better_on_fronts T U first second =
      let ps = pairs K T (standing first) in
      let qs = pairs K U (standing second) in
      ap₂ (sooner K) (sym (best_of_fronts ps qs)) (sym (best_of_fronts qs ps)) ∙ where_they_differ (front_of K ps) (front_of K qs) (front_steps ps) (front_steps qs)

  pub better_bargains_are_shown : BetterBargainsAreShown K
  better_bargains_are_shown T U F G first second = record {
    first_has = λ p. (
      (λ w. let is = better_is T F first U G second p w in first_sooner _ _ p is.0 is.1),
      (λ e. let parts = first_parts (best_unmatched K T first U second) _ p e in is_better T F first U G second p parts.0 parts.1),
    );
    second_has = λ p. (
      (λ w. let is = better_is U G second T F first p w in second_sooner _ _ p is.0 is.1),
      (λ e. let parts = second_parts (best_unmatched K T first U second) _ p e in is_better U G second T F first p parts.0 parts.1),
    );
    matched = (
      (λ m. none.0 (covers_of_matched L T U G first second m.0, covers_of_matched L U T F second first m.1)),
      (λ e. let c = none.1 e in (matched_of_covers L T U F first second c.0, matched_of_covers L U T G second first c.1)),
    );
    equal_fronts = (
      (λ e. none.0 (covers_of_front L _ _ e, covers_of_front L _ _ (sym e))),
      (λ e. let c = none.1 e in front_of_covers L _ _ c.0 c.1),
    );
    where_fronts_differ = better_on_fronts T U first second;
  }
    where
      none : (Covers K (pairs K U (standing second)) (pairs K T (standing first)) × Covers K (pairs K T (standing first)) (pairs K U (standing second))) ↔ (better K T first U second ≡ None)
      none = none_better T F first U G second
