-- The cheapest quote within an allowance, and what a loop over tasks joins to a stage's cost
use Rattle.std.proofs.Common.{◌≡◌, ℕ, zero, suc, ◌<◌, ◌≤◌, Bool, true, false, cond, leb, ◌⊎◌, Some, None, Option, sym, refl, ap, ◌∙◌, subst, inl, inr, le_antisymm, arith}
use Rattle.std.proofs.lemmas.Bool.{both_ways, leb-true, leb-false, cases_lt}
use Rattle.costs.specs.Kind.{Kind, Laws}
use Rattle.tariffs.specs.Meaning.{Meaning, Ranged}
use Rattle.tariffs.specs.declared.quote.Quote.{Quote}
use Rattle.sheets.specs.declared.task.Task.{Task}
use Rattle.model.specs.declared.choice.Choice.{Choice}
use Rattle.model.specs.Assignment.{quote_of}
use Rattle.model.specs.Allowance.{cheaper_choice, choice_within, cheapest_below, cheapest, IsCheapest, NoneWithin, CheapestIsCheapest, CheapestInWords}
use Rattle.model.proofs.Assignments.{below_count}
use Rattle.model.proofs.LeastCosts.{at_most_refl}

module _ {C : Type 0} {K : Kind C} (L : Laws K) (T : Meaning C) where
  -- what the search over the machines below n holds
  abbrev Chosen : Task → ℕ → ℕ → Option (Choice C) → Type 0
  Chosen w a n None = (m : ℕ) (q : Quote C) → m < n → quote_of T w m ≡ Some q → q.minutes ≤ a → ⊥
  Chosen w a n (Some r) = (r.machine < n) × (q : Quote C) × (quote_of T w r.machine ≡ Some q) × (q.minutes ≤ a) × (q.cost ≡ r.cost)
      × ((m : ℕ) (v : Quote C) → m < n → quote_of T w m ≡ Some v → v.minutes ≤ a → (K.at_most r.cost v.cost ≡ true) × (v.cost ≡ r.cost → r.machine ≤ m))

  chosen : (w : Task) (a n : ℕ) → Chosen w a n (cheapest_below K T w a n)
  chosen w a zero = λ m q l. absurd (omega arith)
  chosen w a (suc n) = go (cheapest_below K T w a n) (chosen w a n) (quote_of T w n) refl
    where
      last : (m : ℕ) → m < suc n → (m < n) ⊎ (m ≡ n)
      last m l = elim (cases_lt m n) [ inl k ↦ inl k | inr k ↦ inr (omega arith) ]

      same : (q : Quote C) → quote_of T w n ≡ Some q → (m : ℕ) (v : Quote C) → m ≡ n → quote_of T w m ≡ Some v → q ≡ v
      same q e m v g f = let f' = subst (λ (i : ℕ). quote_of T w i ≡ Some v) g f in cc

      -- machine n has no quote within a
      skip : (r : Option (Choice C)) → Chosen w a n r → ((v : Quote C) → quote_of T w n ≡ Some v → v.minutes ≤ a → ⊥) → Chosen w a (suc n) (cheaper_choice K r None)
      skip None h no_n = λ m q l e k. elim (last m l) [ inl g ↦ h m q g e k | inr g ↦ no_n q (subst (λ (i : ℕ). quote_of T w i ≡ Some q) g e) k ]
      skip (Some r) h no_n = (omega (arith, h.0), h.1, h.2, h.3, h.4, λ m v l e k. elim (last m l) [ inl g ↦ h.5 m v g e k | inr g ↦ absurd (no_n v (subst (λ (i : ℕ). quote_of T w i ≡ Some v) g e) k) ])

      -- machine n has one
      take : (q : Quote C) → quote_of T w n ≡ Some q → q.minutes ≤ a → (r : Option (Choice C)) → Chosen w a n r → Chosen w a (suc n) (cheaper_choice K r (Some (record { machine = n; cost = q.cost })))
      take q e k None h = (
        omega arith,
        q,
        e,
        k,
        refl,
        λ m v l f i. elim (last m l) [
          | inl g ↦ absurd (h m v g f i)
          | inr g ↦ (subst (λ (x : Quote C). K.at_most q.cost x.cost ≡ true) (same q e m v g f) (at_most_refl L q.cost), λ _. omega arith)
        ],
      )
      take q e k (Some r) h = pick (K.at_most r.cost q.cost) refl
        where
          pick : (x : Bool) → K.at_most r.cost q.cost ≡ x → Chosen w a (suc n) (cond x (Some r) (Some (record { machine = n; cost = q.cost })))
          pick true t = (
            omega (arith, h.0),
            h.1,
            h.2,
            h.3,
            h.4,
            λ m v l f i. elim (last m l) [
              | inl g ↦ h.5 m v g f i
              | inr g ↦ (subst (λ (y : Quote C). K.at_most r.cost y.cost ≡ true) (same q e m v g f) t, λ _. omega (arith, h.0))
            ],
          )
          pick false t = (
            omega arith,
            q,
            e,
            k,
            refl,
            λ m v l f i. elim (last m l) [
              | inl g ↦ (let c = (h.5 m v g f i).0 in (
                L.transitive _ _ _ (elim (L.total r.cost q.cost) [ inl y ↦ absurd (both_ways _ t y) | inr y ↦ y ]) c,
                λ s. absurd (both_ways _ t (subst (λ (z : C). K.at_most r.cost z ≡ true) s c)),
              ))
              | inr g ↦ (subst (λ (y : Quote C). K.at_most q.cost y.cost ≡ true) (same q e m v g f) (at_most_refl L q.cost), λ _. omega arith)
            ],
          )

      go : (r : Option (Choice C)) → Chosen w a n r → (o : Option (Quote C)) → quote_of T w n ≡ o → Chosen w a (suc n) (cheaper_choice K r (choice_within a n o))
      go r h None e = skip r h (λ v f k. cc)
      go r h (Some q) e = at (leb q.minutes a) refl
        where
          at : (x : Bool) → leb q.minutes a ≡ x → Chosen w a (suc n) (cheaper_choice K r (cond x (Some (record { machine = n; cost = q.cost })) None))
          at true t = take q e (leb-true _ _ t) r h
          at false t = skip r h (λ v f k. let s : q ≡ v = cc in let d : q.minutes ≡ v.minutes = ap (λ (y : Quote C). y.minutes) s in omega (arith, leb-false _ _ t))

  module _ (F : Ranged T) where
    pub some_cheapest : (task : Task) (a : ℕ) (choice : Choice C) → cheapest K T task a ≡ Some choice → IsCheapest K T task a choice
    some_cheapest task a choice e =
        let h : Chosen task a T.count (Some choice) = subst (Chosen task a T.count) e (chosen task a T.count) in
        record {
          quote = h.1;
          quoted = h.2;
          allowed = h.3;
          price = h.4;
          least = λ n v f i. (h.5 n v (below_count T F task n v f) f i).0;
          lowest = λ n v f i s. (h.5 n v (below_count T F task n v f) f i).1 s;
        }

    pub none_within : (task : Task) (a : ℕ) → cheapest K T task a ≡ None → NoneWithin T task a
    none_within task a e m q f =
        let h : Chosen task a T.count None = subst (Chosen task a T.count) e (chosen task a T.count) in
        elim (cases_lt a q.minutes) [ inl l ↦ l | inr l ↦ absurd (h m q (below_count T F task m q f) f l) ]

    same_choice : (task : Task) (a : ℕ) (x y : Choice C) → IsCheapest K T task a x → IsCheapest K T task a y → x ≡ y
    same_choice task a x y h k = λ i. record { machine = m i; cost = c i }
      where
        c : x.cost ≡ y.cost
        c = L.antisymmetric _ _
            (subst (λ (z : C). K.at_most x.cost z ≡ true) k.price (h.least y.machine k.quote k.quoted k.allowed))
            (subst (λ (z : C). K.at_most y.cost z ≡ true) h.price (k.least x.machine h.quote h.quoted h.allowed))

        m : x.machine ≡ y.machine
        m = le_antisymm (h.lowest y.machine k.quote k.quoted k.allowed (k.price ∙ sym c)) (k.lowest x.machine h.quote h.quoted h.allowed (h.price ∙ c))

    cases_cheapest : (task : Task) (a : ℕ) → ((choice : Choice C) × (cheapest K T task a ≡ Some choice)) ⊎ (cheapest K T task a ≡ None)
    cases_cheapest task a = go (cheapest K T task a)
      where
        go : (o : Option (Choice C)) → ((choice : Choice C) × (o ≡ Some choice)) ⊎ (o ≡ None)
        go None = inr refl
        go (Some choice) = inl (choice, refl)

  pub cheapest_in_words : (F : Ranged T) → CheapestInWords K T
  cheapest_in_words F = record {
    some = λ task a choice. (
      (λ h. elim (cases_cheapest F task a) [
        | inl s ↦ s.1 ∙ ap Some (same_choice F task a s.0 choice (some_cheapest F task a s.0 s.1) h)
        | inr e ↦ let l = none_within F task a e choice.machine h.quote h.quoted in let k = h.allowed in absurd (omega arith)
      ]),
      some_cheapest F task a choice,
    );
    none = λ task a. (
      (λ h. elim (cases_cheapest F task a) [
        | inl s ↦ let k = some_cheapest F task a s.0 s.1 in let l = h s.0.machine k.quote k.quoted in let u = k.allowed in absurd (omega arith)
        | inr e ↦ e
      ]),
      none_within F task a,
    );
  }

pub cheapest_is_cheapest : {C : Type 0} {K : Kind C} → Laws K → CheapestIsCheapest K
cheapest_is_cheapest L T F = cheapest_in_words L T F
