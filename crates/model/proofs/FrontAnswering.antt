-- The front decides every limit
use Rattle.std.proofs.Common.{◌≡◌, ℕ, ◌≤◌, true, ◌⊎◌, ◌↔◌, Some, None, Ok, Err, Option, sym, refl, ap, subst, inl, inr, le_trans, arith}
use Rattle.std.proofs.lemmas.Bool.{both_ways, cases_Bool, cases_lt}
use Rattle.refusals.specs.Answer.{Answer, plain, carrying}
use Rattle.costs.specs.Kind.{Kind, Laws}
use Rattle.tariffs.specs.Meaning.{Meaning, Ranged}
use Rattle.sheets.specs.Book.{Book}
use Rattle.sheets.specs.History.{Sound, book_after}
use Rattle.sheets.proofs.Histories.{book_sound}
use Rattle.model.specs.declared.point.Point.{Point}
use Rattle.model.specs.Lists.{In}
use Rattle.model.specs.Assignment.{standing, pairs, HasAssignment, HasPair, Unquoted}
use Rattle.model.specs.Front.{front}
use Rattle.model.specs.Limit.{lowest_unquoted, IsBudget, IsDeadline, IsLowestUnquoted, LimitsInWords}
use Rattle.model.specs.FrontAnswers.{WithinBudget, WithinDeadline, IsFirstWithin, IsLastWithin, NoPointWithin, PointBelowEachPair, FrontDecides, FrontsAnswerLimits}
use Rattle.model.proofs.Assignments.{in_pairs, of_pairs}
use Rattle.model.proofs.Fronts.{no_worse_from, no_longer, no_dearer, in_front, of_front, front_covers}
use Rattle.model.proofs.LeastCosts.{at_most_refl}
use Rattle.model.proofs.LimitsInWords.{limits_give_best_pairs}
use Rattle.model.proofs.Plans.{budget_best, deadline_best}
use Rattle.model.proofs.Unquoted.{all_quoted}
use Rattle.model.proofs.Assigned.{assigned, lowest_of_none, none_assigned}

module _ {C : Type 0} {K : Kind C} (L : Laws K) (T : Meaning C) (F : Ranged T) (b : Book) where
  abbrev On : Point C → Type 0
  On p = In p (front K T b)

  abbrev Has : Point C → Type 0
  Has p = HasPair K T (standing b) p

  pub below : PointBelowEachPair K T b (front K T b)
  below q h =
      let d = front_covers L (pairs K T (standing b)) q (in_pairs K T (standing b) F q h) in
      (d.0, d.1, no_longer L d.0 q d.2, no_dearer L d.0 q d.2)

  of_on : (p : Point C) → On p → Has p
  of_on p i = of_pairs K T (standing b) p (of_front L (pairs K T (standing b)) p i).0

  -- nothing but a point of the front itself is no longer and no dearer
  unbeaten_on : (p q : Point C) → On p → Has q → q.length ≤ p.length → K.at_most q.cost p.cost ≡ true → q ≡ p
  unbeaten_on p q i h l d = (of_front L (pairs K T (standing b)) p i).1 q (in_pairs K T (standing b) F q h) (no_worse_from L q p l d)

  -- of two points of the front the one that is no shorter is no dearer
  no_dearer_on : (p q : Point C) → On p → On q → q.length ≤ p.length → K.at_most p.cost q.cost ≡ true
  no_dearer_on p q i j l = elim (L.total p.cost q.cost) [
    | inl t ↦ t
    | inr t ↦ subst (λ (x : Point C). K.at_most p.cost x.cost ≡ true) (sym (unbeaten_on p q i (of_on q j) l t)) (at_most_refl L p.cost)
  ]

  budget_first : (limit : C) (p : Point C) → IsBudget K T (standing b) limit p ↔ IsFirstWithin (front K T b) (WithinBudget K limit) p
  budget_first limit p = (
    (λ h. record {
      listed = in_front L (pairs K T (standing b)) p (in_pairs K T (standing b) F p h.has) (budget_best L T F (standing b) limit p h);
      within = h.within;
      first = λ q j l w. let s = h.shortest q (of_on q j) w in omega arith;
    }),
    (λ h. record {
      has = of_on p h.listed;
      within = h.within;
      shortest = λ q k w. let d = below q k in elim (cases_lt d.0.length p.length) [
        | inl l ↦ absurd (h.first d.0 d.1 l (L.transitive _ _ _ d.3 w))
        | inr g ↦ le_trans g d.2
      ];
      cheapest = λ q k e. let d = below q k in L.transitive _ _ _ (no_dearer_on p d.0 h.listed d.1 (omega (arith, d.2, e))) d.3;
    }),
  )

  deadline_last : (limit : ℕ) (p : Point C) → IsDeadline K T (standing b) limit p ↔ IsLastWithin (front K T b) (WithinDeadline limit) p
  deadline_last limit p = (
    (λ h. record {
      listed = in_front L (pairs K T (standing b)) p (in_pairs K T (standing b) F p h.has) (deadline_best L T F (standing b) limit p h);
      within = h.within;
      last = λ q j l w.
          let e = unbeaten_on q p j h.has (omega arith) (h.cheapest q (of_on q j) w) in
          let s : p.length ≡ q.length = ap (λ (x : Point C). x.length) e in
          omega arith;
    }),
    (λ h. record {
      has = of_on p h.listed;
      within = h.within;
      cheapest = λ q k w. let d = below q k in elim (cases_lt p.length d.0.length) [
        | inl l ↦ absurd (h.last d.0 d.1 l (le_trans d.2 w))
        | inr g ↦ L.transitive _ _ _ (no_dearer_on p d.0 h.listed d.1 g) d.3
      ];
      shortest = λ q k e. elim (cases_lt q.length p.length) [
        | inl l ↦
            let d : K.at_most q.cost p.cost ≡ true = subst (λ (c : C). K.at_most q.cost c ≡ true) e (at_most_refl L q.cost) in
            let s : q.length ≡ p.length = ap (λ (x : Point C). x.length) (unbeaten_on p q h.listed k (omega arith) d) in
            absurd (omega arith)
        | inr g ↦ g
      ];
    }),
  )

  module _ (sound : Sound b) where
    -- what a limit answers, and which points of the front are within it
    pub record Limited (IsBest Within : Point C → Type 0) (result : Answer (Point C)) : Type 0 where
      pub best : (p : Point C) → IsBest p ↔ (result ≡ Ok p)
      pub unquoted : (n : ℕ) → IsLowestUnquoted T b n ↔ (result ≡ Err (carrying 9 n))
      pub none : (((n : ℕ) → Unquoted T b n → ⊥) × ((p : Point C) → Has p → Within p → ⊥)) ↔ (result ≡ Err (plain 10))
      pub down : (p q : Point C) → p.length ≤ q.length → K.at_most p.cost q.cost ≡ true → Within q → Within p

    decides : {IsBest IsChosen Within : Point C → Type 0} {result : Answer (Point C)} → Limited IsBest Within result → ((p : Point C) → IsBest p ↔ IsChosen p)
        → FrontDecides K T b IsChosen Within (λ p. result ≡ Ok p) ((n : ℕ) × (result ≡ Err (carrying 9 n))) (result ≡ Err (plain 10))
    decides {Within = Within} {result = result} says chosen = record {
      answered = λ p. ((λ e. (chosen p).0 ((says.best p).1 e)), λ h. (says.best p).0 ((chosen p).1 h));
      unquoted = (nine, of_none);
      none_within = (ten, λ h. of_some h.0 h.1);
      no_point = (
        (λ r. elim r [ inl e ↦ (λ q i w. nine e (on_assigned q i)) | inr e ↦ (ten e).1 ]),
        (λ h. go h (lowest_unquoted T b) refl),
      );
    }
      where
        on_assigned : (q : Point C) → On q → HasAssignment T b
        on_assigned q i = let h = of_on q i in (h.0, h.1)

        nine : ((n : ℕ) × (result ≡ Err (carrying 9 n))) → HasAssignment T b → ⊥
        nine e = none_assigned K T F b sound e.0 ((says.unquoted e.0).1 e.1).0

        of_none : (HasAssignment T b → ⊥) → (n : ℕ) × (result ≡ Err (carrying 9 n))
        of_none h = let u = lowest_of_none K T F b sound h in (u.0, (says.unquoted u.0).0 u.1)

        ten : result ≡ Err (plain 10) → HasAssignment T b × NoPointWithin (front K T b) Within
        ten e = let r = says.none.1 e in ((assigned K T F b sound).1 ((all_quoted T F b).0 r.0), λ q i. r.1 q (of_on q i))

        of_some : HasAssignment T b → NoPointWithin (front K T b) Within → result ≡ Err (plain 10)
        of_some a h = says.none.0 ((all_quoted T F b).1 ((assigned K T F b sound).0 a), λ p k w. let d = below p k in h d.0 d.1 (says.down d.0 p d.2 d.3 w))

        go : NoPointWithin (front K T b) Within → (o : Option ℕ) → lowest_unquoted T b ≡ o → ((n : ℕ) × (result ≡ Err (carrying 9 n))) ⊎ (result ≡ Err (plain 10))
        go h None e = inr (of_some ((assigned K T F b sound).1 e) h)
        go h (Some n) e = inl (of_none (λ a. let f = (assigned K T F b sound).0 a in cc))

pub fronts_answer_limits : {C : Type 0} {K : Kind C} → Laws K → FrontsAnswerLimits K
fronts_answer_limits {C} {K} L T F calls = record {
  below = below L T F (book_after calls);
  budgets = λ limit. decides L T F (book_after calls) (book_sound calls) (record {
    best = words.budgets limit;
    unquoted = words.budget_unquoted limit;
    none = (
      (λ h. (words.none_affordable limit).0 (h.0, λ p k. elim (cases_Bool (K.at_most p.cost limit)) [ inl t ↦ absurd (h.1 p k t) | inr f ↦ f ])),
      (λ e. let r = (words.none_affordable limit).1 e in (r.0, λ p k w. both_ways _ (r.1 p k) w)),
    );
    down = λ p q l d w. L.transitive _ _ _ d w;
  }) (budget_first L T F (book_after calls) limit);
  deadlines = λ limit. decides L T F (book_after calls) (book_sound calls) (record {
    best = words.deadlines limit;
    unquoted = words.deadline_unquoted limit;
    none = (
      (λ h. (words.none_in_time limit).0 (h.0, λ p k. elim (cases_lt limit p.length) [ inl l ↦ l | inr g ↦ absurd (h.1 p k g) ])),
      (λ e. let r = (words.none_in_time limit).1 e in (r.0, λ p k w. let l = r.1 p k in omega arith)),
    );
    down = λ p q l d w. le_trans l w;
  }) (deadline_last L T F (book_after calls) limit);
}
  where
    words : LimitsInWords K T (book_after calls)
    words = limits_give_best_pairs L T F calls
