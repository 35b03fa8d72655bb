-- Budgets and deadlines in words
use Rattle.std.proofs.Common.{◌≡◌, ℕ, ◌<◌, ◌≤◌, min, Bool, true, false, leb, ◌↔◌, List, is_some, Some, None, Ok, Err, filter, Option, sym, refl, ap, ◌∙◌, subst, inl, inr, le_antisymm, arith}
use Rattle.std.proofs.lemmas.Bool.{both_ways, leb-true, le-leb, cases_Bool, cases_lt}
use Rattle.refusals.specs.Answer.{Refused, plain, carrying}
use Rattle.costs.specs.Kind.{Kind, Laws}
use Rattle.tariffs.specs.Meaning.{Meaning, Ranged}
use Rattle.sheets.specs.Book.{Book}
use Rattle.sheets.specs.History.{Sound, book_after}
use Rattle.sheets.proofs.Histories.{book_sound}
use Rattle.model.specs.declared.point.Point.{Point}
use Rattle.model.specs.Lists.{least}
use Rattle.model.specs.Assignment.{standing, pairs, HasPair, Unquoted}
use Rattle.model.specs.Cell.{span}
use Rattle.model.specs.Limit.{shorter_then_cheaper, cheaper_then_shorter, lowest_unquoted, or_none_within, unless_unquoted, within_budget, within_deadline, budget_result, deadline_result, IsBudget, IsDeadline, IsLowestUnquoted, LimitsGiveBestPairs}
use Rattle.model.proofs.Lists.{in_kept_by, of_kept_by, not_empty}
use Rattle.model.proofs.Leasts.{Least, least_is, least_unique, least_none}
use Rattle.model.proofs.Assignments.{in_pairs, of_pairs}
use Rattle.model.proofs.Limits.{shorter_first, shorter_parts, shorter_from, cheaper_first, cheaper_parts, cheaper_from, cheaper_dear, Cheaper}
use Rattle.model.proofs.Loops.{deadline_held}
use Rattle.model.proofs.Unquoted.{none_unquoted, lowest_is, all_quoted}

-- what is found is the least
pub found_least : {C : Type 0} (x : Option ℕ) (o : Option (Point C)) (p : Point C) → unless_unquoted x (or_none_within o) ≡ Ok p → o ≡ Some p
found_least None None p e = cc
found_least None (Some q) p e = let z : q ≡ p = cc in ap Some z
found_least (Some n) o p e = cc

pub none_of : (o : Option ℕ) → is_some o ≡ false → o ≡ None
none_of None e = refl
none_of (Some n) e = absurd (both_ways true e refl)

-- refusals 9 and 10 are apart
apart : {A : Type 0} (n : ℕ) → plain 10 ≡ carrying 9 n → A
apart n e = let z : ◌≡◌ {A = ℕ} 10 9 = ap (λ (r : Refused). r.number) e in absurd (omega arith)

refused_unquoted : {C : Type 0} (x : Option ℕ) (o : Option (Point C)) (n : ℕ) → (x ≡ Some n) ↔ (unless_unquoted x (or_none_within o) ≡ Err (carrying 9 n))
refused_unquoted None None n = ((λ e. cc), λ e. let r : plain 10 ≡ carrying 9 n = cc in apart n r)
refused_unquoted None (Some p) n = ((λ e. cc), λ e. cc)
refused_unquoted (Some k) o n = ((λ e. let f : k ≡ n = cc in ap (λ (i : ℕ). Err (carrying 9 i)) f), λ e. let r : carrying 9 k ≡ carrying 9 n = cc in ap (λ (x : Refused). x.carried) r)

refused_none_within : {C : Type 0} (x : Option ℕ) (o : Option (Point C)) → ((x ≡ None) × (o ≡ None)) ↔ (unless_unquoted x (or_none_within o) ≡ Err (plain 10))
refused_none_within None None = ((λ _. refl), λ _. (refl, refl))
refused_none_within None (Some p) = ((λ a. let e = a.1 in cc), λ e. cc)
refused_none_within (Some k) o = ((λ a. let e = a.0 in cc), λ e. let r : carrying 9 k ≡ plain 10 = cc in apart k (sym r))

module _ {C : Type 0} {K : Kind C} (L : Laws K) (T : Meaning C) (F : Ranged T) (b : Book) where
  module _ (sound : Sound b) where
    pub quoted : (p : Point C) → HasPair K T (standing b) p → lowest_unquoted T b ≡ None
    quoted p h = none_of _ (sym (none_unquoted T K b sound) ∙ not_empty (in_pairs K T (standing b) F p h))

    pub budget_words : (c : C) (p : Point C) → IsBudget K T (standing b) c p ↔ (budget_result K T b c ≡ Ok p)
    budget_words c p = (to, from)
      where
        test : Point C → Bool
        test q = K.at_most q.cost c

        kept : List (Point C)
        kept = filter test (pairs K T (standing b))

        to : IsBudget K T (standing b) c p → budget_result K T b c ≡ Ok p
        to h = rw (
          quoted p h.has,
          least_unique (shorter_first L).order kept p (in_kept_by test (in_pairs K T (standing b) F p h.has) h.within) (λ q i.
              let k = of_kept_by test (pairs K T (standing b)) i in
              shorter_from L p q (elim (cases_lt p.length q.length) [
                | inl l ↦ inl l
                | inr g ↦
                    let e : p.length ≡ q.length = le_antisymm (h.shortest q (of_pairs K T (standing b) q k.0) k.1) g in
                    inr (e, h.cheapest q (of_pairs K T (standing b) q k.0) (sym e))
              ])),
        ) refl

        from : budget_result K T b c ≡ Ok p → IsBudget K T (standing b) c p
        from e =
            let l : Least (shorter_first L).order kept (Some p) = subst (Least (shorter_first L).order kept) (found_least (lowest_unquoted T b) (least (shorter_then_cheaper K) kept) p e) (least_is (shorter_first L).order kept) in
            let k = of_kept_by test (pairs K T (standing b)) l.0 in
            record {
              has = of_pairs K T (standing b) p k.0;
              within = k.1;
              shortest = λ q h w. elim (shorter_parts L p q (l.1 q (in_kept_by test (in_pairs K T (standing b) F q h) w))) [ inl s ↦ omega arith | inr s ↦ omega arith ];
              cheapest = λ q h s. elim (cases_Bool (K.at_most q.cost c)) [
                | inl w ↦ elim (shorter_parts L p q (l.1 q (in_kept_by test (in_pairs K T (standing b) F q h) w))) [ inl m ↦ absurd (omega arith) | inr m ↦ m.1 ]
                | inr w ↦ elim (L.total p.cost q.cost) [ inl t ↦ t | inr t ↦ absurd (both_ways _ w (L.transitive _ _ _ t k.1)) ]
              ];
            }

    pub deadline_words : (d : ℕ) (p : Point C) → IsDeadline K T (standing b) d p ↔ (deadline_result K T b d ≡ Ok p)
    unfolding Cheaper
    deadline_words d p = (to, from)
      where
        test : Point C → Bool
        test q = leb q.length d

        kept : List (Point C)
        kept = filter test (pairs K T (standing b))

        to : IsDeadline K T (standing b) d p → deadline_result K T b d ≡ Ok p
        to h = rw (
          quoted p h.has,
          least_unique (cheaper_first L).order kept p (in_kept_by test (in_pairs K T (standing b) F p h.has) (le-leb _ _ h.within)) (λ q i.
              let k = of_kept_by test (pairs K T (standing b)) i in
              let m = h.cheapest q (of_pairs K T (standing b) q k.0) (leb-true _ _ k.1) in
              cheaper_from L p q (elim (cases_Bool (K.at_most q.cost p.cost)) [
                | inl t ↦ let e = L.antisymmetric _ _ m t in inr (e, h.shortest q (of_pairs K T (standing b) q k.0) (sym e))
                | inr f ↦ inl f
              ])),
        ) refl

        from : deadline_result K T b d ≡ Ok p → IsDeadline K T (standing b) d p
        from e =
            let l : Least (cheaper_first L).order kept (Some p) = subst (Least (cheaper_first L).order kept) (found_least (lowest_unquoted T b) (least (cheaper_then_shorter K) kept) p e) (least_is (cheaper_first L).order kept) in
            let k = of_kept_by test (pairs K T (standing b)) l.0 in
            record {
              has = of_pairs K T (standing b) p k.0;
              within = leb-true _ _ k.1;
              cheapest = λ q h w. cheaper_dear L p q (cheaper_parts L p q (l.1 q (in_kept_by test (in_pairs K T (standing b) F q h) (le-leb _ _ w))));
              shortest = λ q h s. elim (cases_lt d q.length) [
                | inl g ↦ let w = leb-true _ _ k.1 in omega arith
                | inr w ↦ elim (cheaper_parts L p q (l.1 q (in_kept_by test (in_pairs K T (standing b) F q h) (le-leb _ _ w)))) [
                  | inl f ↦ absurd (both_ways _ f (rw s (elim (L.total p.cost p.cost) [ inl t ↦ t | inr t ↦ t ])))
                  | inr m ↦ m.1
                ]
              ];
            }

  pub none_affordable : (c : C) → (((n : ℕ) → Unquoted T b n → ⊥) × ((p : Point C) → HasPair K T (standing b) p → K.at_most p.cost c ≡ false)) ↔ (budget_result K T b c ≡ Err (plain 10))
  none_affordable c = (
    (λ h. ends.0 ((all_quoted T F b).0 h.0, (least_none (shorter_first L).order kept).1 (λ p i. let k = of_kept_by test (pairs K T (standing b)) i in both_ways _ (h.1 p (of_pairs K T (standing b) p k.0)) k.1))),
    (λ e. let r = ends.1 e in ((all_quoted T F b).1 r.0, λ p h. elim (cases_Bool (K.at_most p.cost c)) [ inl t ↦ absurd ((least_none (shorter_first L).order kept).0 r.1 p (in_kept_by test (in_pairs K T (standing b) F p h) t)) | inr f ↦ f ])),
  )
    where
      test : Point C → Bool
      test q = K.at_most q.cost c

      kept : List (Point C)
      kept = filter test (pairs K T (standing b))

      ends : ((lowest_unquoted T b ≡ None) × (least (shorter_then_cheaper K) kept ≡ None)) ↔ (budget_result K T b c ≡ Err (plain 10))
      ends = refused_none_within (lowest_unquoted T b) (least (shorter_then_cheaper K) kept)

  pub none_in_time : (d : ℕ) → (((n : ℕ) → Unquoted T b n → ⊥) × ((p : Point C) → HasPair K T (standing b) p → d < p.length)) ↔ (deadline_result K T b d ≡ Err (plain 10))
  none_in_time d = (
    (λ h. ends.0 ((all_quoted T F b).0 h.0, (least_none (cheaper_first L).order kept).1 (λ p i. let k = of_kept_by test (pairs K T (standing b)) i in let l = leb-true _ _ k.1 in let g = h.1 p (of_pairs K T (standing b) p k.0) in omega arith))),
    (λ e. let r = ends.1 e in ((all_quoted T F b).1 r.0, λ p h. elim (cases_lt d p.length) [ inl l ↦ l | inr g ↦ absurd ((least_none (cheaper_first L).order kept).0 r.1 p (in_kept_by test (in_pairs K T (standing b) F p h) (le-leb _ _ g))) ])),
  )
    where
      test : Point C → Bool
      test q = leb q.length d

      kept : List (Point C)
      kept = filter test (pairs K T (standing b))

      ends : ((lowest_unquoted T b ≡ None) × (least (cheaper_then_shorter K) kept ≡ None)) ↔ (deadline_result K T b d ≡ Err (plain 10))
      ends = refused_none_within (lowest_unquoted T b) (least (cheaper_then_shorter K) kept)

  lowest_refused : (o : Option (Point C)) (n : ℕ) → IsLowestUnquoted T b n ↔ (unless_unquoted (lowest_unquoted T b) (or_none_within o) ≡ Err (carrying 9 n))
  lowest_refused o n =
      let e = lowest_is T F b n in
      let f = refused_unquoted (lowest_unquoted T b) o n in
      ((λ h. f.0 (e.0 h)), λ h. e.1 (f.1 h))

  past_the_span : (limit : ℕ) → span T (standing b) ≤ limit → deadline_result K T b limit ≡ deadline_result K T b (span T (standing b))
  past_the_span limit past =
      let held : min limit (span T (standing b)) ≡ span T (standing b) = omega arith in
      ap (λ (o : Option (Point C)). unless_unquoted (lowest_unquoted T b) (or_none_within o))
      (deadline_held L T F (standing b) limit ∙ ap (within_deadline K T (standing b)) held)

pub limits_give_best_pairs : {C : Type 0} {K : Kind C} → Laws K → LimitsGiveBestPairs K
limits_give_best_pairs {C} {K} L T F calls = record {
  budgets = budget_words L T F (book_after calls) (book_sound calls);
  deadlines = deadline_words L T F (book_after calls) (book_sound calls);
  budget_unquoted = λ limit n. lowest_refused L T F (book_after calls) (within_budget K T (standing (book_after calls)) limit) n;
  deadline_unquoted = λ limit n. lowest_refused L T F (book_after calls) (within_deadline K T (standing (book_after calls)) limit) n;
  none_affordable = none_affordable L T F (book_after calls);
  none_in_time = none_in_time L T F (book_after calls);
  deadline_held = past_the_span L T F (book_after calls);
}
