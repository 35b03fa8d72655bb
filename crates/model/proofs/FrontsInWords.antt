-- One list is a front in words: that which the definition computes
use Rattle.std.proofs.Common.{◌≡◌, Bool, true, false, List, filter, sym, refl, subst, le_antisymm}
use Rattle.std.proofs.lemmas.Bool.{both_ways}
use Rattle.costs.specs.Kind.{Kind, Laws}
use Rattle.tariffs.specs.Meaning.{Meaning, Ranged}
use Rattle.sheets.specs.declared.task.Task.{Task}
use Rattle.model.specs.declared.point.Point.{Point}
use Rattle.model.specs.Assignment.{pairs}
use Rattle.model.specs.Front.{no_worse, unbeaten, front_of, Beats, IsFront, FrontListsUnbeatenPairs}
use Rattle.model.proofs.Assignments.{in_pairs, of_pairs}
use Rattle.model.proofs.Fronts.{same_point, same_list, rising, no_worse_from, no_longer, no_dearer, in_front, of_front}

module _ {C : Type 0} {K : Kind C} (L : Laws K) where
  -- what is no worse and does not beat is the same
  same_unless_beaten : (p q : Point C) → no_worse K q p ≡ true → (Beats K q p → ⊥) → q ≡ p
  same_unless_beaten p q n h = go (no_worse K p q) refl
    where
      go : (x : Bool) → no_worse K p q ≡ x → q ≡ p
      go true e = same_point q p (le_antisymm (no_longer L q p n) (no_longer L p q e)) (L.antisymmetric _ _ (no_dearer L q p n) (no_dearer L p q e))
      go false e = absurd (h (no_longer L q p n, no_dearer L q p n, λ s. both_ways _ e (subst (λ (x : Point C). no_worse K p x ≡ true) (sym s) (subst (λ (x : Point C). no_worse K x p ≡ true) s n))))

  front_is : (T : Meaning C) → Ranged T → (stages : List (List Task)) → IsFront K T stages (front_of K (pairs K T stages))
  front_is T F stages = record {
    rising = rising (filter (unbeaten K (pairs K T stages)) (pairs K T stages));
    each = λ p. (
      (λ i. let r = of_front L (pairs K T stages) p i in (of_pairs K T stages p r.0, λ q h x. x.2 (r.1 q (in_pairs K T stages F q h) (no_worse_from L q p x.0 x.1)))),
      (λ h. in_front L (pairs K T stages) p (in_pairs K T stages F p h.0) (λ q i n. same_unless_beaten p q n (h.1 q (of_pairs K T stages q i)))),
    );
  }

  pub front_in_words : FrontListsUnbeatenPairs K
  front_in_words T F stages ps =
      let is = front_is T F stages in (
        (λ h. same_list ps (front_of K (pairs K T stages)) h.rising is.rising (λ x i. (is.each x).1 ((h.each x).0 i)) (λ x i. (h.each x).1 ((is.each x).0 i))),
        (λ e. subst (IsFront K T stages) (sym e) is),
      )
