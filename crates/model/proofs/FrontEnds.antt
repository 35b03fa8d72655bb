-- Fronts without stages, and with a standing task that has no quote
use Rattle.std.proofs.Common.{◌≡◌, ℕ, Bool, true, false, cond, not, ◌&&◌, ◌||◌, List, [], ◌∷◌, is_some, Some, None, Option, refl, ap, ◌∙◌, subst}
use Rattle.std.proofs.lemmas.Bool.{both_ways}
use Rattle.costs.specs.Kind.{Kind, Laws}
use Rattle.tariffs.specs.Meaning.{Meaning, Ranged}
use Rattle.sheets.specs.Book.{Book, book_of}
use Rattle.sheets.specs.History.{Sound, book_after}
use Rattle.sheets.proofs.Histories.{book_sound}
use Rattle.model.specs.declared.point.Point.{Point}
use Rattle.model.specs.Lists.{In, is_empty}
use Rattle.model.specs.Assignment.{standing, pair_of, pairs, HasAssignment, Unquoted}
use Rattle.model.specs.Front.{by_rising_length, no_worse, front_of, front, FrontsWithoutStagesOrQuotes}
use Rattle.model.specs.Limit.{lowest_unquoted}
use Rattle.model.proofs.Assignments.{in_pairs}
use Rattle.model.proofs.Fronts.{front_covers}
use Rattle.model.proofs.Unquoted.{none_unquoted, all_quoted}
use Rattle.model.proofs.Assigned.{lowest_of_none}

none_in : {A : Type 0} (xs : List A) → is_empty xs ≡ true → xs ≡ []
none_in [] e = refl
none_in (x ∷ xs) e = absurd (both_ways false refl e)

module _ {C : Type 0} (K : Kind C) where
  -- a pair does not beat itself
  front_of_one : (p : Point C) → front_of K (p ∷ []) ≡ p ∷ []
  front_of_one p = go (no_worse K p p)
    where
      go : (b : Bool) → by_rising_length (cond (not ((b && not b) || false)) (p ∷ []) []) ≡ p ∷ []
      go true = refl
      go false = refl

  without_stages : (T : Meaning C) (book : Book) → book.stages ≡ 0 → front K T book ≡ record { length = 0; cost = K.neutral } ∷ []
  without_stages T book none = ap (λ (stages : ℕ). front K T (book_of stages book.tasks)) none ∙ front_of_one (record { length = 0; cost = K.neutral })

  without_quote : (T : Meaning C) → Ranged T → (book : Book) → Sound book → (n : ℕ) → Unquoted T book n → front K T book ≡ []
  without_quote T F book sound n unquoted = go (lowest_unquoted T book) refl
    where
      go : (o : Option ℕ) → lowest_unquoted T book ≡ o → front K T book ≡ []
      go None e = absurd ((all_quoted T F book).1 e n unquoted)
      go (Some k) e = ap (front_of K) (none_in (pairs K T (standing book)) (none_unquoted T K book sound ∙ ap is_some e))

module _ {C : Type 0} {K : Kind C} (L : Laws K) where
  -- where there is an assignment, the front has a point
  none_of_empty : (T : Meaning C) → Ranged T → (book : Book) → front K T book ≡ [] → HasAssignment T book → ⊥
  none_of_empty T F book e h =
      let p = pair_of K T (standing book) h.0 in
      let d = front_covers L (pairs K T (standing book)) p (in_pairs K T (standing book) F p (h.0, h.1, refl)) in
      elim (subst (λ (ps : List (Point C)). In d.0 ps) e d.1) [ ]

  pub fronts_without_stages_or_quotes : FrontsWithoutStagesOrQuotes K
  fronts_without_stages_or_quotes = record {
    no_stages = λ T calls. without_stages K T (book_after calls);
    no_quote = λ T F calls.
        let b = book_after calls in
        let sound = book_sound calls in (
          (λ e. let u = lowest_of_none K T F b sound (none_of_empty T F b e) in (u.0, u.1.0)),
          (λ u. without_quote K T F b sound u.0 u.1),
        );
    no_assignment = λ T F calls.
        let b = book_after calls in
        let sound = book_sound calls in (
          none_of_empty T F b,
          (λ h. let u = lowest_of_none K T F b sound h in without_quote K T F b sound u.0 u.1.0),
        );
  }
