-- Which of two sheets, each under its tariff, has the better bargain
use Rattle.std.specs.Prelude.{◌≡◌, ◌<◌, ◌≤◌, Bool, true, cond, not, ◌↔◌, List, [], ◌∷◌, Some, None, filter, Option}
use Rattle.costs.specs.Kind.{Kind}
use Rattle.tariffs.specs.Meaning.{Meaning, Ranged}
use Rattle.sheets.specs.Book.{Book}
use Rattle.model.specs.declared.point.Point.{Point}
use Rattle.model.specs.declared.better.Better.{Better}
use Rattle.model.specs.declared.better.Better.TheVariants.{First, Second}
use Rattle.model.specs.Lists.{In, any, least}
use Rattle.model.specs.Assignment.{standing, pairs, HasPair}
use Rattle.model.specs.Front.{no_worse, front}
use Rattle.model.specs.Limit.{shorter_then_cheaper}
use Rattle.model.specs.Bargain.{Matched}

module _ {C : Type 0} (K : Kind C) where
  -- none of the others is as good as the pair, that is no longer and no dearer
  abbrev pub is_unmatched : List (Point C) → Point C → Bool
  is_unmatched others p = not (any (λ q. no_worse K q p) others)

  -- of two pairs that may be there, the first sheet's and the second's, the shorter, and at one length the cheaper
  abbrev pub sooner : Option (Point C) → Option (Point C) → Option (Better C)
  sooner None None = None
  sooner None (Some q) = Some (Second q)
  sooner (Some p) None = Some (First p)
  sooner (Some p) (Some q) = Some (cond (shorter_then_cheaper K p q) (First p) (Second q))

  -- the shortest, and of that length the cheapest, of the first sheet's pairs that no pair of the second is as good as
  abbrev pub best_unmatched : Meaning C → Book → Meaning C → Book → Option (Point C)
  best_unmatched T first U second = least (shorter_then_cheaper K) (filter (is_unmatched (pairs K U (standing second))) (pairs K T (standing first)))

  -- the sheet that has the better bargain, and its pair; none if each pair of either sheet is matched by the other
  abbrev pub better : Meaning C → Book → Meaning C → Book → Option (Better C)
  better T first U second = sooner (best_unmatched T first U second) (best_unmatched U second T first)

  -- an assignment of the first sheet has the pair, and none of the second is as good, that is no longer and no dearer
  abbrev pub Unmatched : Meaning C → Book → Meaning C → Book → Point C → Type 0
  Unmatched T first U second p =
      HasPair K T (standing first) p
      × ((q : Point C) → HasPair K U (standing second) q → q.length ≤ p.length → K.at_most q.cost p.cost ≡ true → ⊥)

  -- the pair is the better bargain in words, and the first sheet has it
  pub record IsBetter (T : Meaning C) (first : Book) (U : Meaning C) (second : Book) (p : Point C) : Type 0 where
    pub unmatched : Unmatched T first U second p
    pub shortest : (q : Point C) → Unmatched T first U second q → p.length ≤ q.length
    pub cheapest : (q : Point C) → Unmatched T first U second q → q.length ≡ p.length → K.at_most p.cost q.cost ≡ true
    pub second_longer : (q : Point C) → Unmatched U second T first q → p.length < q.length
    pub on_front : In p (front K T first)

  -- where two lists first differ the shorter point, at one length the cheaper; past the end of one the other's next
  abbrev pub first_difference : List (Point C) → List (Point C) → Option (Better C)
  first_difference [] [] = None
  first_difference [] (q ∷ qs) = Some (Second q)
  first_difference (p ∷ ps) [] = Some (First p)
  first_difference (p ∷ ps) (q ∷ qs) =
      cond (shorter_then_cheaper K p q)
      (cond (shorter_then_cheaper K q p) (first_difference ps qs) (Some (First p)))
      (Some (Second q))

-- the better bargain of two sheets in words, and on their fronts
pub record BetterInWords {C : Type 0} (K : Kind C) (T : Meaning C) (first : Book) (U : Meaning C) (second : Book) : Type 0 where
  pub first_has : (p : Point C) → IsBetter K T first U second p ↔ (better K T first U second ≡ Some (First p))
  pub second_has : (p : Point C) → IsBetter K U second T first p ↔ (better K T first U second ≡ Some (Second p))
  pub matched : (Matched K T first U second × Matched K U second T first) ↔ (better K T first U second ≡ None)
  pub equal_fronts : (front K T first ≡ front K U second) ↔ (better K T first U second ≡ None)
  pub where_fronts_differ : better K T first U second ≡ first_difference K (front K T first) (front K U second)

-- for every two tariffs in the cost kind and every two books
abbrev pub BetterBargainsAreShown : {C : Type 0} → Kind C → Type 0
BetterBargainsAreShown {C} K =
    (T U : Meaning C) → Ranged T → Ranged U → (first second : Book) → BetterInWords K T first U second
