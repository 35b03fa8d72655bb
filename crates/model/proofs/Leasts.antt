-- The least of a list
use Rattle.std.proofs.Common.{◌≡◌, Bool, true, false, cond, ◌⊎◌, ◌↔◌, List, [], ◌∷◌, Some, None, Option, refl, ap, inl, inr}
use Rattle.std.proofs.lemmas.Bool.{both_ways}
use Rattle.costs.specs.Kind.{Kind, Laws}
use Rattle.model.specs.Lists.{In, here, later, lesser, least}
use Rattle.model.proofs.Lists.{of_cons}

pub record Order {A : Type 0} (before : A → A → Bool) : Type 0 where
  pub total : (x y : A) → (before x y ≡ true) ⊎ (before y x ≡ true)
  pub antisym : (x y : A) → before x y ≡ true → before y x ≡ true → x ≡ y
  pub trans : (x y z : A) → before x y ≡ true → before y z ≡ true → before x z ≡ true

pub cost_order : {C : Type 0} {K : Kind C} → Laws K → Order K.at_most
cost_order L = record { total = L.total; antisym = L.antisymmetric; trans = L.transitive }

module _ {A : Type 0} {before : A → A → Bool} (O : Order before) where
  -- what `least` gives
  abbrev pub Least : List A → Option A → Type 0
  Least xs None = (x : A) → In x xs → ⊥
  Least xs (Some m) = In m xs × ((x : A) → In x xs → before m x ≡ true)

  pub before_refl : (x : A) → before x x ≡ true
  before_refl x = elim (O.total x x) [ inl t ↦ t | inr t ↦ t ]

  pub least_is : (xs : List A) → Least xs (least before xs)
  least_is [] = λ x i. elim i [ ]
  least_is (x ∷ xs) = go (least before xs) (least_is xs)
    where
      go : (o : Option A) → Least xs o → Least (x ∷ xs) (lesser before x o)
      go None h = (here refl, λ y i. elim (of_cons i) [ inl e ↦ rw e (before_refl x) | inr j ↦ absurd (h y j) ])
      go (Some m) h = pick (before x m) refl
        where
          pick : (b : Bool) → before x m ≡ b → Least (x ∷ xs) (cond b (Some x) (Some m))
          pick true t = (here refl, λ y i. elim (of_cons i) [ inl e ↦ rw e (before_refl x) | inr j ↦ O.trans x m y t (h.1 y j) ])
          pick false t = (
            later h.0,
            λ y i. elim (of_cons i) [
              | inl e ↦ rw e (elim (O.total x m) [ inl s ↦ absurd (both_ways _ t s) | inr s ↦ s ])
              | inr j ↦ h.1 y j
            ],
          )

  -- an element that is before each is what `least` gives
  pub least_unique : (xs : List A) (m : A) → In m xs → ((x : A) → In x xs → before m x ≡ true) → least before xs ≡ Some m
  least_unique xs m i h = go (least before xs) (least_is xs)
    where
      go : (o : Option A) → Least xs o → o ≡ Some m
      go None k = absurd (k m i)
      go (Some n) k = ap Some (O.antisym n m (k.1 m i) (h n k.0))

  -- nothing is least of nothing
  pub least_none : (xs : List A) → (least before xs ≡ None) ↔ ((x : A) → In x xs → ⊥)
  least_none xs = go (least before xs) (least_is xs)
    where
      go : (o : Option A) → Least xs o → (o ≡ None) ↔ ((x : A) → In x xs → ⊥)
      go None h = ((λ _. h), λ _. refl)
      go (Some m) h = ((λ e. cc), λ k. absurd (k m h.0))
