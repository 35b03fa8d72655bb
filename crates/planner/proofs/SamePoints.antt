-- Points compared one by one
use Rattle.std.proofs.Common.{◌≡◌, true, ◌&&◌, List, [], ◌∷◌, refl, subst, ap₂, ⊎_elim}
use Rattle.std.proofs.lemmas.Bool.{and_parts, eqb-true, eq-eqb}
use Rattle.costs.specs.Kind.{Kind, Laws}
use Rattle.model.specs.declared.point.Point.{Point}
use Rattle.planner.specs.Bargain.{same_point, same_points}

module _ {C : Type 0} {K : Kind C} (laws : Laws K) where
  refl_cost : (c : C) → K.at_most c c ≡ true
  refl_cost c = ⊎_elim (λ e. e) (λ e. e) (laws.total c c)

  one_point : (p q : Point C) → same_point K p q ≡ true → p ≡ q
  one_point p q e =
      let parts = and_parts _ _ e in
      let costs = and_parts _ _ parts.1 in
      let long = eqb-true p.length q.length parts.0 in
      let dear = laws.antisymmetric p.cost q.cost costs.0 costs.1 in
      λ i. record { length = long i; cost = dear i }

  -- the comparison says whether the lists are equal
  pub same_from_test : (ps qs : List (Point C)) → same_points K ps qs ≡ true → ps ≡ qs
  same_from_test [] [] e = refl
  same_from_test [] (q ∷ qs) e = cc
  same_from_test (p ∷ ps) [] e = cc
  same_from_test (p ∷ ps) (q ∷ qs) e = let parts = and_parts _ _ e in ap₂ (λ x xs. x ∷ xs) (one_point p q parts.0) (same_from_test ps qs parts.1)

  same_self : (ps : List (Point C)) → same_points K ps ps ≡ true
  same_self [] = refl
  same_self (p ∷ ps) = ap₂ (λ a b. a && b) (ap₂ (λ a b. a && b) (eq-eqb p.length p.length refl) (ap₂ (λ a b. a && b) (refl_cost p.cost) (refl_cost p.cost))) (same_self ps)

  pub test_from_same : (ps qs : List (Point C)) → ps ≡ qs → same_points K ps qs ≡ true
  test_from_same ps qs e = subst (λ (xs : List (Point C)). same_points K ps xs ≡ true) e (same_self ps)
