-- Lists: membership, what is kept, selections
use Rattle.std.proofs.Common.{◌≡◌, ℕ, zero, suc, ◌+◌, ◌<◌, ◌≤◌, Bool, true, false, cond, ◌||◌, ◌⊎◌, List, [], ◌∷◌, ◌++◌, map, filter, sym, refl, ap, ◌∙◌, subst, inl, inr, arith}
use Rattle.std.proofs.lemmas.Bool.{both_ways, or_left, or_right, or_cases, cases_lt}
use Rattle.std.specs.List.{range_with_len}
use Rattle.model.specs.Lists.{In, here, later, Paired, put_before, selections, any, is_empty}

pub or_true : (b : Bool) → (b || true) ≡ true
or_true true = refl
or_true false = refl

module _ {A : Type 0} where
  pub in_left : {x : A} {xs : List A} (ys : List A) → In x xs → In x (xs ++ ys)
  in_left ys (here e) = here e
  in_left ys (later i) = later (in_left ys i)

  pub in_right : {x : A} (xs : List A) {ys : List A} → In x ys → In x (xs ++ ys)
  in_right [] i = i
  in_right (y ∷ xs) i = later (in_right xs i)

  pub of_cons : {x y : A} {ys : List A} → In x (y ∷ ys) → (x ≡ y) ⊎ In x ys
  of_cons (here e) = inl e
  of_cons (later i) = inr i

  pub of_append : {x : A} (xs ys : List A) → In x (xs ++ ys) → In x xs ⊎ In x ys
  of_append [] ys i = inr i
  of_append (y ∷ xs) ys (here e) = inl (here e)
  of_append (y ∷ xs) ys (later i) = elim (of_append xs ys i) [ inl j ↦ inl (later j) | inr j ↦ inr j ]

  pub in_kept_by : (f : A → Bool) {x : A} {xs : List A} → In x xs → f x ≡ true → In x (filter f xs)
  in_kept_by f (here {y} {ys} e) t = rw (ap f (sym e) ∙ t) (here e)
  in_kept_by f {x} (later {y} {ys} i) t =
      elim (f y) as (λ b. In x (cond b (y ∷ filter f ys) (filter f ys))) [ true ↦ later (in_kept_by f i t) | false ↦ in_kept_by f i t ]

  pub of_kept_by : (f : A → Bool) {x : A} (xs : List A) → In x (filter f xs) → In x xs × (f x ≡ true)
  of_kept_by f [] i = elim i [ ]
  of_kept_by f {x} (y ∷ xs) i = go (λ j. of_kept_by f xs j) (f y) refl i
    where
      rest : In x xs × (f x ≡ true) → In x (y ∷ xs) × (f x ≡ true)
      rest r = (later r.0, r.1)

      go : (In x (filter f xs) → In x xs × (f x ≡ true)) → (b : Bool) → f y ≡ b → In x (cond b (y ∷ filter f xs) (filter f xs)) → In x (y ∷ xs) × (f x ≡ true)
      go ih true t (here e) = (here e, ap f e ∙ t)
      go ih true t (later j) = rest (ih j)
      go ih false t j = rest (ih j)

  pub any_false : (f : A → Bool) {x : A} {xs : List A} → any f xs ≡ false → In x xs → f x ≡ false
  any_false f {x} h (here {y} {ys} e) = go (f y) refl h
    where
      go : (b : Bool) → f y ≡ b → (b || any f ys) ≡ false → f x ≡ false
      go true t h' = absurd (both_ways true h' refl)
      go false t h' = ap f e ∙ t
  any_false f {x} h (later {y} {ys} i) = go (λ k. any_false f k i) (f y) refl h
    where
      go : (any f ys ≡ false → f x ≡ false) → (b : Bool) → f y ≡ b → (b || any f ys) ≡ false → f x ≡ false
      go ih true t h' = absurd (both_ways true h' refl)
      go ih false t h' = ih h'

  pub any_absent : (f : A → Bool) (xs : List A) → ((x : A) → In x xs → f x ≡ false) → any f xs ≡ false
  any_absent f [] h = refl
  any_absent f (y ∷ xs) h = rw (h y (here refl)) (any_absent f xs (λ x i. h x (later i)))

  pub not_empty : {x : A} {xs : List A} → In x xs → is_empty xs ≡ false
  not_empty (here e) = refl
  not_empty (later i) = refl

  pub some_in : (xs : List A) → is_empty xs ≡ false → (x : A) × In x xs
  some_in [] e = absurd (both_ways true e refl)
  some_in (x ∷ xs) e = (x, here refl)

module _ {A B : Type 0} (f : A → B) where
  pub in_map : {x : A} {xs : List A} → In x xs → In (f x) (map f xs)
  in_map (here e) = here (ap f e)
  in_map (later i) = later (in_map i)

  pub of_map : {y : B} (xs : List A) → In y (map f xs) → (x : A) × In x xs × (y ≡ f x)
  of_map [] i = elim i [ ]
  of_map (x ∷ xs) (here e) = (x, here refl, e)
  of_map (x ∷ xs) (later i) = let r = of_map xs i in (r.0, later r.1, r.2)

  pub is_empty_map : (xs : List A) → is_empty (map f xs) ≡ is_empty xs
  is_empty_map [] = refl
  is_empty_map (x ∷ xs) = refl

  pub any_map : (g : B → Bool) (xs : List A) → any g (map f xs) ≡ any (λ x. g (f x)) xs
  any_map g [] = refl
  any_map g (x ∷ xs) = ap (λ b. g (f x) || b) (any_map g xs)

module _ {A : Type 0} where
  -- one of the lists is empty exactly when there is no way
  put_none : (xs : List A) → is_empty (put_before xs []) ≡ true
  put_none [] = refl
  put_none (x ∷ xs) = put_none xs

  put_empty : (xs : List A) (yss : List (List A)) → is_empty (put_before xs yss) ≡ (is_empty xs || is_empty yss)
  put_empty xs [] = put_none xs ∙ sym (or_true (is_empty xs))
  put_empty [] (ys ∷ yss) = refl
  put_empty (x ∷ xs) (ys ∷ yss) = refl

  pub selections_empty : (xss : List (List A)) → is_empty (selections xss) ≡ any is_empty xss
  selections_empty [] = refl
  selections_empty (xs ∷ xss) = put_empty xs (selections xss) ∙ ap (λ b. is_empty xs || b) (selections_empty xss)

  -- a way takes an element of each
  in_put : {x : A} {xs : List A} {ys : List A} {yss : List (List A)} → In x xs → In ys yss → In (x ∷ ys) (put_before xs yss)
  in_put {x} {ys = ys} {yss = yss} (here {y = z} {ys = zs} e) j =
      in_left (put_before zs yss) (subst (λ (w : A). In (w ∷ ys) (map (λ us. z ∷ us) yss)) (sym e) (in_map (λ us. z ∷ us) j))
  in_put {yss = yss} (later {y = z} {ys = zs} i) j = in_right (map (λ us. z ∷ us) yss) (in_put i j)

  of_put : (zs : List A) (xs : List A) (yss : List (List A)) → In zs (put_before xs yss) → (x : A) × (ys : List A) × In x xs × In ys yss × (zs ≡ x ∷ ys)
  of_put zs [] yss i = elim i [ ]
  of_put zs (x ∷ xs) yss i = go (λ j. of_put zs xs yss j) (of_append (map (λ ys. x ∷ ys) yss) (put_before xs yss) i)
    where
      go : (In zs (put_before xs yss) → (x' : A) × (ys : List A) × In x' xs × In ys yss × (zs ≡ x' ∷ ys)) → In zs (map (λ ys. x ∷ ys) yss) ⊎ In zs (put_before xs yss) → (x' : A) × (ys : List A) × In x' (x ∷ xs) × In ys yss × (zs ≡ x' ∷ ys)
      go ih (inl j) = let r = of_map (λ (ys : List A). x ∷ ys) yss j in (x, r.0, here refl, r.1, r.2)
      go ih (inr j) = let r = ih j in (r.0, r.1, later r.2, r.3, r.4)

  pub in_selections : (xss : List (List A)) (ys : List A) → Paired (λ xs y. In y xs) xss ys → In ys (selections xss)
  in_selections [] [] p = here refl
  in_selections [] (y ∷ ys) p = absurd p
  in_selections (xs ∷ xss) [] p = absurd p
  in_selections (xs ∷ xss) (y ∷ ys) p = in_put p.0 (in_selections xss ys p.1)

  pub of_selections : (xss : List (List A)) (ys : List A) → In ys (selections xss) → Paired (λ xs y. In y xs) xss ys
  of_selections [] ys (here e) = subst (Paired (λ xs y. In y xs) []) (sym e) tt
  of_selections [] ys (later i) = elim i [ ]
  of_selections (xs ∷ xss) ys i =
      let r = of_put ys xs (selections xss) i in
      subst (Paired (λ xs y. In y xs) (xs ∷ xss)) (sym r.4) (r.2, of_selections xss r.1 r.3)

module _ {A B C : Type 0} (f : A → B) (R : B → C → Type 0) (S : A → C → Type 0) where
  pub paired_to : ((x : A) (y : C) → S x y → R (f x) y) → (xs : List A) (ys : List C) → Paired S xs ys → Paired R (map f xs) ys
  paired_to h [] [] p = tt
  paired_to h [] (y ∷ ys) p = absurd p
  paired_to h (x ∷ xs) [] p = absurd p
  paired_to h (x ∷ xs) (y ∷ ys) p = (h x y p.0, paired_to h xs ys p.1)

  pub paired_from : ((x : A) (y : C) → R (f x) y → S x y) → (xs : List A) (ys : List C) → Paired R (map f xs) ys → Paired S xs ys
  paired_from h [] [] p = tt
  paired_from h [] (y ∷ ys) p = absurd p
  paired_from h (x ∷ xs) [] p = absurd p
  paired_from h (x ∷ xs) (y ∷ ys) p = (h x y p.0, paired_from h xs ys p.1)

-- numbers counted up
pub in_counting : (a n m : ℕ) → a ≤ m → m < a + n → In m (range_with_len a n)
in_counting a zero m l h = absurd (omega arith)
in_counting a (suc n) m l h = elim (cases_lt a m) [ inl g ↦ later (in_counting (a + 1) n m (omega arith) (omega arith)) | inr g ↦ here (omega arith) ]

-- some element passes
module _ {A : Type 0} (f : A → Bool) where
  pub any_of : {x : A} {xs : List A} → In x xs → f x ≡ true → any f xs ≡ true
  any_of (here {y} {ys} e) t = or_left _ _ (ap f (sym e) ∙ t)
  any_of (later {y} {ys} i) t = or_right (f y) _ (any_of i t)

  pub of_any : (xs : List A) → any f xs ≡ true → (x : A) × In x xs × (f x ≡ true)
  of_any [] h = absurd (both_ways false refl h)
  of_any (x ∷ xs) h = go (λ k. of_any xs k) (or_cases (f x) (any f xs) h)
    where
      go : (any f xs ≡ true → (y : A) × In y xs × (f y ≡ true)) → (f x ≡ true) ⊎ (any f xs ≡ true) → (y : A) × In y (x ∷ xs) × (f y ≡ true)
      go ih (inl t) = (x, here refl, t)
      go ih (inr t) = let r = ih t in (r.0, later r.1, r.2)
