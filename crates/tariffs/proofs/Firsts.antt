-- The first element that passes a test, sought from the start of a list
use Rattle.std.proofs.Common.{◌≡◌, ℕ, suc, ◌+◌, ◌<◌, ◌≤◌, Bool, true, false, cond, not, ltb, List, [], ◌∷◌, length, get_or, drop, Some, None, Option, sym, refl, ap, ◌∙◌, add-zero, arith}
use Rattle.std.proofs.lemmas.List.{at_drop_more, at_drop_all}
use Rattle.std.proofs.lemmas.Bool.{cond-true, cond-false}
use Rattle.std.specs.List.{position_or_len}
use Rattle.std.specs.Option.{option_map}
use Rattle.tariffs.specs.First.{position}

module _ {A : Type 0} (passes : A → Bool) where
  shifted : (i : ℕ) (o : Option ℕ) → option_map (λ n. i + n) (option_map suc o) ≡ option_map (λ n. i + 1 + n) o
  shifted i None = refl
  shifted i (Some n) = ap Some (let e : i + suc n ≡ i + 1 + n = omega arith in e)

  -- the library's way to say it
  pub position_counted : (xs : List A) → position passes xs ≡ cond (ltb (position_or_len passes xs) (length xs)) (Some (position_or_len passes xs)) None
  position_counted [] = refl
  position_counted (x ∷ xs) = go (passes x) (position_or_len passes xs) (position_counted xs)
    where
      go : (b : Bool) (n : ℕ) → position passes xs ≡ cond (ltb n (length xs)) (Some n) None → cond b (Some 0) (option_map suc (position passes xs)) ≡ cond (ltb (cond (not b) (1 + n) 0) (length (x ∷ xs))) (Some (cond (not b) (1 + n) 0)) None
      go true n e = grind (arith)
      go false n e = ap (option_map suc) e ∙ grind (arith)

  -- the search has come to a place
  abbrev pub Sought : List A → ℕ → Type 0
  Sought xs i = option_map (λ n. i + n) (position passes (drop i xs)) ≡ position passes xs

  module _ (xs : List A) (i : ℕ) (d : A) (h : i < length xs) where
    pub sought_more : passes (get_or xs i d) ≡ false → Sought xs i → Sought xs (i + 1)
    sought_more e sought =
        sym (shifted i (position passes (drop (i + 1) xs)))
        ∙ ap (option_map (λ n. i + n)) (sym (at_drop_more (position passes) xs i d h ∙ cond-false (passes (get_or xs i d)) _ _ e))
        ∙ sought

    pub sought_here : passes (get_or xs i d) ≡ true → Sought xs i → position passes xs ≡ Some i
    sought_here e sought =
        sym sought
        ∙ ap (option_map (λ n. i + n)) (at_drop_more (position passes) xs i d h ∙ cond-true (passes (get_or xs i d)) _ _ e)
        ∙ ap Some (add-zero i)

  pub sought_all : (xs : List A) (i : ℕ) → length xs ≤ i → Sought xs i → position passes xs ≡ None
  sought_all xs i h sought = sym sought ∙ ap (option_map (λ n. i + n)) (at_drop_all (position passes) xs i h)
