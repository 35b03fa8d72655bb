-- Texts joined one behind another, item by item
use Rattle.std.proofs.Common.{◌≡◌, ℕ, ◌+◌, ◌<◌, List, ◌++◌, length, get_or, drop, sym, ap, ◌∙◌}
use Rattle.std.specs.List.{flat_map}
use Rattle.std.proofs.lemmas.List.{at_drop_more}

module _ {X : Type 0} (f : X → List ℕ) (xs : List X) (i : ℕ) where
  pub joined_next : (x : X) → i < length xs → x ≡ get_or xs i x → flat_map f (drop i xs) ≡ f x ++ flat_map f (drop (i + 1) xs)
  joined_next x h e = at_drop_more (flat_map f) xs i x h ∙ ap (λ y. f y ++ flat_map f (drop (i + 1) xs)) (sym e)
