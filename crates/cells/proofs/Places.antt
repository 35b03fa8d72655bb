-- What a layout's places are relied on for: each is within its size, and no two cells stand at one
use Rattle.std.proofs.Common.{◌≡◌, ℕ, ◌+◌, ◌/◌, ◌%◌, ◌<◌, ◌≤◌, sym, ap, ◌∙◌, le_trans, mul_comm, arith}
use Rattle.std.proofs.lemmas.Nat.{mul-add-lt, div-mul-add, mod-mul-add}
use Rattle.cells.specs.declared.layout.Layout.{Layout}
use Rattle.cells.specs.Layout.{place_in, size}

module _ (layout : Layout) where
  pub place_inside : (j t : ℕ) → j ≤ layout.stages → t < layout.width → place_in layout j t < size layout
  place_inside j t l m = le_trans (mul-add-lt j layout.width t (layout.stages + 1) (omega arith) m) (omega (arith, mul_comm layout.width (layout.stages + 1)))

  pub place_apart : (j t i u : ℕ) → j ≤ layout.stages → i ≤ layout.stages → t < layout.width → u < layout.width → place_in layout j t ≡ place_in layout i u → (j ≡ i) × (t ≡ u)
  place_apart j t i u _ _ l m e = (
    sym (div-mul-add j layout.width t l) ∙ ap (λ (n : ℕ). n / layout.width) e ∙ div-mul-add i layout.width u m,
    sym (mod-mul-add j layout.width t l) ∙ ap (λ (n : ℕ). n % layout.width) e ∙ mod-mul-add i layout.width u m,
  )
