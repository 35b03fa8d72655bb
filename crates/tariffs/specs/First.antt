-- The first element of a list that passes a test
use Rattle.std.specs.Prelude.{ℕ, suc, Bool, cond, List, [], ◌∷◌, Some, None, Option}
use Rattle.std.specs.Option.{option_map}
pub use Rattle.std.specs.List.{find}

abbrev pub position : {A : Type 0} → (A → Bool) → List A → Option ℕ
position passes [] = None
position passes (x ∷ xs) = cond (passes x) (Some 0) (option_map suc (position passes xs))
