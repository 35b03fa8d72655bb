-- The line of a pair of length and cost
use Rattle.std.specs.Prelude.{ℕ, List, [], ◌∷◌, ◌++◌, decimal}
use Rattle.model.specs.declared.point.Point.{Point}

-- the length in decimal digits, a space, the cost's text and the line's end
abbrev pub point_line : {C : Type 0} → (C → List ℕ) → Point C → List ℕ
point_line text p = decimal p.length ++ (32 ∷ (text p.cost ++ (10 ∷ [])))
