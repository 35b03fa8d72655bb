-- The length of a pair's line
use Rattle.std.proofs.Common.{◌≡◌, ℕ, ◌+◌, List, [], ◌∷◌, ◌++◌, length, decimal, arith, length-append}
use Rattle.model.specs.declared.point.Point.{Point}
use Rattle.keylines.specs.Point.{point_line}

pub length_point_line : {C : Type 0} (text : C → List ℕ) (p : Point C) → length (point_line text p) ≡ length (decimal p.length) + 2 + length (text p.cost)
length_point_line text p =
    let a = length-append (decimal p.length) (32 ∷ (text p.cost ++ (10 ∷ []))) in
    let b = length-append (text p.cost) (10 ∷ []) in
    omega arith
