-- Points of one length and one number of a grade are one point
use Rattle.std.proofs.Common.{◌≡◌, ℕ, List, [], ◌∷◌, map, Ok, Err, refl, ap, rules}
use Rattle.refusals.specs.Answer.{Answer}
use Rattle.costs.specs.Same.{same_grade}
use Rattle.costs.specs.declared.grade.Grade.{Grade}
use Rattle.model.specs.declared.point.Point.{Point}

-- a point by its numbers
abbrev pub shown : Point Grade → ℕ × ℕ
shown p = (p.length, p.cost.value)

same_point : (p q : Point Grade) → shown p ≡ shown q → p ≡ q
same_point p q e i = record { length = (e i).0; cost = same_grade p.cost q.cost (ap (λ s. s.1) e) i }

pub same_points : (ps qs : List (Point Grade)) → map shown ps ≡ map shown qs → ps ≡ qs
same_points [] [] e = refl
same_points [] (q ∷ qs) e = absurd (search rules)
same_points (p ∷ ps) [] e = absurd (search rules)
same_points (p ∷ ps) (q ∷ qs) e = rw (same_point p q (search rules), same_points ps qs (search rules)) refl

-- an answer by its numbers
abbrev pub told : Answer (Point Grade) → Answer (ℕ × ℕ)
told (Ok p) = Ok (shown p)
told (Err refused) = Err refused

pub same_answer : (answer : Answer (Point Grade)) (p : Point Grade) → told answer ≡ Ok (shown p) → answer ≡ Ok p
same_answer (Ok q) p e = ap Ok (same_point q p (search rules))
same_answer (Err refused) p e = absurd (search rules)
