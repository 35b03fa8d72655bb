-- Custody grades: whole numbers from 0 to 15
use Rattle.std.specs.Prelude.{ℕ, min, max, List, decimal, nat_le}
use Rattle.std.proofs.Common.{arith}
use Rattle.costs.specs.Kind.{Kind}
use Rattle.costs.specs.declared.grade.Grade.{Grade}

-- a greater number counts as the greatest
abbrev pub grade : ℕ → Grade
grade n = record { value = min n 15; within = omega arith }

-- the join is the greater of the two
abbrev pub grade_kind : Kind Grade
grade_kind = record {
  at_most = λ a b. nat_le a.value b.value;
  join = λ a b. record { value = max a.value b.value; within = omega arith };
  neutral = grade 0;
}

abbrev pub grade_text : Grade → List ℕ
grade_text g = decimal g.value
