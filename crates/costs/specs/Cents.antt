-- Cents: whole numbers from 0 to 10^15
use Rattle.std.specs.Prelude.{ℕ, ◌+◌, min, List, decimal, nat_le}
use Rattle.std.proofs.Common.{arith}
use Rattle.costs.specs.Kind.{Kind}
use Rattle.costs.specs.declared.cents.Cents.{Cents}

-- a greater number counts as the greatest
abbrev pub cents : ℕ → Cents
cents n = record { value = min n 1000000000000000; within = omega arith }

-- the join is the sum, held at the greatest
abbrev pub cents_kind : Kind Cents
cents_kind = record {
  at_most = λ a b. nat_le a.value b.value;
  join = λ a b. cents (a.value + b.value);
  neutral = cents 0;
}

abbrev pub cents_text : Cents → List ℕ
cents_text c = decimal c.value
