-- Costs of one number are one cost, since a range has one proof
use Rattle.std.specs.Prelude.{◌≡◌, ◌≤◌}
use mathlib.Core.HLevel.{is_prop→PathP}
use Rattle.std.proofs.Math.Bridge.{le_prop}
use Rattle.costs.specs.declared.cents.Cents.{Cents}
use Rattle.costs.specs.declared.grade.Grade.{Grade}

pub same_cents : (a b : Cents) → a.value ≡ b.value → a ≡ b
same_cents a b e i = record {
  value = e i;
  within = is_prop→PathP (λ j. e j ≤ 1000000000000000) (λ j. le_prop) a.within b.within i;
}

pub same_grade : (a b : Grade) → a.value ≡ b.value → a ≡ b
same_grade a b e i = record {
  value = e i;
  within = is_prop→PathP (λ j. e j ≤ 15) (λ j. le_prop) a.within b.within i;
}
