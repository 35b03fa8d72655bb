-- Costs as plain numbers
use Rattle.std.specs.Prelude.{ℕ}
use Rattle.costs.specs.declared.cents.Cents.{Cents}
use Rattle.costs.specs.declared.grade.Grade.{Grade}

abbrev pub amount_of_cents : Cents → ℕ
amount_of_cents cents = cents.value

abbrev pub amount_of_grade : Grade → ℕ
amount_of_grade grade = grade.value
