-- Quotients rounded up
use Rattle.std.specs.Prelude.{ℕ, ◌+◌, ◌*◌, ◌/◌, ◌%◌, ◌≤◌, min}

abbrev pub rounded_up : ℕ → ℕ → ℕ
rounded_up amount part = amount / part + min 1 (amount % part)

-- the law of it: the least number of such parts that covers the amount
abbrev pub LeastCover : ℕ → ℕ → ℕ → Type 0
LeastCover part amount parts = (amount ≤ parts * part) × ((n : ℕ) → amount ≤ n * part → parts ≤ n)
