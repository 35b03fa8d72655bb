-- The charge of a hire by the hour
use Rattle.std.specs.Prelude.{ℕ, ◌*◌}
use Rattle.costs.specs.Cents.{cents}
use Rattle.costs.specs.declared.cents.Cents.{Cents}
use Rattle.tariffs.specs.RoundedUp.{rounded_up}

-- the rate, in cents an hour, times the minutes, divided by 60 and rounded up
abbrev pub charge_of : ℕ → ℕ → Cents
charge_of rate minutes = cents (rounded_up (rate * minutes) 60)
