-- A quotient rounded up is the least number of parts that covers the amount
use Rattle.std.proofs.Common.{ℕ, ◌+◌, ◌*◌, ◌<◌, ◌≤◌, arith}
use Rattle.std.proofs.Math.Nat.{lt_of_mul-lt-mul_right}
use Rattle.std.proofs.lemmas.Grind.{div_ceil_times}
use Rattle.tariffs.specs.RoundedUp.{rounded_up, LeastCover}
use Rattle.tariffs.specs.Line.{TimesAreLeast}

pub least_cover : (part amount : ℕ) → 1 ≤ part → LeastCover part amount (rounded_up amount part)
least_cover part amount moving =
    let within = div_ceil_times amount part moving in (
      within.0,
      λ n enough.
          let below : rounded_up amount part * part < (n + 1) * part = omega (arith, within.1) in
          let less : rounded_up amount part < n + 1 = lt_of_mul-lt-mul_right part below in
          omega arith,
    )

pub times_are_least : TimesAreLeast
times_are_least l work = least_cover l.speed work l.moving
