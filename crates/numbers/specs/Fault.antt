-- What is taken of an input for a number, and why no number stands at the start of some bytes
use Rattle.std.specs.Prelude.{◌≡◌, ℕ, ◌+◌, ◌<◌, true, List, ◌++◌, length}
use Rattle.numbers.specs.declared.groups.Fault.{Fault}
use Rattle.numbers.specs.declared.groups.Fault.TheVariants.{EndsEarly, Misspelt}
use Rattle.numbers.specs.declared.refusal.NumberRefusal.{NumberRefusal}
use Rattle.numbers.specs.declared.refusal.NumberRefusal.TheVariants as refusal
use Rattle.numbers.specs.Input.{Input}
use Rattle.numbers.specs.Number.{groups, limit, ends_early, misspelt}

-- the groups of a number were taken, in at most so many bytes more than one, and the place counted along
pub record Taken (more : ℕ) (before : Input) (n : ℕ) (left : Input) : Type 0 where
  pub fits : n < limit more
  pub bytes : before.bytes ≡ groups more n ++ left.bytes
  pub place : left.place ≡ before.place + length (groups more n)

abbrev pub Faulty : Fault → ℕ → List ℕ → Type 0
Faulty EndsEarly more bytes = ends_early more bytes ≡ true
Faulty Misspelt more bytes = misspelt more bytes ≡ true

-- the refusal of a number that begins at a place
abbrev pub refusal_at : Fault → ℕ → NumberRefusal
refusal_at EndsEarly place = refusal.EndsEarly place
refusal_at Misspelt place = refusal.Misspelt place
