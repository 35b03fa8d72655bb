-- Each number has one spelling, and a number is read exactly where its spelling stands
use Rattle.std.specs.Prelude.{◌≡◌, ℕ, ◌+◌, ◌^◌, ◌<◌, List, ◌++◌, length, Ok}
use Rattle.std.specs.List.{AllByRecursion}
use Rattle.numbers.specs.Input.{Input, input}
use Rattle.numbers.specs.Number.{spelled, number_in}

-- bytes that begin with the spelling of a number begin with that of no other, and the same follows it
abbrev pub OneSpelling : Type 0
OneSpelling = (m n : ℕ) (s t : List ℕ) → spelled m ++ s ≡ spelled n ++ t → (m ≡ n) × (s ≡ t)

abbrev pub SpellingsAreRead : Type 0
SpellingsAreRead =
    (n place : ℕ) (rest : List ℕ) → n < 2 ^ 32
    → number_in (input place (spelled n ++ rest)) ≡ Ok (n, input (place + length (spelled n)) rest)

abbrev pub ByteString : List ℕ → Type 0
ByteString bytes = AllByRecursion (λ byte. byte < 256) bytes

-- what is read was spelled, and the input left stands behind it
pub record SpelledAt (before : Input) (n : ℕ) (left : Input) : Type 0 where
  pub fits : n < 2 ^ 32
  pub bytes : before.bytes ≡ spelled n ++ left.bytes
  pub place : left.place ≡ before.place + length (spelled n)

abbrev pub OnlySpellingsAreRead : Type 0
OnlySpellingsAreRead =
    (before : Input) (n : ℕ) (left : Input) → ByteString before.bytes
    → number_in before ≡ Ok (n, left) → SpelledAt before n left
