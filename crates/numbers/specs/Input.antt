-- What is left of an input, and what reading gives
use Rattle.std.specs.Prelude.{ℕ, ◌+◌, Bool, cond, List, drop, Ok, Err}
use Rattle.refusals.specs.Answer.{Answer, carrying}

-- the bytes that are left, and the offset of the first of them
pub record Input : Type 0 where
  pub place : ℕ
  pub bytes : List ℕ

abbrev pub input : ℕ → List ℕ → Input
input place bytes = record { place = place; bytes = bytes }

-- the input behind its first bytes
abbrev pub past : ℕ → Input → Input
past count before = input (before.place + count) (drop count before.bytes)

-- a value and the input left behind it, or a refusal
abbrev pub Reading : Type 0 → Type 0
Reading A = Answer (A × Input)

-- a reading goes on from what is left; a refusal ends it
abbrev pub then : {A B : Type 0} → Reading A → (A → Input → Reading B) → Reading B
then (Ok found) next = next found.0 found.1
then (Err refused) next = Err refused

abbrev pub refused_at : {A : Type 0} → Bool → ℕ → ℕ → Answer A → Answer A
refused_at applies number place otherwise = cond applies (Err (carrying number place)) otherwise

-- what a call that reads answers, and the input that it leaves: a refused one leaves all
abbrev pub value_of : {A : Type 0} → Reading A → Answer A
value_of (Ok found) = Ok found.0
value_of (Err refused) = Err refused

abbrev pub left_by : {A : Type 0} → Reading A → Input → Input
left_by (Ok found) before = found.1
left_by (Err refused) before = before
