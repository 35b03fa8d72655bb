-- Numbers that look random and are the same in every run
use Rattle.std.specs.Prelude.{ℕ, ◌+◌, ◌*◌, ◌/◌, ◌%◌, ◌^◌, max}

-- every state below 2^32 comes after one other, so the states repeat after 2^32 steps and not before
abbrev pub state_after : ℕ → ℕ
state_after state = (state * 1664525 + 1013904223) % 2 ^ 32

-- one of `count` numbers from `least` on; the lowest bits of a state vary too little to count
abbrev pub number_of : ℕ → ℕ → ℕ → ℕ
number_of state least count = (least + (state / 256) % max count 1) % 2 ^ 32
