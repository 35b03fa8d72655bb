-- How many bytes a number takes
use Rattle.std.proofs.Common.{◌≡◌, ℕ, zero, suc, ◌/◌, ◌%◌, ◌<◌, ◌≤◌, ◌+◌, Bool, cond, ltb, [], ◌∷◌, length, refl, ap, arith}
use Rattle.std.proofs.lemmas.Bool.{cond_both, lt-ltb}
use Rattle.numbers.specs.Number.{groups, spelled}

-- a number below 128 takes one byte, and each group more takes one more
one_group : (more n : ℕ) → n < 128 → length (groups more n) ≡ 1
one_group zero n h = refl
one_group (suc more) n h = ap (λ (b : Bool). length (cond b (n ∷ []) ((128 + n % 128) ∷ groups more (n / 128)))) (lt-ltb n 128 h)

more_groups : (more n most : ℕ) → length (groups more (n / 128)) ≤ most → length (groups (suc more) n) ≤ suc most
more_groups more n most h =
    cond_both (ltb n 128) (n ∷ []) ((128 + n % 128) ∷ groups more (n / 128)) (λ l. length l ≤ suc most) (λ _. omega arith) (λ _. omega arith)

last_group : (n : ℕ) → length (groups 0 n) ≤ 1
last_group n = omega arith

pub one_byte : (n : ℕ) → n < 128 → length (spelled n) ≡ 1
unfolding spelled
one_byte n h = one_group 4 n h

pub two_bytes : (n : ℕ) → n < 16384 → length (spelled n) ≤ 2
unfolding spelled
two_bytes n h = more_groups 3 n 1 (let e = one_group 3 (n / 128) (omega arith) in omega arith)

pub three_bytes : (n : ℕ) → n < 2097152 → length (spelled n) ≤ 3
unfolding spelled
three_bytes n h = more_groups 3 n 2 (more_groups 2 (n / 128) 1 (let e = one_group 2 (n / 128 / 128) (omega arith) in omega arith))

pub five_bytes : (n : ℕ) → length (spelled n) ≤ 5
unfolding spelled
five_bytes n = more_groups 3 n 4 (more_groups 2 (n / 128) 3 (more_groups 1 (n / 128 / 128) 2 (more_groups 0 (n / 128 / 128 / 128) 1 (last_group (n / 128 / 128 / 128 / 128)))))
