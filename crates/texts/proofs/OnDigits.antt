-- The digits of a number, from one digit to the next
use Rattle.std.proofs.Common.{◌≡◌, ℕ, ◌+◌, ◌/◌, ◌^◌, ◌<◌, ◌≤◌, length, decimal, ap, ◌∙◌, length-append}
use Rattle.std.proofs.lemmas.Fmt.{decimal_digit, decimal_step}

pub length_one_digit : (n : ℕ) → n < 10 → length (decimal n) ≡ 1
length_one_digit n h = ap length (decimal_digit n h)

pub length_more_digits : (n : ℕ) → 10 ≤ n → n < 2 ^ 64 → length (decimal n) ≡ length (decimal (n / 10)) + 1
length_more_digits n h fits = ap length (decimal_step n h fits) ∙ length-append (decimal (n / 10)) _
