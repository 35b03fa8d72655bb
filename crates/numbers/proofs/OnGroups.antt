-- The groups of a number, from one byte to the next
use Rattle.std.proofs.Common.{◌≡◌, ℕ, zero, suc, ◌+◌, ◌-◌, ◌*◌, ◌/◌, ◌%◌, ◌^◌, ◌<◌, ◌≤◌, true, false, cond, ltb, ◌⊎◌, List, [], ◌∷◌, ◌++◌, length, sym, refl, ap, ◌∙◌, inl, inr, arith, pow_mono}
use Rattle.std.proofs.lemmas.Nat.{pow_below, pow-add}
use Rattle.std.proofs.lemmas.Bool.{lt-ltb, le-ltb}
use Rattle.numbers.specs.Number.{groups, limit}

pub one_group : (more n : ℕ) → (more ≡ 0) ⊎ (n < 128) → groups more n ≡ n ∷ []
one_group zero n h = refl
one_group (suc k) n (inl e) = absurd (omega arith)
one_group (suc k) n (inr h) = rw lt-ltb refl

-- the byte less that is left behind a first byte
pub back : (k : ℕ) → suc k - 1 ≡ k
back k = omega arith

pub more_groups : (more n : ℕ) → (more ≡ 0 → ⊥) → 128 ≤ n → groups more n ≡ (128 + n % 128) ∷ groups (more - 1) (n / 128)
more_groups zero n h l = absurd (h refl)
more_groups (suc k) n h l = rw (le-ltb n 128 l, back k) refl

pub some_group : (more n : ℕ) → 0 < length (groups more n)
some_group zero n = omega arith
some_group (suc k) n = elim (ltb n 128) as (λ v. 0 < length (cond v (n ∷ []) ((128 + n % 128) ∷ groups k (n / 128)))) [ true ↦ omega arith | false ↦ omega arith ]

pub limit_behind : (more n : ℕ) → (more ≡ 0 → ⊥) → n < limit more → n / 128 < limit (more - 1)
limit_behind more n h l =
    let e : 2 ^ (7 * more + 4) ≡ 2 ^ (7 * (more - 1) + 4) * 128 = ap (λ n. 2 ^ n) (omega arith) ∙ pow-add 2 (7 * (more - 1) + 4) 7 in
    omega arith

limit_before : (more high b : ℕ) → (more ≡ 0 → ⊥) → high < limit (more - 1) → high * 128 + b % 128 < limit more
limit_before more high b h l =
    let e : 2 ^ (7 * more + 4) ≡ 2 ^ (7 * (more - 1) + 4) * 128 = ap (λ n. 2 ^ n) (omega arith) ∙ pow-add 2 (7 * (more - 1) + 4) 7 in
    omega arith

limit_of_one : (more b : ℕ) → (more ≡ 0 → b < 16) → b < 128 → b < limit more
limit_of_one zero b few h = few refl
limit_of_one (suc k) b few h = omega (arith, pow_below 7 (7 * suc k + 4) (omega arith))

pub below_25 : (more high : ℕ) → more ≤ 4 → (more ≡ 0 → ⊥) → high < limit (more - 1) → high < 2 ^ 25
below_25 more high h n l = let p : 2 ^ (7 * (more - 1) + 4) ≤ 2 ^ 25 = pow_mono {j = 25} (omega arith) in omega arith

pub last_length : (more n : ℕ) → n < 128 → length (groups more n) ≡ 1
last_length more n h = ap length (one_group more n (inr h))

-- a first byte that goes on, and the groups behind it
module _ (first : ℕ) (goes_on : 128 ≤ first) (more high : ℕ) (some_more : more ≡ 0 → ⊥) (byte : first < 256) (some : 0 < high) where
  further_is : groups more (high * 128 + first % 128) ≡ first ∷ groups (more - 1) high
  further_is =
      let joined = high * 128 + first % 128 in
      let d : joined / 128 ≡ high = omega arith in
      let m : 128 + joined % 128 ≡ first = omega arith in
      more_groups more joined some_more (omega arith) ∙ rw (d, m) refl

  pub further_length : length (groups more (high * 128 + first % 128)) ≡ suc (length (groups (more - 1) high))
  further_length = ap length further_is

-- bytes with a first one, and what stands at their start
module _ (bytes : List ℕ) (first : ℕ) (rest : List ℕ) (parted : bytes ≡ first ∷ rest) where
  pub last_group : (more : ℕ) → (more ≡ 0 → first < 16) → first < 128 → (first < limit more) × (bytes ≡ groups more first ++ rest)
  last_group more few h =
      (limit_of_one more first few h, parted ∙ sym (ap (λ l. l ++ rest) (one_group more first (inr h))))

  module _ (goes_on : 128 ≤ first) where
    pub further_group : (more high : ℕ) (behind : List ℕ) → (more ≡ 0 → ⊥) → first < 256 → 0 < high → (high < limit (more - 1)) × (rest ≡ groups (more - 1) high ++ behind) → (high * 128 + first % 128 < limit more) × (bytes ≡ groups more (high * 128 + first % 128) ++ behind)
    further_group more high behind n byte some found =
        let spelt = further_is first goes_on more high n byte some in
        (limit_before more high first n found.0, parted ∙ ap (λ l. first ∷ l) found.1 ∙ sym (ap (λ l. l ++ behind) spelt))
