-- Spellings are read, and nothing else is
use Rattle.std.proofs.Common.{◌≡◌, ℕ, zero, suc, ◌+◌, ◌-◌, ◌*◌, ◌/◌, ◌%◌, ◌<◌, ◌≤◌, Bool, true, false, List, [], ◌∷◌, ◌++◌, length, get_or, drop, Ok, Err, sym, refl, ap, ◌∙◌, inr, ⊎_elim, arith}
use Rattle.std.proofs.lemmas.List.{drop_at}
use Rattle.std.proofs.lemmas.Bool.{both_ways, lt-leb, le-leb, leb-true, leb-false, ltb-false, le-ltb, ne_eqb, eqb-true, cases_lt, cases_Bool, and_left, and_right, and_parts, and_cases, or_from, or_parts, or_cases, cond-true, cond-false}
use Rattle.refusals.specs.Answer.{Answer}
use Rattle.numbers.specs.Input.{Input, input, past, Reading, refused_at}
use Rattle.numbers.specs.Number.{groups, limit, spelled, continues, ends_early, zero_first, misspelt, size, value, number_in}
use Rattle.numbers.specs.declared.groups.Fault.{Fault}
use Rattle.numbers.specs.declared.groups.Fault.TheVariants.{EndsEarly, Misspelt}
use Rattle.numbers.specs.Fault.{Taken, Faulty, refusal_at}
use Rattle.numbers.specs.Refusal.{number_told}
use Rattle.numbers.specs.Spellings.{OneSpelling, SpellingsAreRead, ByteString, SpelledAt, OnlySpellingsAreRead}
use Rattle.numbers.proofs.OnGroups.{back, one_group, more_groups, limit_behind, last_group, further_group}

-- a spelling by its first byte
short_is : (more n : ℕ) (rest : List ℕ) → n < 128 → groups more n ++ rest ≡ n ∷ rest
short_is more n rest h = ap (λ l. l ++ rest) (one_group more n (inr h))

long_is : (more n : ℕ) (rest : List ℕ) → 128 ≤ n → groups (suc more) n ++ rest ≡ (128 + n % 128) ∷ (groups more (n / 128) ++ rest)
long_is more n rest h =
    ap (λ l. l ++ rest) (more_groups (suc more) n (λ z. omega arith) h ∙ ap (λ k. (128 + n % 128) ∷ groups k (n / 128)) (back more))

pub spelled_ends : (more n : ℕ) (rest : List ℕ) → ends_early more (groups more n ++ rest) ≡ false
spelled_ends zero n rest = refl
spelled_ends (suc more) n rest =
    ⊎_elim
    (λ a. ap (ends_early (suc more)) (short_is (suc more) n rest a) ∙ and_left _ _ (lt-leb 128 n a))
    (λ a. ap (ends_early (suc more)) (long_is more n rest a) ∙ and_right _ _ (spelled_ends more (n / 128) rest))
    (cases_lt n 128)

zero_not_first : (more n : ℕ) (rest : List ℕ) → 0 < n → zero_first (groups more n ++ rest) ≡ false
zero_not_first zero n rest h = ne_eqb n 0 (λ e. omega arith)
zero_not_first (suc more) n rest h =
    ⊎_elim
    (λ a. ap zero_first (short_is (suc more) n rest a) ∙ ne_eqb n 0 (λ e. omega arith))
    (λ a. ap zero_first (long_is more n rest a) ∙ ne_eqb (128 + n % 128) 0 (λ e. omega arith))
    (cases_lt n 128)

pub spelled_rightly : (more n : ℕ) (rest : List ℕ) → n < limit more → misspelt more (groups more n ++ rest) ≡ false
spelled_rightly zero n rest h = le-ltb 15 n (omega arith)
spelled_rightly (suc more) n rest h =
    ⊎_elim
    (λ a. ap (misspelt (suc more)) (short_is (suc more) n rest a) ∙ and_left _ _ (lt-leb 128 n a))
    (λ a.
    let less : n / 128 < limit more = rw (back more) at (limit_behind (suc more) n (λ z. omega arith) h) in
    ap (misspelt (suc more)) (long_is more n rest a)
    ∙ and_right _ _ (or_from _ _ (zero_not_first more (n / 128) rest (omega arith)) (spelled_rightly more (n / 128) rest less)))
    (cases_lt n 128)

pub value_spelled : (more n : ℕ) (rest : List ℕ) → value more (groups more n ++ rest) ≡ n
value_spelled zero n rest = refl
value_spelled (suc more) n rest =
    ⊎_elim
    (λ a. ap (value (suc more)) (short_is (suc more) n rest a) ∙ cond-false (continues n) _ _ (lt-leb 128 n a))
    (λ a.
    let high = value_spelled more (n / 128) rest in
    ap (value (suc more)) (long_is more n rest a)
    ∙ cond-true (continues (128 + n % 128)) _ _ (le-leb 128 _ (omega arith))
    ∙ (omega arith))
    (cases_lt n 128)

pub size_spelled : (more n : ℕ) (rest : List ℕ) → size more (groups more n ++ rest) ≡ length (groups more n)
size_spelled zero n rest = refl
size_spelled (suc more) n rest =
    ⊎_elim
    (λ a.
    ap (size (suc more)) (short_is (suc more) n rest a)
    ∙ cond-false (continues n) _ _ (lt-leb 128 n a)
    ∙ sym (ap length (one_group (suc more) n (inr a))))
    (λ a.
    ap (size (suc more)) (long_is more n rest a)
    ∙ cond-true (continues (128 + n % 128)) _ _ (le-leb 128 _ (omega arith))
    ∙ ap suc (size_spelled more (n / 128) rest)
    ∙ sym (ap length (more_groups (suc more) n (λ z. omega arith) a ∙ ap (λ k. (128 + n % 128) ∷ groups k (n / 128)) (back more))))
    (cases_lt n 128)

pub behind_spelled : (more n : ℕ) (rest : List ℕ) → drop (size more (groups more n ++ rest)) (groups more n ++ rest) ≡ rest
behind_spelled more n rest = drop_at (groups more n) rest _ (sym (size_spelled more n rest))

pub one_spelling : OneSpelling
unfolding spelled
one_spelling m n s t e = (
  sym (value_spelled 4 m s) ∙ ap (value 4) e ∙ value_spelled 4 n t,
  sym (behind_spelled 4 m s) ∙ ap (λ bytes. drop (size 4 bytes) bytes) e ∙ behind_spelled 4 n t,
)

-- what reading a number of at most so many bytes more than one finds
abbrev groups_in : ℕ → Input → Reading ℕ
groups_in more input =
    refused_at (ends_early more input.bytes) 11 input.place
    (refused_at (misspelt more input.bytes) 12 input.place
    (Ok (value more input.bytes, past (size more input.bytes) input)))

groups_read : (more n place : ℕ) (rest : List ℕ) → n < limit more → groups_in more (input place (groups more n ++ rest)) ≡ Ok (n, input (place + length (groups more n)) rest)
groups_read more n place rest h =
    rw (spelled_ends more n rest, spelled_rightly more n rest h, value_spelled more n rest, behind_spelled more n rest, size_spelled more n rest) refl

pub spellings_are_read : SpellingsAreRead
unfolding spelled number_in
spellings_are_read n place rest h = groups_read 4 n place rest h

-- bytes that are refused in no way begin with a spelling
spelled_behind : (more : ℕ) (bytes : List ℕ) → ByteString bytes → ends_early more bytes ≡ false → misspelt more bytes ≡ false → (value more bytes < limit more) × (bytes ≡ groups more (value more bytes) ++ drop (size more bytes) bytes)
spelled_behind zero [] strung ended right = absurd (both_ways true ended refl)
spelled_behind (suc more) [] strung ended right = absurd (both_ways true ended refl)
spelled_behind zero (byte ∷ bytes) strung ended right = let few = ltb-false 15 byte right in (omega arith, refl)
spelled_behind (suc more) (byte ∷ bytes) strung ended right =
    ⊎_elim
    (λ (goes_on : continues byte ≡ true).
    let late = leb-true 128 byte goes_on in
    let further : ends_early more bytes ≡ false = ⊎_elim (λ f. absurd (both_ways _ f goes_on)) (λ f. f) (and_cases _ _ ended) in
    let rightly = or_parts (zero_first bytes) (misspelt more bytes) (⊎_elim (λ f. absurd (both_ways _ f goes_on)) (λ f. f) (and_cases _ _ right)) in
    let behind = spelled_behind more bytes strung.1 further rightly.1 in
    let high : 0 < value more bytes = some_high more bytes _ behind.1 rightly.0 in
    let found : (value more bytes < limit (suc more - 1)) × (bytes ≡ groups (suc more - 1) (value more bytes) ++ drop (size more bytes) bytes) = rw (back more) behind in
    let spelt = further_group (byte ∷ bytes) byte bytes refl late (suc more) (value more bytes) (drop (size more bytes) bytes) (λ z. omega arith) strung.0 high found in
    rw (cond-true (continues byte) (value more bytes * 128 + byte % 128) byte goes_on, cond-true (continues byte) (suc (size more bytes)) 1 goes_on) spelt)
    (λ (ends : continues byte ≡ false).
    let low = leb-false 128 byte ends in
    rw (cond-false (continues byte) (value more bytes * 128 + byte % 128) byte ends, cond-false (continues byte) (suc (size more bytes)) 1 ends)
    (last_group (byte ∷ bytes) byte bytes refl (suc more) (λ e. absurd (omega arith)) low))
    (cases_Bool (continues byte))
  where
    some_high : (more : ℕ) (bytes rest : List ℕ) → bytes ≡ groups more (value more bytes) ++ rest → zero_first bytes ≡ false → 0 < value more bytes
    some_high more bytes rest spelt first =
        ⊎_elim
        (λ none.
        let z : value more bytes ≡ 0 = omega arith in
        absurd (both_ways _ first (ap zero_first (spelt ∙ ap (λ n. groups more n ++ rest) z) ∙ zeros more rest)))
        (λ some. some)
        (cases_lt (value more bytes) 1)
      where
        zeros : (more : ℕ) (rest : List ℕ) → zero_first (groups more 0 ++ rest) ≡ true
        zeros zero rest = refl
        zeros (suc more) rest = refl

pub not_refused : {A : Type 0} (applies : Bool) (number place : ℕ) (otherwise : Answer A) (found : A) → refused_at applies number place otherwise ≡ Ok found → (applies ≡ false) × (otherwise ≡ Ok found)
not_refused true number place otherwise found e = cc
not_refused false number place otherwise found e = (refl, e)

pub found_same : {A : Type 0} (a b : A) → ◌≡◌ {A = Answer A} (Ok a) (Ok b) → a ≡ b
found_same a b e = cc

groups_spelled : (more : ℕ) (before : Input) (n : ℕ) (left : Input) → ByteString before.bytes → groups_in more before ≡ Ok (n, left) → (n < limit more) × (before.bytes ≡ groups more n ++ left.bytes) × (left.place ≡ before.place + length (groups more n))
groups_spelled more before n left strung e =
    let ended = not_refused _ _ _ _ _ e in
    let right = not_refused _ _ _ _ _ ended.1 in
    let same = found_same _ _ right.1 in
    let number : value more before.bytes ≡ n = ap (λ found. found.0) same in
    let rest : past (size more before.bytes) before ≡ left = ap (λ found. found.1) same in
    let spelt = spelled_behind more before.bytes strung ended.0 right.0 in
    let count : size more before.bytes ≡ length (groups more n) =
    ap (size more) spelt.1 ∙ size_spelled more (value more before.bytes) _ ∙ ap (λ m. length (groups more m)) number in (
      rw number at spelt.0,
      spelt.1 ∙ ap (λ m. groups more m ++ drop (size more before.bytes) before.bytes) number ∙ ap (λ l. groups more n ++ l.bytes) rest,
      ap (λ l. l.place) (sym rest) ∙ ap (λ k. before.place + k) count,
    )

pub only_spellings_are_read : OnlySpellingsAreRead
unfolding spelled number_in
only_spellings_are_read before n left strung e =
    let spelt = groups_spelled 4 before n left strung e in
    record { fits = spelt.0; bytes = spelt.1; place = spelt.2 }

-- no bytes are refused in both ways
pub misspelt_ends : (more : ℕ) (bytes : List ℕ) → misspelt more bytes ≡ true → ends_early more bytes ≡ false
misspelt_ends zero [] e = absurd (both_ways false refl e)
misspelt_ends (suc more) [] e = absurd (both_ways false refl e)
misspelt_ends zero (byte ∷ bytes) e = refl
misspelt_ends (suc more) (byte ∷ bytes) e =
    and_right _ _ (⊎_elim (zero_ends more bytes) (misspelt_ends more bytes) (or_cases (zero_first bytes) (misspelt more bytes) (and_parts _ _ e).1))
  where
    zero_ends : (more : ℕ) (bytes : List ℕ) → zero_first bytes ≡ true → ends_early more bytes ≡ false
    zero_ends more [] e = absurd (both_ways false refl e)
    zero_ends zero (byte ∷ bytes) e = refl
    zero_ends (suc more) (byte ∷ bytes) e = and_left _ _ (lt-leb 128 byte (let z = eqb-true byte 0 e in omega arith))

-- the ways in which reading a number ends
module _ (before : Input) where
  pub number_read : (n : ℕ) (left : Input) → Taken 4 before n left → (number_in before ≡ Ok (n, left)) × SpelledAt before n left
  unfolding spelled number_in
  number_read n left taken = (
    ap (λ bytes. number_in (input before.place bytes)) taken.bytes
        ∙ groups_read 4 n before.place left.bytes taken.fits
        ∙ ap (λ place. Ok (n, input place left.bytes)) (sym taken.place),
    record { fits = taken.fits; bytes = taken.bytes; place = taken.place },
  )

  pub number_refused : (fault : Fault) → Faulty fault 4 before.bytes → number_in before ≡ Err (number_told (refusal_at fault before.place))
  unfolding number_in
  number_refused EndsEarly e = cond-true (ends_early 4 before.bytes) _ _ e
  number_refused Misspelt e =
      cond-false (ends_early 4 before.bytes) _ _ (misspelt_ends 4 before.bytes e) ∙ cond-true (misspelt 4 before.bytes) _ _ e

-- the bytes of a slice are a byte string
pub byte_string : (bytes : List ℕ) → ((i : ℕ) → get_or bytes i 0 < 256) → ByteString bytes
byte_string [] fits = tt
byte_string (byte ∷ bytes) fits = (fits 0, byte_string bytes (λ i. fits (suc i)))
