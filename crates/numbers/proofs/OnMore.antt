-- A reading that has bytes enough gives the same with more bytes behind
use Rattle.std.proofs.Common.{◌≡◌, ℕ, zero, suc, ◌+◌, ◌*◌, ◌%◌, ◌<◌, ◌≤◌, Bool, true, false, cond, ◌&&◌, ◌||◌, List, [], ◌∷◌, ◌++◌, length, drop, Ok, Err, refl, ap, ◌∙◌, ⊎_elim, arith, length-drop}
use Rattle.std.proofs.lemmas.List.{drop-append-le}
use Rattle.std.proofs.lemmas.Bool.{both_ways, cases_lt, cases_Bool, and_cases, or_parts, cond-true, cond-false, eq-eqb}
use Rattle.numbers.specs.Input.{Input, input, Reading, then, value_of, refused_at}
use Rattle.numbers.specs.Number.{continues, ends_early, zero_first, misspelt, size, value, number_in}
use Rattle.numbers.proofs.OnSpellings.{not_refused, found_same}

-- the input with more bytes behind, and what a reading gives with them left
abbrev pub more : List ℕ → Input → Input
more tail i = input i.place (i.bytes ++ tail)

abbrev pub with_more : {A : Type 0} → List ℕ → Reading A → Reading A
with_more tail (Ok found) = Ok (found.0, more tail found.1)
with_more tail (Err refused) = Err refused

pub same_value : {A : Type 0} (tail : List ℕ) (r : Reading A) → value_of (with_more tail r) ≡ value_of r
same_value tail (Ok found) = refl
same_value tail (Err refused) = refl

pub then_more : {A B : Type 0} (tail : List ℕ) (first longer : Reading A) (next : A → Input → Reading B) → longer ≡ with_more tail first → ((made : A) (left : Input) → first ≡ Ok (made, left) → next made (more tail left) ≡ with_more tail (next made left)) → then longer next ≡ with_more tail (then first next)
then_more tail (Ok found) longer next e same = ap (λ (r : Reading _). then r next) e ∙ same found.0 found.1 refl
then_more tail (Err refused) longer next e same = ap (λ (r : Reading _). then r next) e

-- a number that may have so many bytes more than one, where there are as many
ends_same : (k : ℕ) (bytes tail : List ℕ) → k < length bytes → ends_early k (bytes ++ tail) ≡ ends_early k bytes
ends_same k [] tail h = absurd (omega arith)
ends_same zero (byte ∷ bytes) tail h = refl
ends_same (suc k) (byte ∷ bytes) tail h = ap (λ ends. continues byte && ends) (ends_same k bytes tail (omega arith))

zero_same : (bytes tail : List ℕ) → 0 < length bytes → zero_first (bytes ++ tail) ≡ zero_first bytes
zero_same [] tail h = absurd (omega arith)
zero_same (byte ∷ bytes) tail h = refl

misspelt_same : (k : ℕ) (bytes tail : List ℕ) → k < length bytes → misspelt k (bytes ++ tail) ≡ misspelt k bytes
misspelt_same k [] tail h = absurd (omega arith)
misspelt_same zero (byte ∷ bytes) tail h = refl
misspelt_same (suc k) (byte ∷ bytes) tail h =
    ap (λ first. continues byte && (first || misspelt k (bytes ++ tail))) (zero_same bytes tail (omega arith))
    ∙ ap (λ wrong. continues byte && (zero_first bytes || wrong)) (misspelt_same k bytes tail (omega arith))

size_same : (k : ℕ) (bytes tail : List ℕ) → k < length bytes → size k (bytes ++ tail) ≡ size k bytes
size_same k [] tail h = absurd (omega arith)
size_same zero (byte ∷ bytes) tail h = refl
size_same (suc k) (byte ∷ bytes) tail h = ap (λ n. cond (continues byte) (suc n) 1) (size_same k bytes tail (omega arith))

value_same : (k : ℕ) (bytes tail : List ℕ) → k < length bytes → value k (bytes ++ tail) ≡ value k bytes
value_same k [] tail h = absurd (omega arith)
value_same zero (byte ∷ bytes) tail h = refl
value_same (suc k) (byte ∷ bytes) tail h =
    ap (λ high. cond (continues byte) (high * 128 + byte % 128) byte) (value_same k bytes tail (omega arith))

size_few : (k : ℕ) (bytes : List ℕ) → size k bytes ≤ suc k
size_few zero [] = omega arith
size_few (suc k) [] = omega arith
size_few zero (byte ∷ bytes) = omega arith
size_few (suc k) (byte ∷ bytes) = by (continues byte) (size_few k bytes)
  where
    by : (goes_on : Bool) → size k bytes ≤ suc k → cond goes_on (suc (size k bytes)) 1 ≤ suc (suc k)
    by true few = omega arith
    by false few = omega arith

pub number_more : (tail : List ℕ) (i : Input) → 5 ≤ length i.bytes → number_in (more tail i) ≡ with_more tail (number_in i)
unfolding number_in
number_more tail i h =
    ap (λ ends. refused_at ends 11 i.place (refused_at (misspelt 4 whole) 12 i.place (Ok (value 4 whole, input (i.place + size 4 whole) (drop (size 4 whole) whole))))) (ends_same 4 i.bytes tail (omega arith))
    ∙ ap (λ wrong. refused_at ends 11 i.place (refused_at wrong 12 i.place (Ok (value 4 whole, input (i.place + size 4 whole) (drop (size 4 whole) whole))))) (misspelt_same 4 i.bytes tail (omega arith))
    ∙ ap (λ n. told ends wrong n (size 4 whole) (drop (size 4 whole) whole)) (value_same 4 i.bytes tail (omega arith))
    ∙ ap (λ n. told ends wrong (value 4 i.bytes) n (drop n whole)) (size_same 4 i.bytes tail (omega arith))
    ∙ ap (told ends wrong (value 4 i.bytes) (size 4 i.bytes)) (drop-append-le (size 4 i.bytes) i.bytes tail (let few = size_few 4 i.bytes in omega arith))
    ∙ by ends wrong
  where
    whole : List ℕ
    whole = i.bytes ++ tail

    ends : Bool
    ends = ends_early 4 i.bytes

    wrong : Bool
    wrong = misspelt 4 i.bytes

    told : Bool → Bool → ℕ → ℕ → List ℕ → Reading ℕ
    told ends wrong n count rest = refused_at ends 11 i.place (refused_at wrong 12 i.place (Ok (n, input (i.place + count) rest)))

    by : (ends wrong : Bool) → told ends wrong (value 4 i.bytes) (size 4 i.bytes) (drop (size 4 i.bytes) i.bytes ++ tail) ≡ with_more tail (told ends wrong (value 4 i.bytes) (size 4 i.bytes) (drop (size 4 i.bytes) i.bytes))
    by true wrong = refl
    by false true = refl
    by false false = refl

-- bytes that are refused in no way
record Valid (k : ℕ) (bytes : List ℕ) : Type 0 where
  ended : ends_early k bytes ≡ false
  right : misspelt k bytes ≡ false

record ValidBehind (k : ℕ) (bytes : List ℕ) : Type 0 where
  valid : Valid k bytes
  first : zero_first bytes ≡ false

behind : (k byte : ℕ) (bytes : List ℕ) → continues byte ≡ true → Valid (suc k) (byte ∷ bytes) → ValidBehind k bytes
behind k byte bytes goes_on valid =
    let further : ends_early k bytes ≡ false = ⊎_elim (λ f. absurd (both_ways _ f goes_on)) (λ f. f) (and_cases _ _ valid.ended) in
    let rightly = or_parts (zero_first bytes) (misspelt k bytes) (⊎_elim (λ f. absurd (both_ways _ f goes_on)) (λ f. f) (and_cases _ _ valid.right)) in
    record { valid = record { ended = further; right = rightly.1 }; first = rightly.0 }

not_zero : (byte : ℕ) → zero_first (byte ∷ []) ≡ false → 0 < byte
not_zero byte first = ⊎_elim (λ none. absurd (both_ways _ first (eq-eqb byte 0 (omega arith)))) (λ some. omega arith) (cases_lt byte 1)

some_value : (k : ℕ) (bytes : List ℕ) → Valid k bytes → zero_first bytes ≡ false → 0 < value k bytes
some_value zero [] valid first = absurd (both_ways true valid.ended refl)
some_value (suc k) [] valid first = absurd (both_ways true valid.ended refl)
some_value zero (byte ∷ bytes) valid first = not_zero byte first
some_value (suc k) (byte ∷ bytes) valid first =
    ⊎_elim
    (λ (goes_on : continues byte ≡ true).
    let further = behind k byte bytes goes_on valid in
    let high = some_value k bytes further.valid further.first in
    rw (cond-true (continues byte) (value k bytes * 128 + byte % 128) byte goes_on) (omega arith))
    (λ (ends : continues byte ≡ false). rw (cond-false (continues byte) (value k bytes * 128 + byte % 128) byte ends) (not_zero byte first))
    (cases_Bool (continues byte))

-- values below a bound take at most so many bytes
abbrev Short : ℕ → ℕ → Type 0
Short bound most = (k : ℕ) (bytes : List ℕ) → Valid k bytes → value k bytes < bound → size k bytes ≤ most

one_more : (bound most : ℕ) → ((k : ℕ) (bytes : List ℕ) → ValidBehind k bytes → value k bytes < bound → size k bytes ≤ most) → Short (bound * 128) (suc most)
one_more bound most short zero [] valid h = omega arith
one_more bound most short (suc k) [] valid h = omega arith
one_more bound most short zero (byte ∷ bytes) valid h = omega arith
one_more bound most short (suc k) (byte ∷ bytes) valid h =
    ⊎_elim
    (λ (goes_on : continues byte ≡ true).
    let further = behind k byte bytes goes_on valid in
    let less : value k bytes * 128 + byte % 128 < bound * 128 = rw (cond-true (continues byte) (value k bytes * 128 + byte % 128) byte goes_on) at h in
    let few = short k bytes further (omega arith) in
    rw (cond-true (continues byte) (suc (size k bytes)) 1 goes_on) (omega arith))
    (λ (ends : continues byte ≡ false). rw (cond-false (continues byte) (suc (size k bytes)) 1 ends) (omega arith))
    (cases_Bool (continues byte))

one : Short 128 1
one = one_more 1 0 (λ k bytes further h. let high = some_value k bytes further.valid further.first in absurd (omega arith))

two : Short 16384 2
two = one_more 128 1 (λ k bytes further h. one k bytes further.valid h)

three : Short 2097152 3
three = one_more 16384 2 (λ k bytes further h. two k bytes further.valid h)

-- how many bytes are left behind a number
pub record NumberTaken (i : Input) (n : ℕ) (left : Input) : Type 0 where
  pub few : length i.bytes ≤ length left.bytes + 5
  pub one_byte : n < 128 → length i.bytes ≤ length left.bytes + 1
  pub two_bytes : n < 16384 → length i.bytes ≤ length left.bytes + 2
  pub three_bytes : n < 2097152 → length i.bytes ≤ length left.bytes + 3

pub number_taken : (i : Input) (n : ℕ) (left : Input) → number_in i ≡ Ok (n, left) → NumberTaken i n left
unfolding number_in
number_taken i n left e =
    let ended = not_refused _ _ _ _ _ e in
    let right = not_refused _ _ _ _ _ ended.1 in
    let same = found_same _ _ right.1 in
    let number : value 4 i.bytes ≡ n = ap (λ found. found.0) same in
    let rest : drop (size 4 i.bytes) i.bytes ≡ left.bytes = ap (λ found. found.1.bytes) same in
    let valid : Valid 4 i.bytes = record { ended = ended.0; right = right.0 } in
    let count = ap length rest in
    let dropped = length-drop (size 4 i.bytes) i.bytes in
    let most = size_few 4 i.bytes in
    record {
      few = omega arith;
      one_byte = λ h. let short = one 4 i.bytes valid (omega arith) in omega arith;
      two_bytes = λ h. let short = two 4 i.bytes valid (omega arith) in omega arith;
      three_bytes = λ h. let short = three 4 i.bytes valid (omega arith) in omega arith;
    }
