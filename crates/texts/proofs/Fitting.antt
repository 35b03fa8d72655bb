-- Texts that fit
use Rattle.std.proofs.Common.{◌≡◌, ℕ, ◌^◌, ◌<◌, ◌≤◌, Bool, true, false, ltb, List, [], ◌∷◌, ◌++◌, length, decimal, Ok, Err, Result, refl, arith, length-append}
use Rattle.std.proofs.lemmas.Bool.{le-ltb}
use Rattle.std.proofs.lemmas.Fmt.{length-decimal-le}
use Rattle.refusals.specs.Answer.{plain, carrying, answer_of, refused_if}
use Rattle.texts.specs.declared.too_short.TooShort.{TooShort}
use Rattle.texts.specs.Line.{line}
use Rattle.texts.specs.RefusalLine.{refusal_words}
use Rattle.texts.specs.TooShort.{too_short_told}
use Rattle.texts.specs.Write.{write_answer, FitsIn}

-- a text that is no longer than the memory is written
pub fits_in : (most : ℕ) (text memory : List ℕ) (result : Result ℕ TooShort) → answer_of too_short_told result ≡ write_answer text memory → length text ≤ most → FitsIn most memory result
fits_in most text memory (Ok n) e short room = refl
fits_in most text memory (Err refusal) e short room = by (ltb (length memory) (length text)) (le-ltb (length memory) (length text) (omega arith)) e
  where
    by : (long : Bool) → long ≡ false → Err (too_short_told refusal) ≡ refused_if long 8 (Ok (length text)) → false ≡ true
    by true h e' = cc
    by false h e' = cc

-- how long the line of a refusal is
pub three_digits : (n : ℕ) → n < 256 → length (decimal n) ≤ 3
three_digits n small = length-decimal-le 3 n (omega arith) (omega arith) (omega arith)

pub twenty_digits : (n : ℕ) → n < 2 ^ 64 → length (decimal n) ≤ 20
twenty_digits n small = length-decimal-le 20 n (omega arith) (omega arith) small

pub bare_length : (number : ℕ) → number < 256 → length (line (refusal_words (plain number))) ≤ 33
bare_length number small = let n = three_digits number small in let l = length-append (decimal number) (10 ∷ []) in omega arith

pub carrying_length : (number value : ℕ) → number < 256 → value < 2 ^ 64 → length (line (refusal_words (carrying number value))) ≤ 33
carrying_length number value small fits =
    let n = three_digits number small in
    let v = twenty_digits value fits in
    let l = length-append (decimal value) (10 ∷ []) in
    let m = length-append (decimal number) (32 ∷ (decimal value ++ (10 ∷ []))) in
    omega arith
