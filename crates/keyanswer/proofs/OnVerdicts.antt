-- How long the line of a verdict is
use Rattle.std.proofs.Common.{ℕ, ◌^◌, ◌<◌, ◌≤◌, [], ◌∷◌, ◌++◌, length, decimal, arith, length-append}
use Rattle.std.proofs.lemmas.Fmt.{length-decimal-le}
use Rattle.texts.specs.declared.word.Word.{Word}
use Rattle.texts.specs.declared.word.Word.TheVariants.{Number, Refused}
use Rattle.texts.specs.Line.{word_text, line}
use Rattle.texts.proofs.Fitting.{three_digits, twenty_digits}

module _ (sheet : Word) (short : length (word_text sheet) ≤ 6) where
  -- a pair of a length and a cost
  pub pair_line_length : (minutes cost : ℕ) → minutes < 2 ^ 32 → cost ≤ 1000000000000000 → length (line (sheet ∷ (Number minutes ∷ (Number cost ∷ [])))) ≤ 40
  pair_line_length minutes cost small few =
      let m = length-decimal-le 10 minutes (omega arith) (omega arith) (omega arith) in
      let c = length-decimal-le 16 cost (omega arith) (omega arith) (omega arith) in
      let end = length-append (decimal cost) (10 ∷ []) in
      let rest = length-append (decimal minutes) (32 ∷ (decimal cost ++ (10 ∷ []))) in
      let whole = length-append (word_text sheet) (32 ∷ (decimal minutes ++ (32 ∷ (decimal cost ++ (10 ∷ []))))) in
      omega arith

  -- a refusal of one input
  pub bare_about : (number : ℕ) → number < 256 → length (line (Refused ∷ (sheet ∷ (Number number ∷ [])))) ≤ 40
  bare_about number small =
      let n = three_digits number small in
      let end = length-append (decimal number) (10 ∷ []) in
      let whole = length-append (word_text sheet) (32 ∷ (decimal number ++ (10 ∷ []))) in
      omega arith

  pub carrying_about : (number value : ℕ) → number < 256 → value < 2 ^ 64 → length (line (Refused ∷ (sheet ∷ (Number number ∷ (Number value ∷ []))))) ≤ 40
  carrying_about number value small fits =
      let n = three_digits number small in
      let v = twenty_digits value fits in
      let end = length-append (decimal value) (10 ∷ []) in
      let rest = length-append (decimal number) (32 ∷ (decimal value ++ (10 ∷ []))) in
      let whole = length-append (word_text sheet) (32 ∷ (decimal number ++ (32 ∷ (decimal value ++ (10 ∷ []))))) in
      omega arith
