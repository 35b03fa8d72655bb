-- The lines of quotes, one behind another
use Rattle.std.proofs.Common.{◌≡◌, ℕ, ◌+◌, ◌-◌, ◌^◌, ◌<◌, ◌≤◌, suc, List, [], ◌∷◌, ◌++◌, length, take, drop, decimal, Some, None, Option, refl, ap, subst, arith, length-append}
use borrow.Rule.Slice.PartMut.{put_mid}
use Rattle.std.specs.List.{range_with_len, flat_map}
use Rattle.costs.specs.declared.cents.Cents.{Cents}
use Rattle.tariffs.specs.declared.quote.Quote.{Quote}
use Rattle.tariffs.specs.Meaning.{Meaning, Ranged}
use Rattle.texts.specs.Line.{line}
use Rattle.texts.specs.Put.{Put}
use Rattle.texts.proofs.Puts.{part_put}
use Rattle.texts.proofs.Fitting.{twenty_digits}
use Rattle.hire.specs.QuoteLine.{quote_words}

-- how long the line of a quote is
module _ (T : Meaning Cents) (F : Ranged T) (machine work : ℕ) (fits : machine < 2 ^ 64) where
  quoted_length : (q : Quote Cents) → T.quote machine work ≡ Some q → length (line (quote_words machine (Some q))) ≤ 63
  quoted_length q e =
      let minutes = (F.timed machine work q e).1 in
      let a = twenty_digits machine fits in
      let b = twenty_digits q.minutes (omega (arith, minutes)) in
      let c = twenty_digits q.cost.value (omega (arith, q.cost.within)) in
      let l = length-append (decimal q.cost.value) (10 ∷ []) in
      let m = length-append (decimal q.minutes) (32 ∷ (decimal q.cost.value ++ (10 ∷ []))) in
      let n = length-append (decimal machine) (32 ∷ (decimal q.minutes ++ (32 ∷ (decimal q.cost.value ++ (10 ∷ []))))) in
      omega arith

  unquoted_length : length (line (quote_words machine None)) ≤ 63
  unquoted_length =
      let a = twenty_digits machine fits in
      let n = length-append (decimal machine) (32 ∷ (110 ∷ (111 ∷ (110 ∷ (101 ∷ (10 ∷ [])))))) in
      omega arith

  pub by_quote : (found : Option (Quote Cents)) → T.quote machine work ≡ found → length (line (quote_words machine found)) ≤ 63
  by_quote None e = unquoted_length
  by_quote (Some q) e = quoted_length q e

  pub quote_length : length (line (quote_words machine (T.quote machine work))) ≤ 63
  quote_length = by_quote (T.quote machine work) refl

-- a text put at the start of a part that begins at a place of memory of so many bytes is put at that place
pub part_put_in : (was text part : List ℕ) (all at n : ℕ) → length was ≡ all → at ≤ all → Put (take (all - at) (drop at was)) 0 text part n → Put was at text (put_mid at (all - at) was part) (at + n)
part_put_in was text part all at n e = subst (λ (m : ℕ). at ≤ m → Put (take (m - at) (drop at was)) 0 text part n → Put was at text (put_mid at (m - at) was part) (at + n)) e (part_put was text part at n)

-- the texts of the numbers from a on: of all of them, with the next one first, and of none
pub all_of_range : (text : ℕ → List ℕ) (b : ℕ) → flat_map text (range_with_len 0 b) ≡ flat_map text (range_with_len 0 (b - 0))
all_of_range text b = ap (λ n. flat_map text (range_with_len 0 n)) (let e : b ≡ b - 0 = omega arith in e)

pub next_of_range : (text : ℕ → List ℕ) (a b : ℕ) → a < b → flat_map text (range_with_len a (b - a)) ≡ text a ++ flat_map text (range_with_len (a + 1) (b - (a + 1)))
next_of_range text a b h = ap (λ n. flat_map text (range_with_len a n)) (let e : b - a ≡ suc (b - (a + 1)) = omega arith in e)

pub none_of_range : (text : ℕ → List ℕ) (a b : ℕ) → b ≤ a → flat_map text (range_with_len a (b - a)) ≡ []
none_of_range text a b h = ap (λ n. flat_map text (range_with_len a n)) (let e : b - a ≡ 0 = omega arith in e)
