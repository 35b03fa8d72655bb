-- A text put piece by piece
use Rattle.std.proofs.Common.{◌≡◌, ℕ, ◌+◌, ◌<◌, ◌≤◌, List, [], ◌++◌, length, Ok, Err, Result, sym, refl, ap, ◌∙◌, ⊎_elim, append_assoc, arith, length-append}
use Rattle.std.proofs.lemmas.Bool.{cases_lt}
use Rattle.refusals.specs.Answer.{Answer, answer_of}
use Rattle.texts.specs.Put.{Put}
use Rattle.texts.specs.TooShort.{too_short_told}
use Rattle.texts.specs.Write.{write_answer, write_after}
use Rattle.texts.specs.declared.too_short.TooShort.{TooShort}
use Rattle.texts.specs.Putting.{Puts}
use Rattle.texts.proofs.Puts.{put_none, put_then, put_answer, put_after, whole_put, fits_answer, fits_after, short_answer}

-- memory that holds the text from a place on, up to what is left of it
pub record Begun (was : List ℕ) (from : ℕ) (text memory : List ℕ) (end : ℕ) (left : List ℕ) : Type 0 where
  pub front : List ℕ
  pub put : Put was from front memory end
  pub parted : front ++ left ≡ text

pub begun_none : (was : List ℕ) (from : ℕ) (text : List ℕ) → Begun was from text was from text
begun_none was from text = record { front = []; put = put_none was from; parted = refl }

module _ (was : List ℕ) (from : ℕ) (text memory : List ℕ) (end : ℕ) (left : List ℕ) (begun : Begun was from text memory end left) where
  pub begun_more : (piece left' memory' : List ℕ) (end' : ℕ) → left ≡ piece ++ left' → Put memory end piece memory' end' → Begun was from text memory' end' left'
  begun_more piece left' memory' end' e put = record {
    front = begun.front ++ piece;
    put = put_then _ _ _ _ _ _ _ _ begun.put put;
    parted = append_assoc begun.front piece left' ∙ ap (λ l. begun.front ++ l) (sym e) ∙ begun.parted;
  }

  pub begun_same : (left' : List ℕ) → left ≡ left' → Begun was from text memory end left'
  begun_same left' e = record {
    front = begun.front;
    put = begun.put;
    parted = ap (λ l. begun.front ++ l) (sym e) ∙ begun.parted;
  }

  -- what is left does not fit where a piece of it does not
  pub begun_short : (piece left' : List ℕ) → left ≡ piece ++ left' → length memory < end + length piece → length was < from + length text
  begun_short piece left' e short =
      let whole = ap length begun.parted in
      let l = length-append begun.front left in
      let m = ap length e in
      let k = length-append piece left' in
      let p = begun.put in
      omega (arith, p.ends, p.long)

-- a text does not fit where its first piece does not
pub first_short : (was p q : List ℕ) (at : ℕ) → length was < at + length p → length was < at + length (p ++ q)
first_short was p q at short = let l = length-append p q in omega arith

-- a piece behind one that was put
pub puts_then : (was mid after p q : List ℕ) (at end : ℕ) (r : Result ℕ TooShort) → Put was at p mid end → Puts mid end q after r → Puts was at (p ++ q) after r
puts_then was mid after p q at end (Ok behind) first second = put_then _ _ _ _ _ _ _ _ first second
puts_then was mid after p q at end (Err short) first second =
    let l = length-append p q in
    omega (arith, first.ends, first.long)

-- a text that fits, put at the start, is written
pub puts_written : (text was after : List ℕ) (r : Result ℕ TooShort) → length text ≤ length was → Puts was 0 text after r → (answer_of too_short_told r ≡ write_answer text was) × (after ≡ write_after text was)
puts_written text was after (Ok end) fits put = (put_answer text was after end fits put, put_after text was after end fits put)
puts_written text was after (Err short) fits put = absurd (omega arith)

-- what a call that writes answers and leaves, as a text put at the start
pub written_puts : (text was after : List ℕ) (r : Result ℕ TooShort) → answer_of too_short_told r ≡ write_answer text was → after ≡ write_after text was → Puts was 0 text after r
written_puts text was after (Ok end) answered left =
    ⊎_elim
    (λ short. let refused = short_answer text was short in cc)
    (λ fits.
    let given : ◌≡◌ {A = Answer ℕ} (Ok end) (Ok (length text)) = answered ∙ fits_answer text was fits in
    let end_is : end ≡ length text = cc in
    whole_put text was after end fits end_is (left ∙ fits_after text was fits))
    (cases_lt (length was) (length text))
written_puts text was after (Err none) answered left =
    ⊎_elim
    (λ short. omega arith)
    (λ fits. let given = fits_answer text was fits in cc)
    (cases_lt (length was) (length text))
