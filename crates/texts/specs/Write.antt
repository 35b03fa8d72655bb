-- A text that is written at the start of lent memory, or refused where it does not fit
use Rattle.std.specs.Prelude.{◌≡◌, ℕ, ◌≤◌, Bool, true, cond, List, ◌++◌, length, drop, is_ok, Ok, Result, nat_lt}
use Rattle.refusals.specs.Answer.{Answer, answer_of, refused_if}
use Rattle.texts.specs.TooShort.{too_short_told}
use Rattle.texts.specs.declared.too_short.TooShort.{TooShort}

abbrev pub too_long : List ℕ → List ℕ → Bool
too_long text memory = nat_lt (length memory) (length text)

-- what the call answers: the byte count of the text, or refusal 8
abbrev pub write_answer : List ℕ → List ℕ → Answer ℕ
write_answer text memory = refused_if (too_long text memory) 8 (Ok (length text))

-- what the memory holds after the call: the text and then what stood there, or all that stood there
abbrev pub write_after : List ℕ → List ℕ → List ℕ
write_after text memory = cond (too_long text memory) memory (text ++ drop (length text) memory)

-- the call that returned this has written the text, or was refused
pub record Writes (text was left : List ℕ) (result : Result ℕ TooShort) : Type 0 where
  pub answer : answer_of too_short_told result ≡ write_answer text was
  pub after : left ≡ write_after text was

-- no memory of so many bytes is too short
abbrev pub FitsIn : ℕ → List ℕ → Result ℕ TooShort → Type 0
FitsIn most was result = most ≤ length was → is_ok result ≡ true
