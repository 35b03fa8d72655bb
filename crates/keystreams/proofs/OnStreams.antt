-- Bytes taken from readers and given to writers
use Rattle.std.proofs.Common.{◌≡◌, ◌≤◌, ◌+◌, ◌-◌, ℕ, List, ◌++◌, length, take, drop, Some, None, Ok, Err, Option, Result, IfSome, OnOk, refl, sym, ap, ◌∙◌, subst, ap₂, le_refl, take_at, take_all, take-add, drop_at, length-take-le, append-nil, arith}
use Rattle.std.proofs.lemmas.List.{take-append-le, length-append, length-drop}
use Rattle.std.proofs.lemmas.Slice.{take-put_mid_below}
use Rattle.std.proofs.KnownBytes.{Consumes-trans, Consumes-whole}
use Rattle.std.specs.Io.KnownBytes.{Appends, Consumes, IsAtEnd}
use borrow.Rule.Slice.PartMut.{put_mid, post_of}
use Rattle.keyinput.proofs.OnDeciding.{first_bytes_decide_input}
use Rattle.keyanswer.specs.Answer.{deciding_bytes, key_text, answered, text_of}

-- what a read into the rest of a buffer brought stands behind what stood there
more_taken : (at room count : ℕ) (old new : List ℕ) → at ≤ length old → count ≤ length new → take (at + count) (put_mid at room old new) ≡ take at old ++ take count new
more_taken at room count old new within fits =
    let behind = new ++ post_of at room old in
    let front = take-put_mid_below at room old new at (le_refl at) within in
    let rest = ap (take count) (drop_at (take at old) behind at (length-take-le at old within)) ∙ take-append-le count new (post_of at room old) fits in
    take-add at count (put_mid at room old new) ∙ ap₂ (λ xs ys. xs ++ ys) front rest

-- a buffer keeps its length
pub length_kept : (at : ℕ) (old new : List ℕ) → at ≤ length old → length new ≡ length old - at → length (put_mid at (length old - at) old new) ≡ length old
length_kept at old new within fits =
    let behind = post_of at (length old - at) old in
    omega (arith, length-append (take at old) (new ++ behind), length-append new behind, length-take-le at old within, length-drop (length old - at) (drop at old), length-drop at old)

module _ (known middle left : Option (List ℕ)) (at room count : ℕ) (old new : List ℕ) (within : at ≤ length old)
    (before : Consumes known middle (take at old)) (more : Consumes middle left (take count new)) where
  -- what two reads brought, one after the other, is what they consumed
  pub more_consumed : count ≤ length new → Consumes known left (take (at + count) (put_mid at room old new))
  more_consumed fits = subst (Consumes known left) (sym (more_taken at room count old new within fits)) (Consumes-trans known middle left (take at old) (take count new) before more)

  -- a read that brought nothing consumed nothing
  none_consumed : count ≡ 0 → Consumes known left (take at old)
  none_consumed none =
      let nothing = ap (λ n. take at old ++ take n new) none ∙ append-nil (take at old) in
      subst (Consumes known left) nothing (Consumes-trans known middle left (take at old) (take count new) before more)

  -- what was read before one that brought nothing is all that there was
  pub deciding_ended : count ≡ 0 → IsAtEnd left → at ≤ deciding_bytes → IfSome known (λ bytes. take at (put_mid at room old new) ≡ take deciding_bytes bytes)
  deciding_ended none end bound =
      let read = take at old in
      let long : length read ≤ deciding_bytes = omega (arith, length-take-le at old within) in
      let same = take-put_mid_below at room old new at (le_refl at) within in
      Consumes-whole known left read (λ bytes. take at (put_mid at room old new) ≡ take deciding_bytes bytes) (none_consumed none) end
      (same ∙ sym (take_all deciding_bytes read long))

-- as many bytes as decide are the first
pub deciding_filled : (known left : Option (List ℕ)) (read : List ℕ) → length read ≡ deciding_bytes → Consumes known left read → IfSome known (λ bytes. read ≡ take deciding_bytes bytes)
deciding_filled None left read n c = tt
deciding_filled (Some bytes) None read n c = absurd c
deciding_filled (Some bytes) (Some rest) read n c = sym (ap (take deciding_bytes) c ∙ take_at read rest deciding_bytes n)

-- the first bytes are answered as the whole input
deciding_text : (bytes : List ℕ) → key_text (take deciding_bytes bytes) ≡ key_text bytes
deciding_text bytes = ap (λ read. text_of (answered read)) (first_bytes_decide_input bytes)

text_appended : (known old new : Option (List ℕ)) (read text rest : List ℕ) (count : ℕ)
    → IfSome known (λ bytes. read ≡ take deciding_bytes bytes) → count ≡ length (key_text read) → text ≡ key_text read ++ rest
    → Appends old new (take count text) → IfSome known (λ bytes. Appends old new (key_text bytes))
text_appended None old new read text rest count e n t a = tt
text_appended (Some bytes) old new read text rest count e n t a =
    subst (Appends old new) (ap₂ take n t ∙ take_at (key_text read) rest _ refl ∙ ap key_text e ∙ deciding_text bytes) a

-- the text that was written answers the input that was read
pub answer_told : {E : Type 0} (r : Result (Unit {0}) E) (known old new : Option (List ℕ)) (read text rest : List ℕ) (count : ℕ)
    → IfSome known (λ bytes. read ≡ take deciding_bytes bytes) → count ≡ length (key_text read) → text ≡ key_text read ++ rest
    → OnOk r (Appends old new (take count text)) → OnOk r (IfSome known (λ bytes. Appends old new (key_text bytes)))
answer_told (Ok x) known old new read text rest count e n t a = text_appended known old new read text rest count e n t a
answer_told (Err x) known old new read text rest count e n t a = tt
