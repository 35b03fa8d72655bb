-- Pieces put into memory one behind another
use Rattle.std.proofs.Common.{◌≡◌, ℕ, ◌+◌, ◌-◌, ◌<◌, ◌≤◌, min, List, [], ◌∷◌, ◌++◌, length, take, drop, set, Ok, Err, sym, refl, ap, ◌∙◌, subst, append_assoc, zero-add, arith, length-append, length-set}
use Rattle.std.proofs.lemmas.List.{take_more_set, drop-set-lt, take-append-drop, drop-drop, append-nil, length-take, length-drop, take_at, drop_at, drop_all, take_rest}
use borrow.Rule.Slice.PartMut.{put_mid, mid_of, same_len_mid}
use Rattle.std.proofs.lemmas.Slice.{take-put_mid, drop-put_mid}
use Rattle.std.proofs.lemmas.Bool.{le-ltb, lt-ltb}
use Rattle.refusals.specs.Answer.{Answer, plain}
use Rattle.texts.specs.Put.{Put}
use Rattle.texts.specs.Write.{write_answer, write_after}

pub put_none : (xs : List ℕ) (i : ℕ) → Put xs i [] xs i
put_none xs i = record { ends = omega arith; front = sym (append-nil (take i xs)); back = refl; long = refl }

pub put_one : (xs : List ℕ) (i b : ℕ) → i < length xs → Put xs i (b ∷ []) (set xs i b) (i + 1)
put_one xs i b h = record {
  ends = refl;
  front = take_more_set xs i b h;
  back = drop-set-lt (i + 1) xs i b (omega arith);
  long = simp length-set;
}

pub put_then : (xs ys zs p q : List ℕ) (i j k : ℕ) → Put xs i p ys j → Put ys j q zs k → Put xs i (p ++ q) zs k
put_then xs ys zs p q i j k a b = record {
  ends = let l = length-append p q in let e = a.ends in let f = b.ends in omega arith;
  front = b.front ∙ ap (λ l. l ++ q) a.front ∙ append_assoc (take i xs) p q;
  back =
      let d : j + (k - j) ≡ k = let f = b.ends in omega arith in
      let m : (l : List ℕ) → drop k l ≡ drop (k - j) (drop j l) = λ l. ap (λ n. drop n l) (sym d) ∙ sym (drop-drop _ _ l) in
      b.back ∙ m ys ∙ ap (drop (k - j)) a.back ∙ sym (m xs);
  long = b.long ∙ a.long;
}

pub put_same : (xs ys p q : List ℕ) (i j : ℕ) → p ≡ q → Put xs i p ys j → Put xs i q ys j
put_same xs ys p q i j e h = let P : List ℕ → Type 0 = λ l. Put xs i l ys j in subst P e h

-- a piece put within the memory ends within it
pub put_within : (xs ys p : List ℕ) (i j : ℕ) → i ≤ length xs → Put xs i p ys j → j ≤ length ys
put_within xs ys p i j h put =
    let whole : min j (length ys) ≡ min i (length xs) + length p =
    sym (length-take j ys) ∙ ap length put.front ∙ length-append (take i xs) p ∙ ap (λ n. n + length p) (length-take i xs) in
    omega (arith, put.ends)

-- a part of the memory filled with a piece of its length
pub put_part : (xs ys : List ℕ) (i n : ℕ) → n ≡ length ys → i + n ≤ length xs → Put xs i ys (put_mid i (i + n - i) xs ys) (i + n)
put_part xs ys i n e h = record {
  ends = omega arith;
  front = take-put_mid i (i + n - i) xs ys (i + n) (omega arith) (omega arith);
  back = drop-put_mid i (i + n - i) xs ys (i + n) (omega arith) (omega arith) (omega arith);
  long = same_len_mid i (i + n - i) xs ys (let l : length (mid_of i (i + n - i) xs) ≡ n = simp (length-take, length-drop) (omega arith) in omega arith);
}

-- put at the start, a piece stands before the rest
pub put_whole : (xs ys p : List ℕ) (j : ℕ) → Put xs 0 p ys j → ys ≡ p ++ drop j xs
put_whole xs ys p j h =
    sym (take-append-drop j ys) ∙ ap (λ l. l ++ drop j ys) h.front ∙ ap (λ l. p ++ l) h.back

-- a text that fits is answered by its length and stands before the rest
module _ (text was : List ℕ) (fits : length text ≤ length was) where
  pub fits_answer : write_answer text was ≡ Ok (length text)
  fits_answer = rw (le-ltb (length was) (length text) fits) refl

  pub fits_after : write_after text was ≡ text ++ drop (length text) was
  fits_after = rw (le-ltb (length was) (length text) fits) refl

-- memory that begins with the text and goes on as before has it put at the start
pub whole_put : (text was after : List ℕ) (end : ℕ) → length text ≤ length was → end ≡ length text → after ≡ text ++ drop (length text) was → Put was 0 text after end
whole_put text was after end fits ends e = record {
  ends = omega arith;
  front = ap (take end) e ∙ take_at text (drop (length text) was) end (sym ends);
  back = ap (drop end) e ∙ drop_at text (drop (length text) was) end (sym ends) ∙ ap (λ n. drop n was) (sym ends);
  long = ap length e ∙ length-append text (drop (length text) was) ∙ (let l = length-drop (length text) was in omega arith);
}

-- a text that fits, put at the start, is written as the answer and the memory say
module _ (text was after : List ℕ) (end : ℕ) (fits : length text ≤ length was) (put : Put was 0 text after end) where
  pub put_answer : ◌≡◌ {A = Answer ℕ} (Ok end) (write_answer text was)
  put_answer =
      let whole : end ≡ length text = let e = put.ends in omega arith in
      rw (le-ltb (length was) (length text) fits) (ap Ok whole)

  pub put_after : after ≡ write_after text was
  put_after =
      let whole : end ≡ length text = let e = put.ends in omega arith in
      rw (le-ltb (length was) (length text) fits) (put_whole was after text end put ∙ ap (λ n. text ++ drop n was) whole)

-- a text that does not fit is refused, and the memory is as it was
module _ (text was : List ℕ) (short : length was < length text) where
  pub short_answer : ◌≡◌ {A = Answer ℕ} (Err (plain 8)) (write_answer text was)
  short_answer = rw (lt-ltb (length was) (length text) short) refl

-- a text put at the start of a part that begins at a place is put at that place
pub part_put : (was text part : List ℕ) (at n : ℕ) → at ≤ length was → Put (take (length was - at) (drop at was)) 0 text part n → Put was at text (put_mid at (length was - at) was part) (at + n)
part_put was text part at n h put =
    let mid : List ℕ = take (length was - at) (drop at was) in
    let whole : List ℕ = put_mid at (length was - at) was part in
    let none : drop (length was - at) (drop at was) ≡ [] = drop_all (length was - at) (drop at was) (simp length-drop (omega arith)) in
    let rest : drop n mid ≡ drop (at + n) was = ap (drop n) (take_rest was at) ∙ drop-drop n at was in
    let is_part : part ≡ text ++ drop (at + n) was = put_whole mid part text n put ∙ ap (λ l. text ++ l) rest in
    let long_mid : length mid ≡ length was - at = ap length (take_rest was at) ∙ length-drop at was in
    let n_is : n ≡ length text = put.ends ∙ zero-add (length text) in
    let front_long : min n (length part) ≡ length text = sym (length-take n part) ∙ ap length put.front in
    let fits : n ≤ length was - at = let l = put.long in omega arith in
    let is_whole : whole ≡ (take at was ++ text) ++ drop (at + n) was =
    ap (λ l. take at was ++ (part ++ l)) none
    ∙ ap (λ l. take at was ++ l) (append-nil part ∙ is_part)
    ∙ sym (append_assoc (take at was) text (drop (at + n) was)) in
    let before : length (take at was ++ text) ≡ at + n = length-append (take at was) text ∙ (let l = length-take at was in omega arith) in
    record {
      ends = omega arith;
      front = ap (take (at + n)) is_whole ∙ take_at (take at was ++ text) (drop (at + n) was) (at + n) before;
      back = ap (drop (at + n)) is_whole ∙ drop_at (take at was ++ text) (drop (at + n) was) (at + n) before;
      long = ap length is_whole ∙ length-append (take at was ++ text) (drop (at + n) was) ∙ (let l = length-drop (at + n) was in omega arith);
    }
