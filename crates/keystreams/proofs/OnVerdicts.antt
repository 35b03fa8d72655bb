-- The verdict on what was read, and its line written
use Rattle.std.proofs.Common.{◌≡◌, ℕ, List, ◌++◌, length, take, Some, None, Ok, Option, Result, IfSome, refl, ap, ◌∙◌, subst, ap₂}
use Rattle.std.proofs.lemmas.List.{take_at}
use Rattle.std.specs.Io.KnownBytes.{Appends}
use Rattle.costs.specs.declared.cents.Cents.{Cents}
use Rattle.model.specs.declared.better.Better.{Better}
use Rattle.keyanswer.specs.Answer.{deciding_bytes}
use Rattle.keyinput.proofs.OnDeciding.{first_bytes_decide_batch}
use Rattle.keyanswer.specs.Better.{both_asked, better_offer, verdict_on, verdict_line, verdict_status}
use Rattle.keyanswer.specs.Compare.{RefusedAt}

-- the first bytes of two inputs get the verdict of the whole inputs
deciding_verdict : (first second : List ℕ) → verdict_on (take deciding_bytes first) (take deciding_bytes second) ≡ verdict_on first second
deciding_verdict first second = ap₂ (both_asked (λ x y. Ok (better_offer x y))) (first_bytes_decide_batch first) (first_bytes_decide_batch second)

-- a fact about the verdict on what was read, which is that on the whole inputs
of_both : (P : Result (Option (Better Cents)) RefusedAt → Type 0) (first second : Option (List ℕ)) (first_read second_read : List ℕ)
    → IfSome first (λ bytes. first_read ≡ take deciding_bytes bytes) → IfSome second (λ bytes. second_read ≡ take deciding_bytes bytes)
    → P (verdict_on first_read second_read) → IfSome first (λ xs. IfSome second (λ ys. P (verdict_on xs ys)))
of_both P None second first_read second_read p q h = tt
of_both P (Some xs) None first_read second_read p q h = tt
of_both P (Some xs) (Some ys) first_read second_read p q h = subst P (ap₂ verdict_on p q ∙ deciding_verdict xs ys) h

module _ (first second : Option (List ℕ)) (first_read second_read : List ℕ) (told : Result (Option (Better Cents)) RefusedAt)
    (p : IfSome first (λ bytes. first_read ≡ take deciding_bytes bytes)) (q : IfSome second (λ bytes. second_read ≡ take deciding_bytes bytes)) (j : told ≡ verdict_on first_read second_read) where
  pub line_written : (old new : Option (List ℕ)) (text rest : List ℕ) (count : ℕ)
      → count ≡ length (verdict_line told) → text ≡ verdict_line told ++ rest → Appends old new (take count text)
      → IfSome first (λ xs. IfSome second (λ ys. Appends old new (verdict_line (verdict_on xs ys))))
  line_written old new text rest count n t a =
      of_both (λ v. Appends old new (verdict_line v)) first second first_read second_read p q
      (subst (Appends old new) (ap₂ take n t ∙ take_at (verdict_line told) rest _ refl ∙ ap verdict_line j) a)

  pub status_returned : (status : ℕ) → status ≡ verdict_status told → IfSome first (λ xs. IfSome second (λ ys. status ≡ verdict_status (verdict_on xs ys)))
  status_returned status e = of_both (λ v. status ≡ verdict_status v) first second first_read second_read p q (e ∙ ap verdict_status j)
