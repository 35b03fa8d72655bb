-- Readings that are repeated, from one to the next
use Rattle.std.proofs.Common.{◌≡◌, ℕ, suc, ◌+◌, ◌-◌, ◌<◌, Ok, sym, ap, ◌∙◌, arith}
use Rattle.numbers.specs.Input.{Input, Reading, then}
use Rattle.keyfile.specs.Reading.{repeated}

pub repeated_more : {A : Type 0} (once : A → Input → Reading A) (count i : ℕ) (made : A) (left : Input) (whole : Reading A) → repeated (count - i) once made left ≡ whole → i < count → (made' : A) (left' : Input) → once made left ≡ Ok (made', left') → repeated (count - (i + 1)) once made' left' ≡ whole
repeated_more once count i made left whole so_far h made' left' e =
    let one_less : count - i ≡ suc (count - (i + 1)) = omega arith in
    sym (ap (λ (r : Reading _). then r (repeated (count - (i + 1)) once)) e)
    ∙ sym (ap (λ n. repeated n once made left) one_less)
    ∙ so_far
