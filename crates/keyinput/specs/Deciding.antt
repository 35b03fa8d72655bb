-- Of an input the first 1,024 bytes decide
use Rattle.std.specs.Prelude.{◌≡◌, ℕ, List, take}
use Rattle.numbers.specs.Input.{Reading, value_of}

abbrev pub deciding_bytes : ℕ
deciding_bytes = 1024

-- whatever bytes there are, the first alone are read as all of them: the same is made of them, or they are refused by the
-- same number with the same place
abbrev pub FirstBytesDecide : {A : Type 0} → (List ℕ → Reading A) → Type 0
FirstBytesDecide reading = (bytes : List ℕ) → value_of (reading (take deciding_bytes bytes)) ≡ value_of (reading bytes)
