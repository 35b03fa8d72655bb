-- A piece put into memory at a place
use Rattle.std.specs.Prelude.{◌≡◌, ℕ, ◌+◌, List, ◌++◌, length, take, drop}

-- the piece stands from `from` to `end`; what lies before and behind it is as it was
pub record Put (was : List ℕ) (from : ℕ) (piece after : List ℕ) (end : ℕ) : Type 0 where
  pub ends : end ≡ from + length piece
  pub front : take end after ≡ take from was ++ piece
  pub back : drop end after ≡ drop end was
  pub long : length after ≡ length was
