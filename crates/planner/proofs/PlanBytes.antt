-- The bytes of a plan, written by task numbers
use Rattle.std.proofs.Common.{◌≡◌, ℕ, List}
use lib.Seq.{paste}
use Rattle.costs.specs.Kind.{Kind}
use Rattle.tariffs.specs.Meaning.{Meaning}
use Rattle.sheets.specs.Book.{Book}
use Rattle.model.specs.declared.point.Point.{Point}
use Rattle.model.specs.Plan.{plan}

module _ {C : Type 0} (K : Kind C) (T : Meaning C) (book : Book) (p : Point C) where
  -- memory with the bytes of the tasks before n, and behind them what it held
  abbrev pub WrittenBefore : List ℕ → ℕ → List ℕ → Type 0
  WrittenBefore was n bytes = bytes ≡ paste was 0 (plan K T book p) n
