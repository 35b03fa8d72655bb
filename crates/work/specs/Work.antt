-- The range of work
use Rattle.std.specs.Prelude.{Bool, ◌&&◌, ℕ, leb}

abbrev pub max_work : ℕ
max_work = 1000000

abbrev pub work_in_range : ℕ → Bool
work_in_range work = leb 1 work && leb work max_work
