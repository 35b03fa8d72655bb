-- The rows of a quote table, and their check
use Rattle.std.specs.Prelude.{◌≡◌, ℕ, ◌<◌, ◌≤◌, Bool, true, false, cond, not, ◌&&◌, ◌||◌, List, length, is_ok, Some, None, Ok, Err, Option, Result, ◌==◌, nat_lt, slice_index_or}
use Rattle.refusals.specs.Answer.{Answer, carrying}
use Rattle.work.specs.Work.{work_in_range}
use Rattle.tariffs.specs.declared.refusal.RowRefusal.{RowRefusal}
use Rattle.tariffs.specs.declared.refusal.RowRefusal.TheVariants.{Bad, TooMany}
use Rattle.tariffs.specs.declared.row.Row.{Row}
use Rattle.tariffs.specs.First.{position}

-- a number is out of range: machine 0 to 31, work, minutes 1 to 1,440, grade 0 to 15
abbrev pub bad_row : Row → Bool
bad_row r =
    nat_lt 31 r.machine
    || (not (work_in_range r.work)
    || (nat_lt r.minutes 1
    || (nat_lt 1440 r.minutes
    || nat_lt 15 r.grade)))

-- what the check answers: 6 with the first bad row, or with 256 where only the row count is too great
abbrev pub rows_verdict : ℕ → Option ℕ → Answer (Unit {0})
rows_verdict count (Some row) = Err (carrying 6 row)
rows_verdict count None = cond (nat_lt 256 count) (Err (carrying 6 256)) (Ok tt)

abbrev pub rows_answer : List Row → Answer (Unit {0})
rows_answer rows = rows_verdict (length rows) (position bad_row rows)

abbrev pub rows_pass : List Row → Bool
rows_pass rows = is_ok (rows_answer rows)

-- the row is for this machine and this work
abbrev pub bears : Row → ℕ → ℕ → Bool
bears r machine work = r.machine == machine && r.work == work

-- the law of the check, in words
abbrev pub no_row : Row
no_row = record { machine = 0; work = 0; minutes = 0; grade = 0 }

abbrev pub row_at : List Row → ℕ → Row
row_at rows i = slice_index_or rows i no_row

abbrev pub GoodBelow : List Row → ℕ → Type 0
GoodBelow rows n = (i : ℕ) → i < n → bad_row (row_at rows i) ≡ false

abbrev pub CheckTells : List Row → Result (Unit {0}) RowRefusal → Type 0
CheckTells rows (Ok done) = GoodBelow rows (length rows) × (length rows ≤ 256)
CheckTells rows (Err (Bad row)) = (row < length rows) × (bad_row (row_at rows row) ≡ true) × GoodBelow rows row
CheckTells rows (Err TooMany) = GoodBelow rows (length rows) × (256 < length rows)
