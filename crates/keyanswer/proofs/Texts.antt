-- What is written of the answers of questions is the text of the key
use Rattle.std.proofs.Common.{◌≡◌, ℕ, ◌≤◌, min, Bool, true, false, ltb, List, length, take, drop, Ok, Err, sym, refl, ap, ◌∙◌, ⊎_elim, arith}
use Rattle.std.proofs.lemmas.List.{take_all, length-map, length-take}
use Rattle.std.proofs.lemmas.Bool.{le-ltb, cases_lt}
use Rattle.refusals.specs.Answer.{Answer, refused_if}
use Rattle.costs.specs.Cents.{cents_kind, cents_text}
use Rattle.costs.specs.declared.cents.Cents.{Cents}
use Rattle.tariffs.specs.Meaning.{Meaning}
use Rattle.sheets.specs.Book.{Book, book}
use Rattle.sheets.specs.declared.sheet.Sheet.{Sheet}
use Rattle.model.specs.declared.cell.Cell.{Cell}
use Rattle.model.specs.declared.point.Point.{Point}
use Rattle.model.specs.Cell.{cells_needed}
use Rattle.model.specs.Plan.{plan}
use Rattle.model.specs.Question.{limit_answer, limit_bytes}
use Rattle.keylines.specs.Plan.{result_text}
use Rattle.keylines.proofs.Machines.{machines_written}
use Rattle.keyanswer.specs.Answer.{key_cells, text_of, limit_text, with_cells, limit_lines}

module _ (T : Meaning Cents) (book : Book) where
  written_limit : (few : Bool) (bytes : List ℕ) (result : Answer (Point Cents)) →
      limit_text book (refused_if few 7 result) (limit_bytes cents_kind T book (refused_if few 7 result) bytes)
      ≡ text_of (refused_if few 7 (limit_lines T book result))
  written_limit true bytes result = refl
  written_limit false bytes (Ok p) =
      ap (result_text cents_text p) (machines_written 0 book.tasks (plan cents_kind T book p) (drop (length book.tasks) bytes) (length-map book.tasks _))
  written_limit false bytes (Err refused) = refl

  -- what a limit answered and left in the plan, with cells and bytes as a key has them
  pub limit_written : (cells : List (Cell Cents)) (bytes : List ℕ) (result answer : Answer (Point Cents)) (left : List ℕ) →
      answer ≡ limit_answer T book cells bytes result → left ≡ limit_bytes cents_kind T book (limit_answer T book cells bytes result) bytes →
      length cells ≡ key_cells → length book.tasks ≤ length bytes →
      limit_text book answer left ≡ text_of (with_cells T book (limit_lines T book result))
  limit_written cells bytes result answer left answered kept enough room =
      ap (λ (a : Answer (Point Cents)). limit_text book a left) answered
      ∙ ap (limit_text book (limit_answer T book cells bytes result)) kept
      ∙ rw (le-ltb (length bytes) (length book.tasks) room)
      (written_limit (ltb (length cells) (cells_needed T book)) bytes result
      ∙ ap (λ n. text_of (refused_if (ltb n (cells_needed T book)) 7 (limit_lines T book result))) enough)

-- a sheet has no more tasks than a key has bytes for a plan
pub few_tasks : (sheet : Sheet) → length (book sheet).tasks ≤ 256
few_tasks sheet = let l = length-take sheet.count sheet.tasks in omega (arith, sheet.fits)

-- as many bytes as there are, at most so many, are the first so many
pub first_bytes : (bytes : List ℕ) (count limit : ℕ) → count ≡ min (length bytes) limit → take count bytes ≡ take limit bytes
first_bytes bytes count limit e =
    ⊎_elim
    (λ longer. ap (λ n. take n bytes) (let same : count ≡ limit = omega arith in same))
    (λ whole. take_all count bytes (omega arith) ∙ sym (take_all limit bytes whole))
    (cases_lt limit (length bytes))
