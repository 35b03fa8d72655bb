-- The text that answers the input of a key
use Rattle.std.specs.Prelude.{ℕ, List, length, Ok, Err, nat_lt}
use Rattle.std.specs.List.{flat_map}
use Rattle.refusals.specs.Answer.{Answer, refused_if}
use Rattle.costs.specs.Cents.{cents, cents_kind, cents_text}
use Rattle.costs.specs.declared.cents.Cents.{Cents}
use Rattle.tariffs.specs.Card.{lines_meaning}
use Rattle.tariffs.specs.Meaning.{Meaning}
use Rattle.sheets.specs.Book.{Book}
use Rattle.texts.specs.Line.{line}
use Rattle.texts.specs.RefusalLine.{refusal_words}
use Rattle.numbers.specs.Input.{value_of}
use Rattle.model.specs.declared.point.Point.{Point}
use Rattle.model.specs.Cell.{cells_needed}
use Rattle.model.specs.Front.{front}
use Rattle.model.specs.Limit.{budget_result, deadline_result}
use Rattle.model.specs.Plan.{plan}
use Rattle.keylines.specs.Plan.{assigned_tasks, result_text}
use Rattle.keylines.specs.Point.{point_line}
use Rattle.keyinput.specs.declared.question.Question.{Question}
use Rattle.keyinput.specs.declared.question.Question.TheVariants.{Front, Budget, Deadline}
use Rattle.keyinput.specs.Input.{Asked, key_in}
pub use Rattle.keyinput.specs.Deciding.{deciding_bytes}

-- the cells and points of a key, and the bytes in which every text of an answer fits
abbrev pub key_cells : ℕ
key_cells = 4096

abbrev pub key_points : ℕ
key_points = 4096

abbrev pub text_bytes : ℕ
text_bytes = 98304

-- the lines of an answer, or the line of its refusal
abbrev pub text_of : Answer (List ℕ) → List ℕ
text_of (Ok lines) = lines
text_of (Err refused) = line (refusal_words refused)

-- what is written of a limit's answer and the plan's bytes
abbrev pub limit_text : Book → Answer (Point Cents) → List ℕ → List ℕ
limit_text book (Ok p) bytes = result_text cents_text p (assigned_tasks book bytes)
limit_text book (Err refused) bytes = line (refusal_words refused)

module _ (T : Meaning Cents) (book : Book) where
  -- what follows, if the question has cells enough
  abbrev pub with_cells : Answer (List ℕ) → Answer (List ℕ)
  with_cells answer = refused_if (nat_lt key_cells (cells_needed T book)) 7 answer

  -- a line for each point of the front
  abbrev pub front_lines : Answer (List ℕ)
  front_lines =
      with_cells
      (refused_if (nat_lt key_points (length (front cents_kind T book))) 8
      (Ok (flat_map (point_line cents_text) (front cents_kind T book))))

  -- the line of the pair, then a line for each standing task with its machine in the plan
  abbrev pub limit_lines : Answer (Point Cents) → Answer (List ℕ)
  limit_lines (Ok p) = Ok (result_text cents_text p (assigned_tasks book (plan cents_kind T book p)))
  limit_lines (Err refused) = Err refused

  abbrev pub budget_lines : ℕ → Answer (List ℕ)
  budget_lines limit = with_cells (limit_lines (budget_result cents_kind T book (cents limit)))

  abbrev pub deadline_lines : ℕ → Answer (List ℕ)
  deadline_lines limit = with_cells (limit_lines (deadline_result cents_kind T book limit))

  abbrev pub answer_lines : Question → Answer (List ℕ)
  answer_lines Front = front_lines
  answer_lines (Budget limit) = budget_lines limit
  answer_lines (Deadline limit) = deadline_lines limit

abbrev pub asked_lines : Asked → Answer (List ℕ)
asked_lines key = answer_lines (lines_meaning key.lines) key.book key.question

-- the answer to an input that was read, or the refusal of one that was not
abbrev pub answered : Answer Asked → Answer (List ℕ)
answered (Ok key) = asked_lines key
answered (Err refused) = Err refused

abbrev pub key_text : List ℕ → List ℕ
key_text bytes = text_of (answered (value_of (key_in bytes)))
