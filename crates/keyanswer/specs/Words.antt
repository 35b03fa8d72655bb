-- What the text of an answer tells, in words
use Rattle.std.specs.Prelude.{◌≡◌, ℕ, ◌<◌, ◌⊎◌, List, length, Ok, Err}
use Rattle.std.specs.List.{flat_map}
use Rattle.refusals.specs.Answer.{Answer, Refused, plain, carrying}
use Rattle.costs.specs.Cents.{cents, cents_kind, cents_text}
use Rattle.costs.specs.declared.cents.Cents.{Cents}
use Rattle.tariffs.specs.Card.{lines_meaning}
use Rattle.tariffs.specs.Meaning.{Meaning}
use Rattle.sheets.specs.Book.{Book}
use Rattle.texts.specs.Line.{line}
use Rattle.texts.specs.RefusalLine.{refusal_words}
use Rattle.numbers.specs.Input.{value_of}
use Rattle.model.specs.declared.point.Point.{Point}
use Rattle.model.specs.Assignment.{standing, HasPair}
use Rattle.model.specs.Cell.{cells_needed}
use Rattle.model.specs.Front.{IsFront}
use Rattle.model.specs.Limit.{IsBudget, IsDeadline, IsLowestUnquoted, TooDear, TooLong}
use Rattle.model.specs.Plan.{IsPlan}
use Rattle.keylines.specs.Plan.{assigned_tasks, result_text}
use Rattle.keylines.specs.Point.{point_line}
use Rattle.keyinput.specs.declared.question.Question.{Question}
use Rattle.keyinput.specs.declared.question.Question.TheVariants.{Front, Budget, Deadline}
use Rattle.keyinput.specs.Input.{Asked, key_in}
use Rattle.keyanswer.specs.Answer.{key_cells, key_points, text_of}

module _ (T : Meaning Cents) (book : Book) where
  -- the lines are those of a pair and of the machines of its plan
  abbrev pub HasLines : Point Cents → List ℕ → Type 0
  HasLines p lines = (bytes : List ℕ) × IsPlan cents_kind T book p bytes × (lines ≡ result_text cents_text p (assigned_tasks book bytes))

  -- more cells are needed than a key has: refusal 7
  abbrev pub LacksCells : Refused → Type 0
  LacksCells refused = (refused ≡ plain 7) × (key_cells < cells_needed T book)

  -- the front has more points than a key has: refusal 8
  abbrev pub LacksPoints : Refused → Type 0
  LacksPoints refused =
      (refused ≡ plain 8)
      × ((ps : List (Point Cents)) × IsFront cents_kind T (standing book) ps × (key_points < length ps))

  -- no machine quotes this task, the lowest such: refusal 9
  abbrev pub LacksQuote : Refused → Type 0
  LacksQuote refused = (task : ℕ) × (refused ≡ carrying 9 task) × IsLowestUnquoted T book task

  -- every pair is too much: refusal 10
  abbrev pub NoneWithin : (TooMuch : Point Cents → Type 0) → Refused → Type 0
  NoneWithin TooMuch refused =
      (refused ≡ plain 10) × ((p : Point Cents) → HasPair cents_kind T (standing book) p → TooMuch p)

  -- the lines of a front are those of the pairs that none beats
  abbrev pub FrontLines : Answer (List ℕ) → Type 0
  FrontLines (Ok lines) = (ps : List (Point Cents)) × IsFront cents_kind T (standing book) ps × (lines ≡ flat_map (point_line cents_text) ps)
  FrontLines (Err refused) = LacksCells refused ⊎ LacksPoints refused

  -- the lines of a limit are those of the best pair within it, and of its plan
  abbrev pub LimitLines : (IsBest TooMuch : Point Cents → Type 0) → Answer (List ℕ) → Type 0
  LimitLines IsBest TooMuch (Ok lines) = (p : Point Cents) × IsBest p × HasLines p lines
  LimitLines IsBest TooMuch (Err refused) = LacksCells refused ⊎ (LacksQuote refused ⊎ NoneWithin TooMuch refused)

  abbrev pub LinesTell : Question → Answer (List ℕ) → Type 0
  LinesTell Front = FrontLines
  LinesTell (Budget limit) = LimitLines (IsBudget cents_kind T (standing book) (cents limit)) (TooDear cents_kind (cents limit))
  LinesTell (Deadline limit) = LimitLines (IsDeadline cents_kind T (standing book) limit) (TooLong limit)

-- the text that answers an input, in words. Where the input is read as a card, a sheet and a question, the text has the
-- lines of the front, or of the best pair within the limit and of its plan, or the line of a refusal that says why there
-- are none; where it is not read, the text is the line of the refusal
pub record TextTells (input text : List ℕ) : Type 0 where
  pub answers :
      (key : Asked) → value_of (key_in input) ≡ Ok key
      → (answer : Answer (List ℕ)) × (text ≡ text_of answer)
      × LinesTell (lines_meaning key.lines) key.book key.question answer
  pub refuses : (refused : Refused) → value_of (key_in input) ≡ Err refused → text ≡ line (refusal_words refused)
