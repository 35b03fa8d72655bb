-- When two sheets, each under its tariff, offer the same bargains
--
-- In words: `(x : A) → B` is "B for every x", `(x : A) × B` "B for some x", `A → B` "if A, then B", `A × B` "A and B",
-- `A ⊎ B` "A or B", `A ↔ B` "A exactly where B", `A → ⊥` "not A"; `≡` is "equals", and `≢` "differs from".
use Rattle.std.specs.Prelude.{◌≡◌, ℕ, ◌^◌, ◌<◌, ◌≤◌, Bool, true, ◌↔◌, ◌⊎◌, List, length, take, Ok, Err, ◌≢◌}
use Rattle.refusals.specs.Answer.{Answer, Refused, plain, carrying}
use Rattle.costs.specs.Kind.{Kind}
use Rattle.tariffs.specs.Meaning.{Meaning, Ranged}
use Rattle.sheets.specs.Book.{Book}
use Rattle.sheets.specs.History.{book_after}
use Rattle.sheets.specs.declared.call.Call.{Call}
use Rattle.model.specs.declared.cell.Cell.{Cell}
use Rattle.model.specs.declared.point.Point.{Point}
use Rattle.model.specs.Assignment.{standing, IsAssignment, length_of, cost_of, HasPair, Unquoted}
use Rattle.model.specs.Front.{front, IsFront}
use Rattle.model.specs.Cell.{cells_needed}
use Rattle.model.specs.Limit.{budget_result, deadline_result, IsBudget, IsDeadline, IsLowestUnquoted, TooDear, TooLong}
use Rattle.model.specs.Question.{front_answer, front_points, budget_answer, deadline_answer}

-- Memory. Each question meets what the last one left, so each has memory of its own here; what it holds is left open.
module _ {C : Type 0} (K : Kind C) where
  -- memory that suffices for the question `front`
  pub record FrontMemory (T : Meaning C) (book : Book) : Type 0 where
    pub cells : List (Cell C)
    pub points : List (Point C)
    pub cells_suffice : cells_needed T book ≤ length cells
    pub points_suffice : length (front K T book) ≤ length points

  -- memory that suffices for a budget or a deadline, which fills a byte for each task number
  pub record LimitMemory (T : Meaning C) (book : Book) : Type 0 where
    pub cells : List (Cell C)
    pub bytes : List ℕ
    pub cells_suffice : cells_needed T book ≤ length cells
    pub bytes_suffice : length book.tasks ≤ length bytes

  -- memory that suffices for each question: one for the front, one for every budget, one for every deadline
  pub record Memory (T : Meaning C) (book : Book) : Type 0 where
    pub for_front : FrontMemory T book
    pub for_budget : C → LimitMemory T book
    pub for_deadline : ℕ → LimitMemory T book

-- some memory suffices for each question, on every book under every tariff
abbrev pub SomeMemorySuffices : {C : Type 0} → Kind C → Type 0
SomeMemorySuffices {C} K = (T : Meaning C) (book : Book) → Memory K T book

-- What each question gives in its memory.
module _ {C : Type 0} (K : Kind C) (T : Meaning C) (book : Book) (memory : Memory K T book) where
  -- `front`: how many points it answers, and so many of those that it leaves; or its refusal
  abbrev pub front_given : Answer (ℕ × List (Point C))
  front_given =
      let lent = memory.for_front in
      elim (front_answer K T book lent.cells lent.points) [
        | Ok count ↦ Ok (count, take count (front_points K T book lent.cells lent.points))
        | Err refused ↦ Err refused
      ]

  -- a budget: a length and cost, or its refusal
  abbrev pub budget_given : C → Answer (Point C)
  budget_given limit = let lent = memory.for_budget limit in budget_answer K T book limit lent.cells lent.bytes

  -- a deadline: the same
  abbrev pub deadline_given : ℕ → Answer (Point C)
  deadline_given limit = let lent = memory.for_deadline limit in deadline_answer K T book limit lent.cells lent.bytes

module _ {C : Type 0} (K : Kind C) where
  -- what a budget or a deadline gives, in words
  pub record LimitGivenInWords (T : Meaning C) (book : Book) (IsBest TooMuch : Point C → Type 0) (given : Answer (Point C))
      : Type 0 where
    -- a length and cost: exactly where this pair is the best within the limit
    pub best : (p : Point C) → IsBest p ↔ (given ≡ Ok p)
    -- refusal 9 with a task: exactly where this is the lowest standing task that no machine quotes
    pub unquoted : (task : ℕ) → IsLowestUnquoted T book task ↔ (given ≡ Err (carrying 9 task))
    -- refusal 10: exactly where every standing task is quoted, and what each assignment has is too much for the limit
    pub none_within :
        (((task : ℕ) → Unquoted T book task → ⊥) × ((p : Point C) → HasPair K T (standing book) p → TooMuch p))
        ↔ (given ≡ Err (plain 10))
    -- no other refusal
    pub only_9_or_10 : (refused : Refused) → given ≡ Err refused → (refused.number ≡ 9) ⊎ (refused.number ≡ 10)

  -- what each question on a book gives, in words
  pub record GivenInWords (T : Meaning C) (book : Book) (memory : Memory K T book) : Type 0 where
    -- the front, and how many points it has: each pair that an assignment has and none beats, by rising length
    pub front_is : (points : List (Point C)) →
        IsFront K T (standing book) points ↔ (front_given K T book memory ≡ Ok (length points, points))
    pub front_never_refused : (refused : Refused) → front_given K T book memory ≢ Err refused
    pub budgets : (limit : C) → LimitGivenInWords T book
        (IsBudget K T (standing book) limit) (TooDear K limit)
        (budget_given K T book memory limit)
    pub deadlines : (limit : ℕ) → LimitGivenInWords T book
        (IsDeadline K T (standing book) limit) (TooLong limit)
        (deadline_given K T book memory limit)

  -- for every assignment of the first book the second has one that is no longer and no dearer
  abbrev pub Matched : Meaning C → Book → Meaning C → Book → Type 0
  Matched T first U second =
      (x : List (List ℕ)) → IsAssignment T (standing first) x →
      (y : List (List ℕ)) × IsAssignment U (standing second) y
      × (length_of U (standing second) y ≤ length_of T (standing first) x)
      × (K.at_most (cost_of K U (standing second) y) (cost_of K T (standing first) x) ≡ true)

-- the same length and cost, or the same refusal number
abbrev pub Agree : {C : Type 0} → Answer (Point C) → Answer (Point C) → Type 0
Agree (Ok p) (Ok q) = p ≡ q
Agree (Ok p) (Err refused) = ⊥
Agree (Err refused) (Ok q) = ⊥
Agree (Err first) (Err second) = first.number ≡ second.number

-- Two books, the first under T and the second under U, and memory for the questions on each.
module _ {C : Type 0} (K : Kind C)
    (T : Meaning C) (first : Book) (first_memory : Memory K T first)
    (U : Meaning C) (second : Book) (second_memory : Memory K U second) where
  -- the count and the points of both fronts are the same
  abbrev pub EqualFronts : Type 0
  EqualFronts = front_given K T first first_memory ≡ front_given K U second second_memory

  -- every budget and every deadline gets the same length and cost, or the same refusal number
  abbrev pub SameAnswers : Type 0
  SameAnswers =
      ((limit : C) →
      Agree (budget_given K T first first_memory limit) (budget_given K U second second_memory limit))
      × ((limit : ℕ) → limit < 2 ^ 32 →
      Agree (deadline_given K T first first_memory limit) (deadline_given K U second second_memory limit))

  -- the statement on these two books. `Equal` is the claim that 2 and 3 give the meaning of: that the two fronts are equal,
  -- or that the verdict of a call is `true`
  pub record SameBargains (Equal : Type 0) : Type 0 where
    -- 1. what each question gives is what the words say
    pub first_in_words : GivenInWords K T first first_memory
    pub second_in_words : GivenInWords K U second second_memory
    -- 2. equal exactly where for every assignment of either book the other has one that is no longer and no dearer
    pub by_assignments : Equal ↔ (Matched K T first U second × Matched K U second T first)
    -- 3. equal exactly where every budget and every deadline is answered alike
    pub by_limits : Equal ↔ SameAnswers

-- the whole statement for two tariffs: of the books that any two lists of calls leave, refused calls among them, and in
-- all memory that suffices
abbrev pub BargainsAgree : {C : Type 0} → Kind C → Meaning C → Meaning C → Type 0
BargainsAgree {C} K T U =
    (first_calls second_calls : List Call) →
    let first = book_after first_calls in
    let second = book_after second_calls in
    (first_memory : Memory K T first) (second_memory : Memory K U second) →
    SameBargains K T first first_memory U second second_memory
    (EqualFronts K T first first_memory U second second_memory)

-- for every two tariffs in the cost kind that keep their ranges
abbrev pub EqualFrontsMeanSameBargains : {C : Type 0} → Kind C → Type 0
EqualFrontsMeanSameBargains {C} K = (T U : Meaning C) → Ranged T → Ranged U → BargainsAgree K T U

-- a verdict on two books, `true` for equal, is right
pub record Verdict {C : Type 0} (K : Kind C) (T : Meaning C) (first : Book) (U : Meaning C) (second : Book) (equal : Bool) : Type 0 where
  -- `true` exactly where for every assignment of either book the other has one that is no longer and no dearer
  pub by_assignments : (equal ≡ true) ↔ (Matched K T first U second × Matched K U second T first)
  -- in all memory the same statement holds of it
  pub in_all_memory : (first_memory : Memory K T first) (second_memory : Memory K U second)
      → SameBargains K T first first_memory U second second_memory (equal ≡ true)

-- with memory that suffices no question is refused for want of it: book, tariff and limit decide what it gives
pub record DecidedByBook {C : Type 0} (K : Kind C) (T : Meaning C) (book : Book) (memory : Memory K T book) : Type 0 where
  pub front_decided : front_given K T book memory ≡ Ok (length (front K T book), front K T book)
  pub budget_decided : (limit : C) → budget_given K T book memory limit ≡ budget_result K T book limit
  pub deadline_decided : (limit : ℕ) → deadline_given K T book memory limit ≡ deadline_result K T book limit

-- for every tariff and book, and all memory
abbrev pub EnoughMemoryIsAnswered : {C : Type 0} → Kind C → Type 0
EnoughMemoryIsAnswered {C} K =
    (T : Meaning C) (book : Book) (memory : Memory K T book) → DecidedByBook K T book memory
