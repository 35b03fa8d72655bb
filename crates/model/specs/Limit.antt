-- Budgets and deadlines
use Rattle.std.specs.Prelude.{◌≡◌, ℕ, ◌<◌, ◌≤◌, Bool, true, false, not, ◌&&◌, ◌||◌, leb, ◌↔◌, List, Some, None, Ok, Err, filter, Option, ◌==◌, nat_le, nat_lt}
use Rattle.refusals.specs.Answer.{Answer, plain, carrying}
use Rattle.costs.specs.Kind.{Kind}
use Rattle.tariffs.specs.First.{position}
use Rattle.tariffs.specs.Meaning.{Meaning, Ranged}
use Rattle.sheets.specs.Book.{Book}
use Rattle.sheets.specs.History.{book_after}
use Rattle.sheets.specs.declared.call.Call.{Call}
use Rattle.sheets.specs.declared.task.Task.{Task}
use Rattle.model.specs.declared.point.Point.{Point}
use Rattle.model.specs.Lists.{is_empty, least}
use Rattle.model.specs.Assignment.{standing, quoting, pairs, HasPair, Unquoted}
use Rattle.model.specs.Cell.{span}

module _ {C : Type 0} (K : Kind C) where
  -- shorter, or as long and no dearer
  abbrev pub shorter_then_cheaper : Point C → Point C → Bool
  shorter_then_cheaper p q = nat_lt p.length q.length || (p.length == q.length && K.at_most p.cost q.cost)

  -- cheaper, or at the same cost no longer
  abbrev pub cheaper_then_shorter : Point C → Point C → Bool
  cheaper_then_shorter p q = K.at_most p.cost q.cost && (not (K.at_most q.cost p.cost) || nat_le p.length q.length)

module _ {C : Type 0} (T : Meaning C) where
  -- the task stands and has no quote
  abbrev pub unquoted : Task → Bool
  unquoted task = not task.struck && is_empty (quoting T task)

  -- the lowest standing task without any quote
  abbrev pub lowest_unquoted : Book → Option ℕ
  lowest_unquoted book = position unquoted book.tasks

-- what was found, or refusal 10
abbrev pub or_none_within : {C : Type 0} → Option (Point C) → Answer (Point C)
or_none_within None = Err (plain 10)
or_none_within (Some p) = Ok p

-- refusal 9 with the lowest task, or what follows
abbrev pub unless_unquoted : {C : Type 0} → Option ℕ → Answer (Point C) → Answer (Point C)
unless_unquoted (Some task) otherwise = Err (carrying 9 task)
unless_unquoted None otherwise = otherwise

module _ {C : Type 0} (K : Kind C) (T : Meaning C) where
  -- the least length of an assignment costing at most the limit, and the least cost at that length
  abbrev pub within_budget : List (List Task) → C → Option (Point C)
  within_budget stages limit = least (shorter_then_cheaper K) (filter (λ p. K.at_most p.cost limit) (pairs K T stages))

  -- the least cost of an assignment no longer than the limit, and the least length at that cost
  abbrev pub within_deadline : List (List Task) → ℕ → Option (Point C)
  within_deadline stages limit = least (cheaper_then_shorter K) (filter (λ p. leb p.length limit) (pairs K T stages))

  -- what book, tariff and limit decide of a budget: 9, 10, or a length and cost
  abbrev pub budget_result : Book → C → Answer (Point C)
  budget_result book limit = unless_unquoted (lowest_unquoted T book) (or_none_within (within_budget (standing book) limit))

  -- the same of a deadline
  abbrev pub deadline_result : Book → ℕ → Answer (Point C)
  deadline_result book limit = unless_unquoted (lowest_unquoted T book) (or_none_within (within_deadline (standing book) limit))

  -- the result of a budget in words
  pub record IsBudget (stages : List (List Task)) (limit : C) (p : Point C) : Type 0 where
    pub has : HasPair K T stages p
    pub within : K.at_most p.cost limit ≡ true
    pub shortest : (q : Point C) → HasPair K T stages q → K.at_most q.cost limit ≡ true → p.length ≤ q.length
    pub cheapest : (q : Point C) → HasPair K T stages q → q.length ≡ p.length → K.at_most p.cost q.cost ≡ true

  -- the result of a deadline in words
  pub record IsDeadline (stages : List (List Task)) (limit : ℕ) (p : Point C) : Type 0 where
    pub has : HasPair K T stages p
    pub within : p.length ≤ limit
    pub cheapest : (q : Point C) → HasPair K T stages q → q.length ≤ limit → K.at_most p.cost q.cost ≡ true
    pub shortest : (q : Point C) → HasPair K T stages q → q.cost ≡ p.cost → p.length ≤ q.length

-- the pair costs more than a budget
abbrev pub TooDear : {C : Type 0} → Kind C → C → Point C → Type 0
TooDear K limit p = K.at_most p.cost limit ≡ false

-- the pair takes longer than a deadline
abbrev pub TooLong : {C : Type 0} → ℕ → Point C → Type 0
TooLong limit p = limit < p.length

-- the task of this number stands and no machine quotes it, and no lower one does
abbrev pub IsLowestUnquoted : {C : Type 0} → Meaning C → Book → ℕ → Type 0
IsLowestUnquoted T book n = Unquoted T book n × ((m : ℕ) → m < n → Unquoted T book m → ⊥)

-- the results say what the words say
pub record LimitsInWords {C : Type 0} (K : Kind C) (T : Meaning C) (book : Book) : Type 0 where
  pub budgets : (limit : C) (p : Point C) → IsBudget K T (standing book) limit p ↔ (budget_result K T book limit ≡ Ok p)
  pub deadlines : (limit : ℕ) (p : Point C) → IsDeadline K T (standing book) limit p ↔ (deadline_result K T book limit ≡ Ok p)
  -- refusal 9
  pub budget_unquoted : (limit : C) (n : ℕ) → IsLowestUnquoted T book n ↔ (budget_result K T book limit ≡ Err (carrying 9 n))
  pub deadline_unquoted : (limit n : ℕ) → IsLowestUnquoted T book n ↔ (deadline_result K T book limit ≡ Err (carrying 9 n))
  -- refusal 10
  pub none_affordable : (limit : C)
      → (((n : ℕ) → Unquoted T book n → ⊥) × ((p : Point C) → HasPair K T (standing book) p → TooDear K limit p)) ↔ (budget_result K T book limit ≡ Err (plain 10))
  pub none_in_time : (limit : ℕ)
      → (((n : ℕ) → Unquoted T book n → ⊥) × ((p : Point C) → HasPair K T (standing book) p → TooLong limit p)) ↔ (deadline_result K T book limit ≡ Err (plain 10))
  -- a deadline past the span is the same as the span
  pub deadline_held : (limit : ℕ) → span T (standing book) ≤ limit → deadline_result K T book limit ≡ deadline_result K T book (span T (standing book))

-- for every tariff in the cost kind and every history of calls
abbrev pub LimitsGiveBestPairs : {C : Type 0} → Kind C → Type 0
LimitsGiveBestPairs {C} K = (T : Meaning C) → Ranged T → (calls : List Call) → LimitsInWords K T (book_after calls)
