-- Allowance lists and plans
use Rattle.std.specs.Prelude.{◌≡◌, ℕ, zero, suc, ◌+◌, ◌-◌, ◌<◌, Bool, true, false, cond, ◌⊎◌, ◌↔◌, List, [], ◌∷◌, map, length, Some, None, Ok, Option, slice_index}
use Rattle.std.specs.List.{range_with_len, slice_get}
use Rattle.costs.specs.Kind.{Kind}
use Rattle.tariffs.specs.Meaning.{Meaning, Ranged}
use Rattle.sheets.specs.Book.{Book}
use Rattle.sheets.specs.History.{book_after}
use Rattle.sheets.specs.declared.call.Call.{Call}
use Rattle.sheets.specs.declared.task.Task.{Task}
use Rattle.model.specs.declared.choice.Choice.{Choice}
use Rattle.model.specs.declared.point.Point.{Point}
use Rattle.model.specs.Lists.{total}
use Rattle.sheets.specs.Tasks.{stands_in}
use Rattle.model.specs.Assignment.{standing, quote_of, IsAssignment, charge_of, cost_of, pair_of}
use Rattle.model.specs.Allowance.{joined, cheapest, cost_within, IsCheapest}
use Rattle.model.specs.Cell.{least_cost}
use Rattle.model.specs.Limit.{budget_result, deadline_result}

-- the smaller number at the first difference
abbrev pub Precedes : List ℕ → List ℕ → Type 0
Precedes [] ys = ⊥
Precedes (x ∷ xs) [] = ⊥
Precedes (x ∷ xs) (y ∷ ys) = (x < y) ⊎ ((x ≡ y) × Precedes xs ys)

-- the byte of a struck task
abbrev pub struck_byte : ℕ
struck_byte = 255

-- the machine of a choice, or this byte without one
abbrev pub machine_or : {C : Type 0} → ℕ → Option (Choice C) → ℕ
machine_or byte None = byte
machine_or byte (Some choice) = choice.machine

-- the first number from a on that passes the test, with n tries; else the last
abbrev pub first_from : (ℕ → Bool) → ℕ → ℕ → ℕ
first_from test a zero = a
first_from test a (suc n) = cond (test a) a (first_from test (a + 1) n)

module _ {C : Type 0} (K : Kind C) where
  -- joined to what was spent before, a stage's cost and the least cost behind it still reach the cost
  abbrev pub completes : C → Option C → Option C → C → Bool
  completes spent None rest cost = false
  completes spent (Some x) None cost = false
  completes spent (Some x) (Some y) cost = K.at_most (K.join spent (K.join x y)) cost

  -- a cost, or the neutral one
  abbrev pub or_neutral : Option C → C
  or_neutral None = K.neutral
  or_neutral (Some x) = x

module _ {C : Type 0} (K : Kind C) (T : Meaning C) where
  -- the joined stage costs under a list with one allowance for each stage; none where the list does not count
  abbrev pub list_cost : List (List Task) → List ℕ → Option C
  list_cost [] [] = Some K.neutral
  list_cost [] (a ∷ allowances) = None
  list_cost (tasks ∷ stages) [] = None
  list_cost (tasks ∷ stages) (a ∷ allowances) = joined K (cost_within K T tasks a) (list_cost stages allowances)

  -- the list has this sum and this cost
  abbrev pub Counts : List (List Task) → Point C → List ℕ → Type 0
  Counts stages p allowances = (total allowances ≡ p.length) × (list_cost stages allowances ≡ Some p.cost)

  -- it counts, and it precedes each other that does
  abbrev pub IsFirst : List (List Task) → Point C → List ℕ → Type 0
  IsFirst stages p allowances = Counts stages p allowances × ((others : List ℕ) → Counts stages p others → (others ≡ allowances) ⊎ Precedes allowances others)

  -- the least allowance of the first stage with which those behind it still reach the cost within t
  abbrev pub first_allowance : List Task → List (List Task) → ℕ → C → C → ℕ
  first_allowance tasks stages t spent cost =
      first_from (λ a. completes K spent (cost_within K T tasks a) (least_cost K T stages (t - a)) cost) 0 t

  -- stage after stage the least allowance with which the rest still reaches the cost
  abbrev pub first_list : List (List Task) → ℕ → C → C → List ℕ
  first_list [] t spent cost = []
  first_list (tasks ∷ stages) t spent cost =
      let a = first_allowance tasks stages t spent cost in
      a ∷ first_list stages (t - a) (K.join spent (or_neutral K (cost_within K T tasks a))) cost

  -- the allowance list that a plan of this length and cost goes by
  abbrev pub allowances_for : Book → Point C → List ℕ
  allowances_for book p = first_list (standing book) p.length K.neutral p.cost

  -- the byte of a task under a list: its cheapest machine within its stage's allowance, or 255 if struck
  abbrev pub byte_under : List ℕ → Task → ℕ
  byte_under allowances task = cond task.struck struck_byte (machine_or struck_byte (cheapest K T task (slice_index allowances task.stage)))

  -- the plan of a length and cost: a byte for each task number
  abbrev pub plan : Book → Point C → List ℕ
  plan book p = map (byte_under (allowances_for book p)) book.tasks

-- the machines that a plan's bytes give the standing tasks of a stage
abbrev pub stage_machines : List Task → List ℕ → ℕ → List ℕ
stage_machines [] bytes stage = []
stage_machines (task ∷ tasks) [] stage = []
stage_machines (task ∷ tasks) (byte ∷ bytes) stage = cond (stands_in stage task) (byte ∷ stage_machines tasks bytes stage) (stage_machines tasks bytes stage)

-- the machines that a plan's bytes give the standing tasks, stage by stage
abbrev pub machines_of : Book → List ℕ → List (List ℕ)
machines_of book bytes = map (stage_machines book.tasks bytes) (range_with_len 0 book.stages)

-- the join of what the machines of a plan's bytes quote the standing tasks, in the order of task numbers
abbrev pub joined_by_number : {C : Type 0} → Kind C → Meaning C → List Task → List ℕ → C
joined_by_number K T [] bytes = K.neutral
joined_by_number K T (task ∷ tasks) [] = K.neutral
joined_by_number K T (task ∷ tasks) (byte ∷ bytes) =
    cond task.struck (joined_by_number K T tasks bytes) (K.join (charge_of K (quote_of T task byte)) (joined_by_number K T tasks bytes))

-- costs joined stage by stage are the costs joined by task number
abbrev pub StagesJoinAllCosts : {C : Type 0} → Kind C → Type 0
StagesJoinAllCosts {C} K =
    (T : Meaning C) (calls : List Call) (bytes : List ℕ) → let book = book_after calls in
    length bytes ≡ length book.tasks
    → cost_of K T (standing book) (machines_of book bytes) ≡ joined_by_number K T book.tasks bytes

-- a plan in words: it goes by the first list that counts
pub record IsPlan {C : Type 0} (K : Kind C) (T : Meaning C) (book : Book) (p : Point C) (bytes : List ℕ) : Type 0 where
  pub allowances : List ℕ
  pub first : IsFirst K T (standing book) p allowances
  pub as_long : length bytes ≡ length book.tasks
  pub struck_tasks : (n : ℕ) (task : Task) → slice_get book.tasks n ≡ Some task → task.struck ≡ true → slice_get bytes n ≡ Some struck_byte
  pub standing_tasks : (n : ℕ) (task : Task) → slice_get book.tasks n ≡ Some task → task.struck ≡ false →
      (choice : Choice C) × (slice_get bytes n ≡ Some choice.machine) × IsCheapest K T task (slice_index allowances task.stage) choice
  -- and it is an assignment of this length and cost
  pub assigns : IsAssignment T (standing book) (machines_of book bytes)
  pub pays : pair_of K T (standing book) (machines_of book bytes) ≡ p

-- every result of a budget or a deadline has its plan, and no other bytes are one
pub record Planned {C : Type 0} (K : Kind C) (T : Meaning C) (book : Book) : Type 0 where
  pub budgets : (limit : C) (p : Point C) → budget_result K T book limit ≡ Ok p →
      (bytes : List ℕ) → IsPlan K T book p bytes ↔ (bytes ≡ plan K T book p)
  pub deadlines : (limit : ℕ) (p : Point C) → deadline_result K T book limit ≡ Ok p →
      (bytes : List ℕ) → IsPlan K T book p bytes ↔ (bytes ≡ plan K T book p)

-- for every tariff in the cost kind and every history of calls
abbrev pub PlansGoByTheFirstList : {C : Type 0} → Kind C → Type 0
PlansGoByTheFirstList {C} K = (T : Meaning C) → Ranged T → (calls : List Call) → Planned K T (book_after calls)
