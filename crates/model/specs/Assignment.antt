-- Standing tasks, their assignments, and the lengths and costs of these
use Rattle.std.specs.Prelude.{◌≡◌, ℕ, ◌+◌, max, false, ◌↔◌, List, [], ◌∷◌, map, is_some, Some, None, filter, Option, ◌≢◌}
use Rattle.std.specs.List.{range_with_len, slice_get}
use Rattle.costs.specs.Kind.{Kind}
use Rattle.tariffs.specs.Meaning.{Meaning, Ranged}
use Rattle.tariffs.specs.declared.quote.Quote.{Quote}
use Rattle.sheets.specs.Tasks.{stands_in}
use Rattle.sheets.specs.Book.{Book}
use Rattle.sheets.specs.declared.task.Task.{Task}
use Rattle.model.specs.declared.point.Point.{Point}
use Rattle.model.specs.Lists.{In, Paired, selections}

-- the standing tasks of a stage, by number
abbrev pub stage_tasks : List Task → ℕ → List Task
stage_tasks tasks stage = filter (stands_in stage) tasks

-- the standing tasks, stage by stage
abbrev pub standing : Book → List (List Task)
standing book = map (stage_tasks book.tasks) (range_with_len 0 book.stages)

-- what a quote takes, 0 without one
abbrev pub minutes_of : {C : Type 0} → Option (Quote C) → ℕ
minutes_of None = 0
minutes_of (Some q) = q.minutes

-- what a quote charges, neutral without one
abbrev pub charge_of : {C : Type 0} → Kind C → Option (Quote C) → C
charge_of K None = K.neutral
charge_of K (Some q) = q.cost

module _ {C : Type 0} (T : Meaning C) where
  -- the quote of a task on a machine
  abbrev pub quote_of : Task → ℕ → Option (Quote C)
  quote_of task machine = T.quote machine task.work

  -- the task has a quote on the machine
  abbrev pub Quoted : Task → ℕ → Type 0
  Quoted task machine = (q : Quote C) × (quote_of task machine ≡ Some q)

  -- every standing task, stage by stage, has a machine whose quote is not none
  abbrev pub IsAssignment : List (List Task) → List (List ℕ) → Type 0
  IsAssignment stages plan = Paired (Paired Quoted) stages plan

  -- there is an assignment of the book's standing tasks
  abbrev pub HasAssignment : Book → Type 0
  HasAssignment book = (plan : List (List ℕ)) × IsAssignment (standing book) plan

  -- the machines that quote a task
  abbrev pub quoting : Task → List ℕ
  quoting task = filter (λ machine. is_some (quote_of task machine)) (range_with_len 0 T.count)

  -- the task of this number stands and no machine quotes it
  abbrev pub Unquoted : Book → ℕ → Type 0
  Unquoted book n = (task : Task) × (slice_get book.tasks n ≡ Some task) × (task.struck ≡ false) × ((machine : ℕ) (q : Quote C) → quote_of task machine ≢ Some q)

  -- all assignments
  abbrev pub assignments : List (List Task) → List (List (List ℕ))
  assignments stages = selections (map (λ tasks. selections (map quoting tasks)) stages)

  -- a stage's time is the greatest time in it, 0 without standing tasks
  abbrev pub stage_time : List Task → List ℕ → ℕ
  stage_time [] machines = 0
  stage_time (task ∷ tasks) [] = 0
  stage_time (task ∷ tasks) (machine ∷ machines) = max (minutes_of (quote_of task machine)) (stage_time tasks machines)

  -- the length is the sum of the stage times
  abbrev pub length_of : List (List Task) → List (List ℕ) → ℕ
  length_of [] plan = 0
  length_of (tasks ∷ stages) [] = 0
  length_of (tasks ∷ stages) (machines ∷ plan) = stage_time tasks machines + length_of stages plan

module _ {C : Type 0} (K : Kind C) (T : Meaning C) where
  -- the join of the costs quoted in a stage, neutral without any
  abbrev pub stage_cost : List Task → List ℕ → C
  stage_cost [] machines = K.neutral
  stage_cost (task ∷ tasks) [] = K.neutral
  stage_cost (task ∷ tasks) (machine ∷ machines) = K.join (charge_of K (quote_of T task machine)) (stage_cost tasks machines)

  -- the cost is the join of all quoted costs, neutral without any
  abbrev pub cost_of : List (List Task) → List (List ℕ) → C
  cost_of [] plan = K.neutral
  cost_of (tasks ∷ stages) [] = K.neutral
  cost_of (tasks ∷ stages) (machines ∷ plan) = K.join (stage_cost tasks machines) (cost_of stages plan)

  -- the pair of length and cost that an assignment has
  abbrev pub pair_of : List (List Task) → List (List ℕ) → Point C
  pair_of stages plan = record { length = length_of T stages plan; cost = cost_of stages plan }

  -- the pairs that all assignments have
  abbrev pub pairs : List (List Task) → List (Point C)
  pairs stages = map (pair_of stages) (assignments T stages)

  -- some assignment has this pair
  abbrev pub HasPair : List (List Task) → Point C → Type 0
  HasPair stages p = (plan : List (List ℕ)) × IsAssignment T stages plan × (p ≡ pair_of stages plan)

-- the list of all assignments holds these and no others
abbrev pub AssignmentsAreAll : Type 0 → Type 0
AssignmentsAreAll C =
    (T : Meaning C) → Ranged T → (stages : List (List Task)) (plan : List (List ℕ))
    → In plan (assignments T stages) ↔ IsAssignment T stages plan
