-- The two equations: the time under a budget and the cost under a deadline, over all ways to share the limit out
use Rattle.std.specs.Prelude.{◌≡◌, ℕ, ◌≤◌, true, ◌↔◌, List, [], ◌∷◌, map, Some, None, Option}
use Rattle.std.specs.Option.{option_map}
use Rattle.std.specs.Result.{result_ok}
use Rattle.costs.specs.Kind.{Kind}
use Rattle.tariffs.specs.Meaning.{Meaning, Ranged}
use Rattle.tariffs.specs.declared.quote.Quote.{Quote}
use Rattle.sheets.specs.Book.{Book}
use Rattle.sheets.specs.History.{book_after}
use Rattle.sheets.specs.declared.call.Call.{Call}
use Rattle.sheets.specs.declared.task.Task.{Task}
use Rattle.model.specs.Lists.{Paired, total, greatest}
use Rattle.model.specs.Assignment.{standing, quote_of, stage_time, length_of}
use Rattle.model.specs.Allowance.{cost_within, greatest_time}
use Rattle.model.specs.Cell.{IsLeast}
use Rattle.model.specs.Limit.{budget_result, deadline_result}
use Rattle.model.specs.Plan.{list_cost}

-- the least of some times: it is one of them, and none is less; none if there is none
abbrev pub IsLeastTime : (ℕ → Type 0) → Option ℕ → Type 0
IsLeastTime Times None = (t : ℕ) → Times t → ⊥
IsLeastTime Times (Some t) = Times t × ((other : ℕ) → Times other → t ≤ other)

-- what a task or a stage gets of a limit, and the time that it takes with it
pub record Part (C : Type 0) : Type 0 where
  pub share : C
  pub time : ℕ

module _ {C : Type 0} (K : Kind C) where
  -- the join of a list of costs
  abbrev pub join_all : List C → C
  join_all [] = K.neutral
  join_all (c ∷ cs) = K.join c (join_all cs)

  -- the times of all ways to share a limit out: each gets a share, the shares join to at most the limit, each takes its
  -- time under its share, and these times are taken together
  abbrev pub TimeShared : {A : Type 0} → (A → C → Option ℕ → Type 0) → (List ℕ → ℕ) → List A → C → ℕ → Type 0
  TimeShared IsTime together each limit t =
      (parts : List (Part C))
      × Paired (λ one part. IsTime one part.share (Some part.time)) each parts
      × (K.at_most (join_all (map (λ part. part.share) parts)) limit ≡ true)
      × (together (map (λ part. part.time) parts) ≡ t)

  -- the join of the shares of a stage's tasks, each share beside the machine taken with it; and of all stages' tasks
  abbrev pub joined_in_stage : List (C × ℕ) → C
  joined_in_stage shares = join_all (map (λ share. share.0) shares)

  abbrev pub joined_shares : List (List (C × ℕ)) → C
  joined_shares shares = join_all (map joined_in_stage shares)

-- the machines that are taken
abbrev pub bought_in_stage : {C : Type 0} → List (C × ℕ) → List ℕ
bought_in_stage shares = map (λ share. share.1) shares

abbrev pub machines_bought : {C : Type 0} → List (List (C × ℕ)) → List (List ℕ)
machines_bought shares = map bought_in_stage shares

-- The equation of budgets: T_jl(b) for task l of stage j, T_j(b) for the stage, T(b) for all stages. Each is a time, or
-- none where nothing can be had for b.
module _ {C : Type 0} (K : Kind C) (T : Meaning C) where
  -- the times of a task's quotes that cost at most its share
  abbrev pub TimeQuoted : Task → C → ℕ → Type 0
  TimeQuoted task share t =
      (machine : ℕ) × (q : Quote C) × (quote_of T task machine ≡ Some q) × (K.at_most q.cost share ≡ true) × (q.minutes ≡ t)

  -- T_jl(share): the least of these
  abbrev pub TaskTime : Task → C → Option ℕ → Type 0
  TaskTime task share = IsLeastTime (TimeQuoted task share)

  -- T_j(share): the least, over all ways to share the stage's share out among its tasks, of the greatest of the tasks' times
  abbrev pub StageTime : List Task → C → Option ℕ → Type 0
  StageTime tasks share = IsLeastTime (TimeShared K TaskTime greatest tasks share)

  -- T(limit): the least, over all ways to share the limit out among the stages, of the sum of the stages' times
  abbrev pub BudgetTime : List (List Task) → C → Option ℕ → Type 0
  BudgetTime stages limit = IsLeastTime (TimeShared K StageTime total stages limit)

  -- a task takes a machine with its share: the quote costs at most the share
  abbrev pub Bought : Task → (C × ℕ) → Type 0
  Bought task share = (q : Quote C) × (quote_of T task share.1 ≡ Some q) × (K.at_most q.cost share.0 ≡ true)

  -- the least time of a stage whose tasks take machines with shares that join to at most the stage's share
  abbrev pub StageTimeAtOnce : List Task → C → Option ℕ → Type 0
  StageTimeAtOnce tasks share = IsLeastTime (λ t.
      (shares : List (C × ℕ))
      × Paired Bought tasks shares
      × (K.at_most (joined_in_stage K shares) share ≡ true)
      × (stage_time T tasks (bought_in_stage shares) ≡ t))

  -- the same of all stages: the least length, over all ways to share the limit out among stages and tasks at once
  abbrev pub BudgetTimeAtOnce : List (List Task) → C → Option ℕ → Type 0
  BudgetTimeAtOnce stages limit = IsLeastTime (λ t.
      (shares : List (List (C × ℕ)))
      × Paired (Paired Bought) stages shares
      × (K.at_most (joined_shares K shares) limit ≡ true)
      × (length_of T stages (machines_bought shares) ≡ t))

  -- the least sum of an allowance list under which the stages cost at most the limit
  abbrev pub BudgetTimeByAllowances : List (List Task) → C → Option ℕ → Type 0
  BudgetTimeByAllowances stages limit = IsLeastTime (λ t.
      (allowances : List ℕ) × (c : C)
      × (list_cost K T stages allowances ≡ Some c)
      × (K.at_most c limit ≡ true)
      × (total allowances ≡ t))

  -- The equation of deadlines: C_j(a), for every number a of minutes, is `cost_within`, the join of the cheapest quotes of
  -- the stage's tasks within a, or none without one for each. C(limit) is the least join of the stages' costs over all
  -- allowance lists whose sum is at most the limit, or none where no such list counts.
  abbrev pub DeadlineCost : List (List Task) → ℕ → Option C → Type 0
  DeadlineCost stages limit = IsLeast K (λ c.
      (allowances : List ℕ) × (total allowances ≤ limit) × (list_cost K T stages allowances ≡ Some c))

-- limits shared out
pub record SharedOut {C : Type 0} (K : Kind C) (T : Meaning C) (book : Book) : Type 0 where
  -- a budget gives T(limit), a deadline gives C(limit), and refusals 9 and 10 mean that there is none
  pub budget : (limit : C) → BudgetTime K T (standing book) limit (option_map (λ p. p.length) (result_ok (budget_result K T book limit)))
  pub deadline : (limit : ℕ) → DeadlineCost K T (standing book) limit (option_map (λ p. p.cost) (result_ok (deadline_result K T book limit)))
  -- every share of a stage has its T_j, a time or none
  pub stage_defined : (tasks : List Task) (share : C) → (t : Option ℕ) × StageTime K T tasks share t
  -- the least of leasts is the least over all shares at once, for one stage and for all
  pub stage_at_once : (tasks : List Task) (share : C) (t : Option ℕ) → StageTime K T tasks share t ↔ StageTimeAtOnce K T tasks share t
  pub at_once : (stages : List (List Task)) (limit : C) (t : Option ℕ) → BudgetTime K T stages limit t ↔ BudgetTimeAtOnce K T stages limit t
  -- and the least over allowance lists
  pub by_allowances : (stages : List (List Task)) (limit : C) (t : Option ℕ) → BudgetTime K T stages limit t ↔ BudgetTimeByAllowances K T stages limit t
  -- more minutes than any quote takes are lawful: within them a stage costs what it costs within the greatest time quoted
  pub late : (tasks : List Task) (a : ℕ) → greatest_time T tasks ≤ a → cost_within K T tasks a ≡ cost_within K T tasks (greatest_time T tasks)

-- for every tariff in the cost kind and every history of calls
abbrev pub LimitsAreSharedOut : {C : Type 0} → Kind C → Type 0
LimitsAreSharedOut {C} K = (T : Meaning C) → Ranged T → (calls : List Call) → SharedOut K T (book_after calls)
