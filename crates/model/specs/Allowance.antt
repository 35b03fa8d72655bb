-- Allowances: a stage's cost within a number of minutes, and the times that its tasks are quoted
use Rattle.std.specs.Prelude.{◌≡◌, ℕ, zero, suc, ◌<◌, ◌≤◌, max, Bool, true, false, cond, ◌↔◌, List, [], ◌∷◌, Some, None, Option, ◌==◌, nat_eq, nat_le}
use Rattle.std.specs.List.{range_with_len}
use Rattle.std.specs.Option.{option_map}
use Rattle.costs.specs.Kind.{Kind}
use Rattle.tariffs.specs.Meaning.{Meaning, Ranged}
use Rattle.tariffs.specs.declared.quote.Quote.{Quote}
use Rattle.sheets.specs.declared.task.Task.{Task}
use Rattle.model.specs.declared.choice.Choice.{Choice}
use Rattle.model.specs.Lists.{any, is_empty}
use Rattle.model.specs.Assignment.{quote_of, minutes_of}

module _ {C : Type 0} (K : Kind C) where
  -- the join of two costs, none if either is none
  abbrev pub joined : Option C → Option C → Option C
  joined None y = None
  joined (Some x) None = None
  joined (Some x) (Some y) = Some (K.join x y)

  -- the cheaper of two costs, the first among equals; none is dearer than any
  abbrev pub cheaper : Option C → Option C → Option C
  cheaper None y = y
  cheaper (Some x) None = Some x
  cheaper (Some x) (Some y) = cond (K.at_most x y) (Some x) (Some y)

  -- the cheapest of the costs at 0 to n − 1
  abbrev pub cheapest_of : (ℕ → Option C) → ℕ → Option C
  cheapest_of costs zero = None
  cheapest_of costs (suc n) = cheaper (cheapest_of costs n) (costs n)

  -- the cheaper of two choices, the first among equals
  abbrev pub cheaper_choice : Option (Choice C) → Option (Choice C) → Option (Choice C)
  cheaper_choice None y = y
  cheaper_choice (Some x) None = Some x
  cheaper_choice (Some x) (Some y) = cond (K.at_most x.cost y.cost) (Some x) (Some y)

-- the machine with what it quotes, if that takes no more than the allowance
abbrev pub choice_within : {C : Type 0} → ℕ → ℕ → Option (Quote C) → Option (Choice C)
choice_within allowance machine None = None
choice_within allowance machine (Some q) = cond (nat_le q.minutes allowance) (Some (record { machine = machine; cost = q.cost })) None

module _ {C : Type 0} (K : Kind C) (T : Meaning C) where
  -- the cheapest quote within the allowance among the machines below n, the lowest number among equals
  abbrev pub cheapest_below : Task → ℕ → ℕ → Option (Choice C)
  cheapest_below task allowance zero = None
  cheapest_below task allowance (suc n) = cheaper_choice K (cheapest_below task allowance n) (choice_within allowance n (quote_of T task n))

  -- the cheapest quote within the allowance
  abbrev pub cheapest : Task → ℕ → Option (Choice C)
  cheapest task allowance = cheapest_below task allowance T.count

  -- under an allowance a stage costs the join of its standing tasks' cheapest quotes within it; none if a task has none
  abbrev pub cost_within : List Task → ℕ → Option C
  cost_within [] allowance = Some K.neutral
  cost_within (task ∷ tasks) allowance = joined K (option_map (λ choice. choice.cost) (cheapest task allowance)) (cost_within tasks allowance)

  -- what it costs under one minute less; none where there is none less
  abbrev pub cost_until : List Task → ℕ → Option C
  cost_until tasks zero = None
  cost_until tasks (suc a) = cost_within tasks a

  -- the cheapest quote within the allowance, in words
  pub record IsCheapest (task : Task) (allowance : ℕ) (choice : Choice C) : Type 0 where
    pub quote : Quote C
    pub quoted : quote_of T task choice.machine ≡ Some quote
    pub allowed : quote.minutes ≤ allowance
    pub price : quote.cost ≡ choice.cost
    pub least : (m : ℕ) (q : Quote C) → quote_of T task m ≡ Some q → q.minutes ≤ allowance → K.at_most choice.cost q.cost ≡ true
    pub lowest : (m : ℕ) (q : Quote C) → quote_of T task m ≡ Some q → q.minutes ≤ allowance → q.cost ≡ choice.cost → choice.machine ≤ m

module _ {C : Type 0} (T : Meaning C) where
  -- no machine quotes the task within the allowance
  abbrev pub NoneWithin : Task → ℕ → Type 0
  NoneWithin task allowance = (m : ℕ) (q : Quote C) → quote_of T task m ≡ Some q → allowance < q.minutes

  -- the greatest time that the machines below n quote a task, 0 without any quote
  abbrev pub greatest_time_below : Task → ℕ → ℕ
  greatest_time_below task zero = 0
  greatest_time_below task (suc n) = max (greatest_time_below task n) (minutes_of (quote_of T task n))

  -- the greatest time quoted to a standing task of a stage, 0 without any
  abbrev pub greatest_time : List Task → ℕ
  greatest_time [] = 0
  greatest_time (task ∷ tasks) = max (greatest_time_below task T.count) (greatest_time tasks)

  -- the machine quotes the task exactly so many minutes
  abbrev pub takes : Task → ℕ → ℕ → Bool
  takes task minutes machine = elim (quote_of T task machine) [ None ↦ false | Some q ↦ nat_eq q.minutes minutes ]

  -- some machine quotes some task of the stage exactly so many minutes; for a stage without standing tasks, 0
  abbrev pub is_time : List Task → ℕ → Bool
  is_time tasks minutes = cond (is_empty tasks) (minutes == 0) (any (λ task. any (takes task minutes) (range_with_len 0 T.count)) tasks)

-- the choice that is computed is the cheapest in words, and there is none exactly when no machine quotes within the allowance
pub record CheapestInWords {C : Type 0} (K : Kind C) (T : Meaning C) : Type 0 where
  pub some : (task : Task) (allowance : ℕ) (choice : Choice C) → IsCheapest K T task allowance choice ↔ (cheapest K T task allowance ≡ Some choice)
  pub none : (task : Task) (allowance : ℕ) → NoneWithin T task allowance ↔ (cheapest K T task allowance ≡ None)

-- for every tariff in the cost kind
abbrev pub CheapestIsCheapest : {C : Type 0} → Kind C → Type 0
CheapestIsCheapest {C} K = (T : Meaning C) → Ranged T → CheapestInWords K T

-- no quoted time is greater than the greatest, which is one if there is any
pub record GreatestQuotedTime {C : Type 0} (T : Meaning C) : Type 0 where
  pub none_greater : (tasks : List Task) (a : ℕ) → is_time T tasks a ≡ true → a ≤ greatest_time T tasks
  pub is_one : (tasks : List Task) (a : ℕ) → is_time T tasks a ≡ true → is_time T tasks (greatest_time T tasks) ≡ true

-- for every tariff
abbrev pub GreatestTimesAreQuoted : Type 0 → Type 0
GreatestTimesAreQuoted C = (T : Meaning C) → Ranged T → GreatestQuotedTime T
