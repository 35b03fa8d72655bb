-- A task that no machine quotes
use Rattle.std.proofs.Common.{◌≡◌, ℕ, Bool, true, false, not, List, [], ◌∷◌, Some, None, Option, sym, refl, arith}
use Rattle.std.specs.Option.{MatchOption, is_some}
use Rattle.costs.specs.Kind.{Kind}
use Rattle.tariffs.specs.Meaning.{Meaning, Ranged}
use Rattle.sheets.specs.declared.task.Task.{Task}
use Rattle.model.specs.declared.choice.Choice.{Choice}
use Rattle.model.specs.Lists.{In, here, is_empty}
use Rattle.model.specs.Assignment.{quoting}
use Rattle.model.specs.Allowance.{IsCheapest, NoneWithin}
use Rattle.model.proofs.Assignments.{of_quoting, in_quoting}

module _ {C : Type 0} (T : Meaning C) (ranged : Ranged T) (task : Task) where
  -- where no quote is within a day, there is none
  pub none_quoting : NoneWithin T task 1440 → is_empty (quoting T task) ≡ true
  none_quoting none = go (quoting T task) (λ m i. let q = of_quoting T task m i in let late = none m q.0 q.1 in let day = ranged.timed m task.work q.0 q.1 in omega arith)
    where
      go : (machines : List ℕ) → ((m : ℕ) → In m machines → ⊥) → is_empty machines ≡ true
      go [] never = refl
      go (m ∷ ms) never = absurd (never m (here refl))

  -- where there is a cheapest quote, some machine quotes
  pub some_quoting : (K : Kind C) (a : ℕ) (choice : Choice C) → IsCheapest K T task a choice → is_empty (quoting T task) ≡ false
  some_quoting K a choice c = go (quoting T task) (in_quoting T ranged task choice.machine (c.quote, c.quoted))
    where
      go : (machines : List ℕ) → In choice.machine machines → is_empty machines ≡ false
      go [] i = elim i [ ]
      go (m ∷ ms) i = refl

  -- a task without a cheapest quote within a day has none
  pub quoting_empty : (K : Kind C) (cheapest : Option (Choice C)) → MatchOption cheapest (NoneWithin T task 1440) (IsCheapest K T task 1440) → (none : Bool) → is_some cheapest ≡ not none → none ≡ is_empty (quoting T task)
  quoting_empty K None within true e = sym (none_quoting within)
  quoting_empty K None within false e = cc
  quoting_empty K (Some choice) within true e = cc
  quoting_empty K (Some choice) within false e = sym (some_quoting K 1440 choice within)
