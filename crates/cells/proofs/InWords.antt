-- The cheapest quote, in words
use Rattle.std.proofs.Common.{◌≡◌, ℕ, Some, None, Option, sym, MatchOption}
use Rattle.costs.specs.Kind.{Kind, Laws}
use Rattle.tariffs.specs.Meaning.{Meaning, Ranged}
use Rattle.sheets.specs.declared.task.Task.{Task}
use Rattle.model.specs.declared.choice.Choice.{Choice}
use Rattle.model.specs.Allowance.{cheapest, IsCheapest, NoneWithin}
use Rattle.model.proofs.Allowances.{some_cheapest, none_within}

pub cheapest_cases : {C : Type 0} {K : Kind C} (L : Laws K) (T : Meaning C) (F : Ranged T) (task : Task) (a : ℕ) (o : Option (Choice C)) → o ≡ cheapest K T task a → MatchOption o (NoneWithin T task a) (λ choice. IsCheapest K T task a choice)
cheapest_cases L T F task a None e = none_within L T F task a (sym e)
cheapest_cases L T F task a (Some choice) e = some_cheapest L T F task a choice (sym e)
