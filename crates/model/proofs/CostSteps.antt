-- A stage's cost from one allowance to the next: it changes only at quoted times
use Rattle.std.proofs.Common.{◌≡◌, ℕ, zero, suc, ◌<◌, Bool, false, cond, eqb, List, [], ◌∷◌, Some, None, Option, sym, refl, ap, ◌∙◌, ap₂, ⊎_elim, arith}
use Rattle.std.specs.List.{range_with_len}
use Rattle.std.specs.Option.{option_map}
use Rattle.std.proofs.lemmas.Bool.{le-leb, lt-leb, eqb-false, cases_lt, cases_Bool, or_parts, true≢false}
use Rattle.costs.specs.Kind.{Kind}
use Rattle.tariffs.specs.Meaning.{Meaning, Ranged}
use Rattle.tariffs.specs.declared.quote.Quote.{Quote}
use Rattle.sheets.specs.declared.task.Task.{Task}
use Rattle.model.specs.declared.choice.Choice.{Choice}
use Rattle.model.specs.Lists.{any}
use Rattle.model.specs.Assignment.{quote_of}
use Rattle.model.specs.Allowance.{joined, cheaper_choice, choice_within, cheapest_below, cost_within, cost_until, takes, is_time}
use Rattle.model.proofs.Lists.{any_false, in_counting}
use Rattle.model.proofs.Spans.{greatest_times_are_quoted}
use Rattle.model.proofs.Loops.{greatest_time_bound}

module _ {C : Type 0} (K : Kind C) (T : Meaning C) (F : Ranged T) where
  -- a quote of another time is within an allowance exactly when it is within one minute less
  choice_kept : (a m : ℕ) (q : Option (Quote C)) → elim q as (λ _. Bool) [ None ↦ false | Some q ↦ eqb q.minutes (suc a) ] ≡ false → choice_within (suc a) m q ≡ choice_within a m q
  choice_kept a m None e = refl
  choice_kept a m (Some q) e =
      ap (λ (b : Bool). cond b (Some (record { machine = m; cost = q.cost })) None)
      (⊎_elim
      (λ over. let other = eqb-false q.minutes (suc a) e in ⊎_elim
      (λ more. lt-leb q.minutes (suc a) more ∙ sym (lt-leb q.minutes a over))
      (λ no_more. absurd (other (let same : q.minutes ≡ suc a = omega arith in same)))
      (cases_lt (suc a) q.minutes))
      (λ within. le-leb q.minutes (suc a) (omega arith) ∙ sym (le-leb q.minutes a within))
      (cases_lt a q.minutes))

  cheapest_kept : (task : Task) (a n : ℕ) → ((m : ℕ) → m < n → takes T task (suc a) m ≡ false) → cheapest_below K T task (suc a) n ≡ cheapest_below K T task a n
  cheapest_kept task a zero none = refl
  cheapest_kept task a (suc n) none =
      ap₂ (λ (x y : Option (Choice C)). cheaper_choice K x y) (cheapest_kept task a n (λ m l. none m (omega arith))) (choice_kept a n (quote_of T task n) (none n (omega arith)))

  stage_kept : (tasks : List Task) (a : ℕ) → any (λ task. any (takes T task (suc a)) (range_with_len 0 T.count)) tasks ≡ false → cost_within K T tasks (suc a) ≡ cost_within K T tasks a
  stage_kept [] a none = refl
  stage_kept (task ∷ tasks) a none =
      let parts = or_parts (any (takes T task (suc a)) (range_with_len 0 T.count)) _ none in
      ap₂ (λ (x : Option (Choice C)) (y : Option C). joined K (option_map (λ choice. choice.cost) x) y)
      (cheapest_kept task a T.count (λ m l. any_false (takes T task (suc a)) parts.0 (in_counting 0 T.count m (omega arith) (omega arith))))
      (stage_kept tasks a parts.1)

  -- no quote takes no time
  choice_at_once : (task : Task) (m : ℕ) (q : Option (Quote C)) → quote_of T task m ≡ q → choice_within 0 m q ≡ None
  choice_at_once task m None e = refl
  choice_at_once task m (Some q) e =
      ap (λ (b : Bool). cond b (Some (record { machine = m; cost = q.cost })) None) (lt-leb q.minutes 0 (let t = F.timed m task.work q e in omega arith))

  cheapest_at_once : (task : Task) (n : ℕ) → cheapest_below K T task 0 n ≡ None
  cheapest_at_once task zero = refl
  cheapest_at_once task (suc n) =
      ap₂ (λ (x y : Option (Choice C)). cheaper_choice K x y) (cheapest_at_once task n) (choice_at_once task n (quote_of T task n) refl)

  pub cost_kept : (tasks : List Task) (a : ℕ) → is_time T tasks a ≡ false → cost_until K T tasks a ≡ cost_within K T tasks a
  cost_kept [] zero e = absurd (true≢false e)
  cost_kept [] (suc a) e = refl
  cost_kept (task ∷ tasks) zero e =
      sym (ap (λ (x : Option (Choice C)). joined K (option_map (λ choice. choice.cost) x) (cost_within K T tasks 0)) (cheapest_at_once task T.count))
  cost_kept (task ∷ tasks) (suc a) e = sym (stage_kept (task ∷ tasks) a e)

  -- no time is quoted past a day
  pub no_time_past : (tasks : List Task) (a : ℕ) → 1440 < a → is_time T tasks a ≡ false
  no_time_past tasks a h =
      ⊎_elim
      (λ timed. let most = (greatest_times_are_quoted T F).none_greater tasks a timed in let bound = greatest_time_bound T F tasks in absurd (omega arith))
      (λ not_timed. not_timed)
      (cases_Bool (is_time T tasks a))
