-- The list of all assignments holds these and no others
use Rattle.std.proofs.Common.{◌≡◌, ℕ, ◌<◌, ◌≤◌, Bool, true, false, not, List, map, is_some, Some, None, Option, sym, refl, ap, ◌∙◌, subst, inl, inr, zero-le, arith}
use mathlib.Core.Path.{fun_ext}
use Rattle.std.specs.List.{range_with_len}
use Rattle.std.proofs.lemmas.Bool.{both_ways, and_parts, and_from, eqb-true, eq-eqb, not-true, not_from_false, cases_lt}
use Rattle.costs.specs.Kind.{Kind}
use Rattle.tariffs.specs.Meaning.{Meaning, Ranged}
use Rattle.tariffs.specs.declared.quote.Quote.{Quote}
use Rattle.sheets.specs.declared.task.Task.{Task}
use Rattle.model.specs.declared.point.Point.{Point}
use Rattle.model.specs.Lists.{In, Paired, selections, any, is_empty}
use Rattle.sheets.specs.Tasks.{stands_in}
use Rattle.model.specs.Assignment.{stage_tasks, quote_of, Quoted, quoting, IsAssignment, assignments, pair_of, pairs, HasPair, AssignmentsAreAll}
use Rattle.model.proofs.Lists.{in_kept_by, of_kept_by, in_map, of_map, in_counting, in_selections, of_selections, selections_empty, any_map, paired_to, paired_from}

module _ {C : Type 0} (T : Meaning C) where
  some_quote : (o : Option (Quote C)) → is_some o ≡ true → (q : Quote C) × (o ≡ Some q)
  some_quote None h = absurd (both_ways false refl h)
  some_quote (Some q) h = (q, refl)

  pub of_quoting : (task : Task) (machine : ℕ) → In machine (quoting T task) → Quoted T task machine
  of_quoting task machine i = some_quote (quote_of T task machine) (of_kept_by _ (range_with_len 0 T.count) i).1

  module _ (F : Ranged T) where
    -- what the ranges of a tariff say of a task's quotes
    pub quote_listed : (task : Task) (machine : ℕ) → T.count ≤ machine → quote_of T task machine ≡ None
    quote_listed task machine past = F.listed machine task.work past

    pub quote_timed : (task : Task) (machine : ℕ) (q : Quote C) → quote_of T task machine ≡ Some q → (1 ≤ q.minutes) × (q.minutes ≤ 1440)
    quote_timed task machine q e = F.timed machine task.work q e

    pub below_count : (task : Task) (machine : ℕ) (q : Quote C) → quote_of T task machine ≡ Some q → machine < T.count
    below_count task machine q e = elim (cases_lt machine T.count) [ inl l ↦ l | inr g ↦ let d = quote_listed task machine g in cc ]

    pub in_quoting : (task : Task) (machine : ℕ) → Quoted T task machine → In machine (quoting T task)
    in_quoting task machine q = in_kept_by _ (in_counting 0 T.count machine zero-le (omega (arith, below_count task machine q.0 q.1))) (ap is_some q.1)

    pub in_assignments : (stages : List (List Task)) (plan : List (List ℕ)) → IsAssignment T stages plan → In plan (assignments T stages)
    in_assignments stages plan h = in_selections _ plan (paired_to (λ tasks. selections (map (quoting T) tasks)) _ (Paired (Quoted T))
        (λ tasks machines p. in_selections _ machines (paired_to (quoting T) _ (Quoted T) in_quoting tasks machines p)) stages plan h)

  pub of_assignments : (stages : List (List Task)) (plan : List (List ℕ)) → In plan (assignments T stages) → IsAssignment T stages plan
  of_assignments stages plan i = paired_from (λ tasks. selections (map (quoting T) tasks)) _ (Paired (Quoted T))
      (λ tasks machines p. paired_from (quoting T) _ (Quoted T) of_quoting tasks machines (of_selections _ machines p)) stages plan (of_selections _ plan i)

  -- there is no assignment exactly when a task has no quote
  pub none_assigned : (stages : List (List Task)) → is_empty (assignments T stages) ≡ any (λ tasks. any (λ task. is_empty (quoting T task)) tasks) stages
  none_assigned stages = selections_empty (map (λ tasks. selections (map (quoting T) tasks)) stages) ∙ any_map _ is_empty stages
      ∙ ap (λ (f : List Task → Bool). any f stages) (fun_ext (λ tasks. selections_empty (map (quoting T) tasks) ∙ any_map (quoting T) is_empty tasks))

pub assignments_are_all : {C : Type 0} → AssignmentsAreAll C
assignments_are_all T F stages plan = (of_assignments T stages plan, in_assignments T F stages plan)

-- the pairs of a list of stages
module _ {C : Type 0} (K : Kind C) (T : Meaning C) (stages : List (List Task)) where
  pub in_pairs : Ranged T → (p : Point C) → HasPair K T stages p → In p (pairs K T stages)
  in_pairs F p h = subst (λ (x : Point C). In x (pairs K T stages)) (sym h.2) (in_map (pair_of K T stages) (in_assignments T F stages h.0 h.1))

  pub of_pairs : (p : Point C) → In p (pairs K T stages) → HasPair K T stages p
  of_pairs p i = let r = of_map (pair_of K T stages) (assignments T stages) i in (r.0, of_assignments T stages r.0 r.1, r.2)

-- a standing task stands in its stage
pub in_stage : {task : Task} {tasks : List Task} → In task tasks → task.struck ≡ false → In task (stage_tasks tasks task.stage)
in_stage {task} i s = in_kept_by (stands_in task.stage) i (and_from _ _ (not_from_false _ s) (eq-eqb _ _ refl))

pub of_stage : {task : Task} (tasks : List Task) (stage : ℕ) → In task (stage_tasks tasks stage) → In task tasks × (task.struck ≡ false) × (task.stage ≡ stage)
of_stage {task} tasks stage i =
    let r = of_kept_by (stands_in stage) tasks i in
    let a = and_parts (not task.struck) _ r.1 in
    (r.0, not-true _ a.0, eqb-true _ _ a.1)
