-- The two equations
use Rattle.std.proofs.Common.{◌≡◌, ℕ, ◌≤◌, max, Bool, true, false, ◌↔◌, List, [], ◌∷◌, map, Some, None, Ok, Err, Option, sym, refl, ap, ◌∙◌, subst, ap₂, inl, inr, zero-le, le_trans, le_refl, arith}
use Rattle.std.specs.Option.{option_map}
use Rattle.std.specs.Result.{result_ok}
use Rattle.std.proofs.lemmas.Bool.{both_ways, cases_Bool}
use Rattle.refusals.specs.Answer.{Answer, plain}
use Rattle.costs.specs.Kind.{Kind, Laws}
use Rattle.tariffs.specs.Meaning.{Meaning, Ranged}
use Rattle.sheets.specs.Book.{Book}
use Rattle.sheets.specs.History.{Sound, book_after}
use Rattle.sheets.specs.declared.task.Task.{Task}
use Rattle.sheets.proofs.Histories.{book_sound}
use Rattle.model.specs.declared.choice.Choice.{Choice}
use Rattle.model.specs.declared.point.Point.{Point}
use Rattle.model.specs.Lists.{Paired, total, greatest}
use Rattle.model.specs.Assignment.{standing, minutes_of, charge_of, Quoted, IsAssignment, stage_time, stage_cost, length_of, cost_of, pair_of, HasPair}
use Rattle.model.specs.Allowance.{cheapest, cost_within, greatest_time}
use Rattle.model.specs.Limit.{within_budget, within_deadline, budget_result, deadline_result, IsDeadline}
use Rattle.model.specs.Plan.{list_cost, first_from}
use Rattle.model.specs.Scan.{affordable}
use Rattle.model.specs.Equations.{IsLeastTime, Part, join_all, TimeShared, bought_in_stage, machines_bought, TimeQuoted, TaskTime, StageTime, BudgetTime, StageTimeAtOnce, BudgetTimeAtOnce, BudgetTimeByAllowances, DeadlineCost, LimitsAreSharedOut}
use Rattle.model.proofs.Spans.{stage_time_at_most}
use Rattle.model.proofs.LeastCosts.{at_most_refl, join_mono, like, is_least_unique, StageCost, cost_within_least, reached, stage_reached, stage_reached_by}
use Rattle.model.proofs.Allowances.{some_cheapest, none_within}
use Rattle.model.proofs.FirstLists.{first_from_is, list_above}
use Rattle.model.proofs.LimitsInWords.{quoted, budget_words, deadline_words, none_affordable, none_in_time}
use Rattle.model.proofs.Shares.{stage_bought, stage_affords, stage_shares, bought_assigns, bought_affords, shares_of}

-- for each time of the first there is one of the second that is no greater
abbrev Covers : (ℕ → Type 0) → (ℕ → Type 0) → Type 0
Covers S R = (t : ℕ) → S t → (u : ℕ) × R u × (u ≤ t)

-- times that cover each other have the same least
least_of_covers : (S R : ℕ → Type 0) → Covers S R → Covers R S → (o : Option ℕ) → IsLeastTime S o → IsLeastTime R o
least_of_covers S R f g None h = λ t r. let s = g t r in h s.0 s.1
least_of_covers S R f g (Some t) h =
    let r = f t h.0 in
    let s = g r.0 r.1 in
    let e : r.0 ≡ t = omega (arith, r.2, s.2, h.1 s.0 s.1) in
    (subst R e r.1, λ u k. let s' = g u k in le_trans (h.1 s'.0 s'.1) s'.2)

same_least : (S R : ℕ → Type 0) → Covers S R → Covers R S → (o : Option ℕ) → IsLeastTime S o ↔ IsLeastTime R o
same_least S R f g o = (least_of_covers S R f g o, least_of_covers R S g f o)

-- times that a test finds have a least
least_found : (S : ℕ → Type 0) (test : ℕ → Bool) → ((t : ℕ) → S t → test t ≡ true) → ((t : ℕ) → test t ≡ true → (u : ℕ) × S u × (u ≤ t)) →
    (t : ℕ) → S t → (u : ℕ) × IsLeastTime S (Some u) × (u ≤ t)
least_found S test to from t s =
    let r = first_from_is test 0 t t zero-le (omega arith) (to t s) in
    let k = from (first_from test 0 t) r.0 in
    let e : k.0 ≡ first_from test 0 t = omega (arith, k.2, r.2 k.0 zero-le (to k.0 k.1)) in
    (first_from test 0 t, (subst S e k.1, λ u i. r.2 u zero-le (to u i)), omega (arith, r.1))

module _ {C : Type 0} {K : Kind C} (L : Laws K) (T : Meaning C) (F : Ranged T) where
  -- the times of the assignments of a stage, and of all stages, that cost at most a limit
  abbrev StageMade : List Task → C → ℕ → Type 0
  StageMade tasks b t = (machines : List ℕ) × Paired (Quoted T) tasks machines × (K.at_most (stage_cost K T tasks machines) b ≡ true) × (stage_time T tasks machines ≡ t)

  abbrev Made : List (List Task) → C → ℕ → Type 0
  Made stages b t = (plan : List (List ℕ)) × IsAssignment T stages plan × (K.at_most (cost_of K T stages plan) b ≡ true) × (length_of T stages plan ≡ t)

  abbrev price_of : Option (Choice C) → Option C
  price_of o = option_map (λ (choice : Choice C). choice.cost) o

  -- a task's time
  task_least : (task : Task) (b : C) (t : ℕ) → TimeQuoted K T task b t → (u : ℕ) × TaskTime K T task b (Some u) × (u ≤ t)
  task_least task b = least_found (TimeQuoted K T task b) (λ a. affordable K (price_of (cheapest K T task a)) b) to from
    where
      to : (t : ℕ) → TimeQuoted K T task b t → affordable K (price_of (cheapest K T task t)) b ≡ true
      to t s = go (cheapest K T task t) refl
        where
          go : (o : Option (Choice C)) → cheapest K T task t ≡ o → affordable K (price_of o) b ≡ true
          go None e = let l = none_within L T F task t e s.0 s.1 s.2 in absurd (omega (arith, l, s.4))
          go (Some choice) e = let k = some_cheapest L T F task t choice e in L.transitive _ _ _ (k.least s.0 s.1 s.2 (omega (arith, s.4))) s.3

      from : (t : ℕ) → affordable K (price_of (cheapest K T task t)) b ≡ true → (u : ℕ) × TimeQuoted K T task b u × (u ≤ t)
      from t = go (cheapest K T task t) refl
        where
          go : (o : Option (Choice C)) → cheapest K T task t ≡ o → affordable K (price_of o) b ≡ true → (u : ℕ) × TimeQuoted K T task b u × (u ≤ t)
          go None e h = absurd (both_ways false refl h)
          go (Some choice) e h =
              let k = some_cheapest L T F task t choice e in
              (k.quote.minutes, (choice.machine, k.quote, k.quoted, subst (λ (x : C). K.at_most x b ≡ true) (sym k.price) h, refl), k.allowed)

  -- a stage is made within a limit and a number of minutes exactly where its cost within them is at most the limit
  made_affordable : (tasks : List Task) (b : C) (t a : ℕ) → StageMade tasks b t → t ≤ a → affordable K (cost_within K T tasks a) b ≡ true
  made_affordable tasks b t a m l =
      let r = stage_reached_by L T F tasks a (stage_cost K T tasks m.0) (m.0, m.1, omega (arith, m.3, l), refl) in
      subst (λ (o : Option C). affordable K o b ≡ true) (sym r.1) (L.transitive _ _ _ r.2 m.2)

  affordable_made : (tasks : List Task) (b : C) (a : ℕ) → affordable K (cost_within K T tasks a) b ≡ true → (t : ℕ) × StageMade tasks b t × (t ≤ a)
  affordable_made tasks b a = go (cost_within K T tasks a) refl
    where
      go : (o : Option C) → cost_within K T tasks a ≡ o → affordable K o b ≡ true → (t : ℕ) × StageMade tasks b t × (t ≤ a)
      go None e h = absurd (both_ways false refl h)
      go (Some c) e h =
          let r = stage_reached L T F tasks a c e in
          (stage_time T tasks r.0, (r.0, r.1, subst (λ (x : C). K.at_most x b ≡ true) r.3 h, refl), r.2)

  -- a stage's time
  made_least : (tasks : List Task) (b : C) (t : ℕ) → StageMade tasks b t → (u : ℕ) × IsLeastTime (StageMade tasks b) (Some u) × (u ≤ t)
  made_least tasks b = least_found (StageMade tasks b) (λ a. affordable K (cost_within K T tasks a) b) (λ t m. made_affordable tasks b t t m (le_refl t)) (affordable_made tasks b)

  made_defined : (tasks : List Task) (b : C) → (o : Option ℕ) × IsLeastTime (StageMade tasks b) o
  made_defined tasks b = elim (cases_Bool (affordable K (cost_within K T tasks (greatest_time T tasks)) b)) [
    | inl h ↦ (let m = affordable_made tasks b (greatest_time T tasks) h in let u = made_least tasks b m.0 m.1 in (Some u.0, u.1))
    | inr h ↦ (
      None,
      λ t m. both_ways _ h (made_affordable tasks b t (greatest_time T tasks) m (let l = stage_time_at_most T F tasks m.0 in omega (arith, l, m.3))),
    )
  ]

  -- a way to share out makes an assignment, and each assignment is no faster than some way
  abbrev TaskParts : List Task → List (Part C) → Type 0
  TaskParts tasks parts = Paired (λ task part. TaskTime K T task part.share (Some part.time)) tasks parts

  abbrev shares : List (Part C) → C
  shares parts = join_all K (map (λ part. part.share) parts)

  abbrev times : List (Part C) → List ℕ
  times parts = map (λ part. part.time) parts

  made_of_parts : (tasks : List Task) (parts : List (Part C)) → TaskParts tasks parts → StageMade tasks (shares parts) (greatest (times parts))
  made_of_parts [] [] p = ([], tt, at_most_refl L K.neutral, refl)
  made_of_parts [] (x ∷ xs) p = absurd p
  made_of_parts (w ∷ ws) [] p = absurd p
  made_of_parts (w ∷ ws) (x ∷ xs) p =
      let q = p.0.0 in
      let rest = made_of_parts ws xs p.1 in (
        q.0 ∷ rest.0,
        ((q.1, q.2), rest.1),
        join_mono L _ _ _ _ (subst (λ (y : C). K.at_most y x.share ≡ true) (sym (ap (charge_of K) q.2)) q.3) rest.2,
        ap₂ max (ap minutes_of q.2 ∙ q.4) rest.3,
      )

  parts_of_made : (tasks : List Task) (machines : List ℕ) → Paired (Quoted T) tasks machines → (parts : List (Part C)) × TaskParts tasks parts × (shares parts ≡ stage_cost K T tasks machines) × (greatest (times parts) ≤ stage_time T tasks machines)
  parts_of_made [] [] q = ([], tt, refl, zero-le)
  parts_of_made [] (m ∷ ms) q = absurd q
  parts_of_made (w ∷ ws) [] q = absurd q
  parts_of_made (w ∷ ws) (m ∷ ms) q =
      let k = q.0.0 in
      let one = task_least w k.cost k.minutes (m, k, q.0.1, at_most_refl L k.cost, refl) in
      let rest = parts_of_made ws ms q.1 in (
        record { share = k.cost; time = one.0 } ∷ rest.0,
        (one.1, rest.1),
        ap₂ K.join (sym (ap (charge_of K) q.0.1)) rest.2,
        rw q.0.1 (omega (arith, one.2, rest.3)),
      )

  stage_time_made : (tasks : List Task) (b : C) (o : Option ℕ) → StageTime K T tasks b o ↔ IsLeastTime (StageMade tasks b) o
  stage_time_made tasks b = same_least (TimeShared K (TaskTime K T) greatest tasks b) (StageMade tasks b)
      (λ t s. let m = made_of_parts tasks s.0 s.1 in (t, (m.0, m.1, L.transitive _ _ _ m.2 s.2, m.3 ∙ s.3), le_refl t))
      (λ t m. let s = parts_of_made tasks m.0 m.1 in (greatest (times s.0), (s.0, s.1, subst (λ (x : C). K.at_most x b ≡ true) (sym s.2) m.2, refl), omega (arith, s.3, m.3)))

  stage_defined : (tasks : List Task) (b : C) → (o : Option ℕ) × StageTime K T tasks b o
  stage_defined tasks b = let m = made_defined tasks b in (m.0, (stage_time_made tasks b m.0).1 m.1)

  -- the same of the stages
  abbrev StageParts : List (List Task) → List (Part C) → Type 0
  StageParts stages parts = Paired (λ tasks part. StageTime K T tasks part.share (Some part.time)) stages parts

  plan_of_parts : (stages : List (List Task)) (parts : List (Part C)) → StageParts stages parts → Made stages (shares parts) (total (times parts))
  plan_of_parts [] [] p = ([], tt, at_most_refl L K.neutral, refl)
  plan_of_parts [] (x ∷ xs) p = absurd p
  plan_of_parts (w ∷ ws) [] p = absurd p
  plan_of_parts (w ∷ ws) (x ∷ xs) p =
      let m = ((stage_time_made w x.share (Some x.time)).0 p.0).0 in
      let rest = plan_of_parts ws xs p.1 in
      (m.0 ∷ rest.0, (m.1, rest.1), join_mono L _ _ _ _ m.2 rest.2, omega (arith, m.3, rest.3))

  parts_of_plan : (stages : List (List Task)) (plan : List (List ℕ)) → IsAssignment T stages plan → (parts : List (Part C)) × StageParts stages parts × (shares parts ≡ cost_of K T stages plan) × (total (times parts) ≤ length_of T stages plan)
  parts_of_plan [] [] a = ([], tt, refl, zero-le)
  parts_of_plan [] (m ∷ ms) a = absurd a
  parts_of_plan (w ∷ ws) [] a = absurd a
  parts_of_plan (w ∷ ws) (m ∷ ms) a =
      let c = stage_cost K T w m in
      let one = made_least w c (stage_time T w m) (m, a.0, at_most_refl L c, refl) in
      let rest = parts_of_plan ws ms a.1 in (
        record { share = c; time = one.0 } ∷ rest.0,
        ((stage_time_made w c (Some one.0)).1 one.1, rest.1),
        ap (K.join c) rest.2,
        omega (arith, one.2, rest.3),
      )

  budget_time_made : (stages : List (List Task)) (b : C) (o : Option ℕ) → BudgetTime K T stages b o ↔ IsLeastTime (Made stages b) o
  budget_time_made stages b = same_least (TimeShared K (StageTime K T) total stages b) (Made stages b)
      (λ t s. let m = plan_of_parts stages s.0 s.1 in (t, (m.0, m.1, L.transitive _ _ _ m.2 s.2, m.3 ∙ s.3), le_refl t))
      (λ t m. let s = parts_of_plan stages m.0 m.1 in (total (times s.0), (s.0, s.1, subst (λ (x : C). K.at_most x b ≡ true) (sym s.2) m.2, refl), omega (arith, s.3, m.3)))

  -- all shares at once
  both : {P Q R : Type 0} → P ↔ Q → R ↔ Q → P ↔ R
  both f g = ((λ p. g.1 (f.0 p)), λ r. f.1 (g.0 r))

  stage_at_once : (tasks : List Task) (b : C) (o : Option ℕ) → StageTime K T tasks b o ↔ StageTimeAtOnce K T tasks b o
  stage_at_once tasks b o = both (stage_time_made tasks b o) (same_least _ (StageMade tasks b)
      (λ t s. (t, (bought_in_stage s.0, stage_bought L T tasks s.0 s.1, L.transitive _ _ _ (stage_affords L T tasks s.0 s.1) s.2, s.3), le_refl t))
      (λ t m. let s = stage_shares L T tasks m.0 m.1 in (t, (s.shares, s.bought, subst (λ (x : C). K.at_most x b ≡ true) (sym s.joins) m.2, ap (stage_time T tasks) s.machines ∙ m.3), le_refl t)) o)

  at_once : (stages : List (List Task)) (b : C) (o : Option ℕ) → BudgetTime K T stages b o ↔ BudgetTimeAtOnce K T stages b o
  at_once stages b o = both (budget_time_made stages b o) (same_least _ (Made stages b)
      (λ t s. (t, (machines_bought s.0, bought_assigns L T stages s.0 s.1, L.transitive _ _ _ (bought_affords L T stages s.0 s.1) s.2, s.3), le_refl t))
      (λ t m. let s = shares_of L T stages m.0 m.1 in (t, (s.shares, s.bought, subst (λ (x : C). K.at_most x b ≡ true) (sym s.joins) m.2, ap (length_of T stages) s.machines ∙ m.3), le_refl t)) o)

  -- the stage times of an assignment are a list that is no dearer
  list_of_plan : (stages : List (List Task)) (plan : List (List ℕ)) → IsAssignment T stages plan → (l : List ℕ) × (c : C) × (list_cost K T stages l ≡ Some c) × (K.at_most c (cost_of K T stages plan) ≡ true) × (total l ≡ length_of T stages plan)
  list_of_plan [] [] a = ([], K.neutral, refl, at_most_refl L K.neutral, refl)
  list_of_plan [] (m ∷ ms) a = absurd a
  list_of_plan (w ∷ ws) [] a = absurd a
  list_of_plan (w ∷ ws) (m ∷ ms) a =
      let one = stage_reached_by L T F w (stage_time T w m) (stage_cost K T w m) (m, a.0, le_refl _, refl) in
      let rest = list_of_plan ws ms a.1 in
      (stage_time T w m ∷ rest.0, K.join one.0 rest.1, rw (one.1, rest.2) refl, join_mono L _ _ _ _ one.2 rest.3, omega (arith, rest.4))

  -- an allowance list is no better than some assignment
  list_pair : (stages : List (List Task)) (l : List ℕ) (c : C) → list_cost K T stages l ≡ Some c → (q : Point C) × HasPair K T stages q × (q.length ≤ total l) × (K.at_most q.cost c ≡ true)
  list_pair stages l c e =
      let a = list_above L T F stages l c e in
      let r = reached L T F stages (total l) a.0 a.1 in
      (pair_of K T stages r.0, (r.0, r.1, refl), r.2, subst (λ (x : C). K.at_most x c ≡ true) r.3 a.2)

  by_allowances : (stages : List (List Task)) (b : C) (o : Option ℕ) → BudgetTime K T stages b o ↔ BudgetTimeByAllowances K T stages b o
  by_allowances stages b o = both (budget_time_made stages b o) (same_least _ (Made stages b)
      (λ t s. let q = list_pair stages s.0 s.1 s.2 in
      let same : pair_of K T stages q.1.0 ≡ q.0 = sym q.1.2 in
      (q.0.length, (q.1.0, q.1.1, subst (λ (p : Point C). K.at_most p.cost b ≡ true) (sym same) (L.transitive _ _ _ q.3 s.3), ap (λ (p : Point C). p.length) same), omega (arith, q.2, s.4)))
      (λ t m. let l = list_of_plan stages m.0 m.1 in (t, (l.0, l.1, l.2, L.transitive _ _ _ l.3 m.2, l.4 ∙ m.3), le_refl t)) o)

  late : (tasks : List Task) (a : ℕ) → greatest_time T tasks ≤ a → cost_within K T tasks a ≡ cost_within K T tasks (greatest_time T tasks)
  late tasks a past = is_least_unique L (StageCost L T tasks (greatest_time T tasks)) _ _
      (like L (StageCost L T tasks a) (StageCost L T tasks (greatest_time T tasks)) (λ c r. (r.0, r.1, stage_time_at_most T F tasks r.0, r.3)) (λ c r. (r.0, r.1, le_trans r.2 past, r.3)) _ (cost_within_least L T F tasks a))
      (cost_within_least L T F tasks (greatest_time T tasks))

  -- what is returned
  module _ (b : Book) (sound : Sound b) where
    -- where some assignment is within the limit, there is an answer
    budget_answered : (c : C) (p : Point C) → HasPair K T (standing b) p → K.at_most p.cost c ≡ true → (q : Point C) × (budget_result K T b c ≡ Ok q)
    budget_answered c p h w = go (within_budget K T (standing b) c) refl
      where
        go : (o : Option (Point C)) → within_budget K T (standing b) c ≡ o → (q : Point C) × (budget_result K T b c ≡ Ok q)
        go None e = let refused : budget_result K T b c ≡ Err (plain 10) = rw (quoted L T F b sound p h, e) refl in absurd (both_ways _ (((none_affordable L T F b c).1 refused).1 p h) w)
        go (Some q) e = (q, rw (quoted L T F b sound p h, e) refl)

    deadline_answered : (d : ℕ) (p : Point C) → HasPair K T (standing b) p → p.length ≤ d → (q : Point C) × (deadline_result K T b d ≡ Ok q)
    deadline_answered d p h w = go (within_deadline K T (standing b) d) refl
      where
        go : (o : Option (Point C)) → within_deadline K T (standing b) d ≡ o → (q : Point C) × (deadline_result K T b d ≡ Ok q)
        go None e = let refused : deadline_result K T b d ≡ Err (plain 10) = rw (quoted L T F b sound p h, e) refl in let long = ((none_in_time L T F b d).1 refused).1 p h in absurd (omega (arith, long))
        go (Some q) e = (q, rw (quoted L T F b sound p h, e) refl)

    budget_made : (c : C) (answer : Answer (Point C)) → budget_result K T b c ≡ answer → IsLeastTime (Made (standing b) c) (option_map (λ (p : Point C). p.length) (result_ok answer))
    budget_made c (Ok p) e =
        let h = (budget_words L T F b sound c p).1 e in
        let same : pair_of K T (standing b) h.has.0 ≡ p = sym h.has.2 in (
          (h.has.0, h.has.1, subst (λ (q : Point C). K.at_most q.cost c ≡ true) (sym same) h.within, ap (λ (q : Point C). q.length) same),
          λ u m. let s = h.shortest (pair_of K T (standing b) m.0) (m.0, m.1, refl) m.2 in omega (arith, s, m.3),
        )
    budget_made c (Err refused) e = λ u m. let q = budget_answered c (pair_of K T (standing b) m.0) (m.0, m.1, refl) m.2 in let f = q.1 in cc

    deadline_least : (d : ℕ) (answer : Answer (Point C)) → deadline_result K T b d ≡ answer → DeadlineCost K T (standing b) d (option_map (λ (p : Point C). p.cost) (result_ok answer))
    deadline_least d (Ok p) e = (
      (l.0, omega (arith, l.4, long, h.within), l.2 ∙ ap {B = Option C} Some (L.antisymmetric _ _ (subst (λ (x : C). K.at_most l.1 x ≡ true) pays l.3) (none_less l.1 (l.0, omega (arith, l.4, long, h.within), l.2)))),
      none_less,
    )
      where
        h : IsDeadline K T (standing b) d p
        h = (deadline_words L T F b sound d p).1 e

        same : pair_of K T (standing b) h.has.0 ≡ p
        same = sym h.has.2

        long : length_of T (standing b) h.has.0 ≡ p.length
        long = ap (λ (q : Point C). q.length) same

        pays : cost_of K T (standing b) h.has.0 ≡ p.cost
        pays = ap (λ (q : Point C). q.cost) same

        l : (l : List ℕ) × (c : C) × (list_cost K T (standing b) l ≡ Some c) × (K.at_most c (cost_of K T (standing b) h.has.0) ≡ true) × (total l ≡ length_of T (standing b) h.has.0)
        l = list_of_plan (standing b) h.has.0 h.has.1

        none_less : (c : C) → ((allowances : List ℕ) × (total allowances ≤ d) × (list_cost K T (standing b) allowances ≡ Some c)) → K.at_most p.cost c ≡ true
        none_less c r = let q = list_pair (standing b) r.0 c r.2 in L.transitive _ _ _ (h.cheapest q.0 q.1 (le_trans q.2 r.1)) q.3
    deadline_least d (Err refused) e = λ c r. let q = list_pair (standing b) r.0 c r.2 in let k = deadline_answered d q.0 q.1 (le_trans q.2 r.1) in let f = k.1 in cc

pub limits_are_shared_out : {C : Type 0} {K : Kind C} → Laws K → LimitsAreSharedOut K
limits_are_shared_out L T F calls = record {
  budget = λ limit. (budget_time_made L T F (standing (book_after calls)) limit _).1 (budget_made L T F (book_after calls) (book_sound calls) limit _ refl);
  deadline = λ limit. deadline_least L T F (book_after calls) (book_sound calls) limit _ refl;
  stage_defined = stage_defined L T F;
  stage_at_once = stage_at_once L T F;
  at_once = at_once L T F;
  by_allowances = by_allowances L T F;
  late = late L T F;
}
