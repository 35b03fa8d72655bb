-- Plans: they go by the first list that counts, and are assignments of the length and cost that were answered
use Rattle.std.proofs.Common.{◌≡◌, ℕ, zero, suc, ◌+◌, ◌<◌, ◌≤◌, Bool, true, false, cond, ◌↔◌, List, [], ◌∷◌, map, length, get_or, Some, None, Ok, Option, sym, refl, ap, ◌∙◌, subst, ap₂, zero-le, le_trans, le_antisymm, arith}
use Rattle.std.specs.List.{range_with_len, slice_get}
use Rattle.std.specs.Option.{option_map}
use Rattle.std.proofs.lemmas.List.FromFn.{length-map-range_with_len, get_or-map-range_with_len}
use Rattle.std.proofs.lemmas.List.{length-map}
use Rattle.costs.specs.Kind.{Kind, Laws}
use Rattle.tariffs.specs.Meaning.{Meaning, Ranged}
use Rattle.tariffs.specs.declared.quote.Quote.{Quote}
use Rattle.sheets.specs.Book.{Book}
use Rattle.sheets.specs.History.{Sound, book_after}
use Rattle.sheets.specs.Tasks.{SoundTask, stands_in}
use Rattle.sheets.specs.declared.call.Call.{Call}
use Rattle.sheets.specs.declared.task.Task.{Task}
use Rattle.sheets.proofs.Histories.{book_sound}
use Rattle.model.specs.declared.choice.Choice.{Choice}
use Rattle.model.specs.declared.point.Point.{Point}
use Rattle.model.specs.Lists.{In, here, later, Paired, total}
use Rattle.model.specs.Assignment.{stage_tasks, standing, Quoted, IsAssignment, charge_of, stage_time, stage_cost, length_of, cost_of, pair_of, pairs, HasPair}
use Rattle.model.specs.Allowance.{cheapest, cost_within, IsCheapest}
use Rattle.model.specs.Limit.{budget_result, deadline_result, IsBudget, IsDeadline}
use Rattle.model.specs.Plan.{struck_byte, machine_or, list_cost, IsFirst, allowances_for, byte_under, plan, stage_machines, machines_of, IsPlan, PlansGoByTheFirstList}
use Rattle.model.proofs.Assignments.{in_pairs, of_pairs, in_stage, of_stage}
use Rattle.model.proofs.Fronts.{Best, same_point, no_worse_from, no_longer, no_dearer}
use Rattle.model.proofs.LeastCosts.{at_most_refl}
use Rattle.model.proofs.Allowances.{some_cheapest}
use Rattle.model.proofs.Rows.{best_drops}
use Rattle.model.proofs.FirstLists.{joined_parts, first_list_first}
use Rattle.model.proofs.LimitsInWords.{budget_words, deadline_words}
use Rattle.model.proofs.Unquoted.{all_in}
use Rattle.model.proofs.OnePlan.{one_plan}

-- look-ups
nth_map : {A B : Type 0} (f : A → B) (xs : List A) (n : ℕ) (x : A) → slice_get xs n ≡ Some x → slice_get (map f xs) n ≡ Some (f x)
nth_map f [] n x e = cc
nth_map f (y ∷ ys) zero x e = let s : y ≡ x = cc in ap (λ z. Some (f z)) s
nth_map f (y ∷ ys) (suc n) x e = nth_map f ys n x e

nth_in : {A : Type 0} (xs : List A) (n : ℕ) (x : A) → slice_get xs n ≡ Some x → In x xs
nth_in [] n x e = cc
nth_in (y ∷ ys) zero x e = here (cc)
nth_in (y ∷ ys) (suc n) x e = later (nth_in ys n x e)

map_same : {A B : Type 0} (f g : A → B) (xs : List A) → ((x : A) → In x xs → f x ≡ g x) → map f xs ≡ map g xs
map_same f g [] h = refl
map_same f g (x ∷ xs) h = ap₂ (λ y ys. y ∷ ys) (h x (here refl)) (map_same f g xs (λ y i. h y (later i)))

-- the bytes of a stage's standing tasks
stage_machines_map : (f : Task → ℕ) (tasks : List Task) (stage : ℕ) → stage_machines tasks (map f tasks) stage ≡ map f (stage_tasks tasks stage)
stage_machines_map f [] stage = refl
stage_machines_map f (task ∷ tasks) stage =
    elim (stands_in stage task) as (λ b. cond b (f task ∷ stage_machines tasks (map f tasks) stage) (stage_machines tasks (map f tasks) stage) ≡ map f (cond b (task ∷ stage_tasks tasks stage) (stage_tasks tasks stage)))
    [ true ↦ ap (λ (ms : List ℕ). f task ∷ ms) (stage_machines_map f tasks stage) | false ↦ stage_machines_map f tasks stage ]

module _ {C : Type 0} {K : Kind C} (L : Laws K) (T : Meaning C) where
  -- the machines chosen within an allowance, and within a list
  stage_choices : List Task → ℕ → List ℕ
  stage_choices tasks a = map (λ task. machine_or struck_byte (cheapest K T task a)) tasks

  abbrev choices : List (List Task) → List ℕ → List (List ℕ)
  choices [] l = []
  choices (tasks ∷ stages) [] = []
  choices (tasks ∷ stages) (a ∷ l) = stage_choices tasks a ∷ choices stages l

  list_length : (stages : List (List Task)) (l : List ℕ) (c : C) → list_cost K T stages l ≡ Some c → length l ≡ length stages
  list_length [] [] c e = refl
  list_length [] (a ∷ l) c e = cc
  list_length (tasks ∷ stages) [] c e = cc
  list_length (tasks ∷ stages) (a ∷ l) c e = let r = joined_parts L (cost_within K T tasks a) (list_cost K T stages l) c e in ap suc (list_length stages l r.1 r.3)

  chosen_cost : (task : Task) (a : ℕ) (x : C) → option_map (λ (choice : Choice C). choice.cost) (cheapest K T task a) ≡ Some x → (choice : Choice C) × (cheapest K T task a ≡ Some choice) × (choice.cost ≡ x)
  chosen_cost task a x e = go (cheapest K T task a) e
    where
      go : (o : Option (Choice C)) → option_map (λ (choice : Choice C). choice.cost) o ≡ Some x → (choice : Choice C) × (o ≡ Some choice) × (choice.cost ≡ x)
      go None h = cc
      go (Some choice) h = (choice, refl, (cc))

  -- a task of a stage that has a cost within the allowance has a choice
  task_choice : (tasks : List Task) (a : ℕ) (x : C) → cost_within K T tasks a ≡ Some x → (task : Task) → In task tasks → (choice : Choice C) × (cheapest K T task a ≡ Some choice)
  task_choice [] a x e task i = elim i [ ]
  task_choice (w ∷ ws) a x e task (here s) =
      let r = joined_parts L (option_map (λ (choice : Choice C). choice.cost) (cheapest K T w a)) (cost_within K T ws a) x e in
      let c = chosen_cost w a r.0 r.2 in
      (c.0, ap (λ (t : Task). cheapest K T t a) s ∙ c.1)
  task_choice (w ∷ ws) a x e task (later i) =
      let r = joined_parts L (option_map (λ (choice : Choice C). choice.cost) (cheapest K T w a)) (cost_within K T ws a) x e in
      task_choice ws a r.1 r.3 task i

  stage_cost_some : (stages : List (List Task)) (l : List ℕ) (c : C) → list_cost K T stages l ≡ Some c → (j : ℕ) → j < length stages → (x : C) × (cost_within K T (get_or stages j []) (get_or l j 0) ≡ Some x)
  stage_cost_some [] l c e j h = absurd (omega arith)
  stage_cost_some (tasks ∷ stages) [] c e j h = cc
  stage_cost_some (tasks ∷ stages) (a ∷ l) c e zero h = let r = joined_parts L (cost_within K T tasks a) (list_cost K T stages l) c e in (r.0, r.2)
  stage_cost_some (tasks ∷ stages) (a ∷ l) c e (suc j) h = let r = joined_parts L (cost_within K T tasks a) (list_cost K T stages l) c e in stage_cost_some stages l r.1 r.3 j (omega arith)

  module _ (F : Ranged T) where
    abbrev StageAssigned : List Task → ℕ → C → List ℕ → Type 0
    StageAssigned tasks a x machines = Paired (Quoted T) tasks machines × (stage_time T tasks machines ≤ a) × (stage_cost K T tasks machines ≡ x)

    stage_assigned : (tasks : List Task) (a : ℕ) (x : C) → cost_within K T tasks a ≡ Some x → StageAssigned tasks a x (stage_choices tasks a)
    unfolding stage_choices
    stage_assigned [] a x e = (tt, zero-le, (cc))
    stage_assigned (w ∷ ws) a x e =
        let r = joined_parts L (option_map (λ (choice : Choice C). choice.cost) (cheapest K T w a)) (cost_within K T ws a) x e in
        let c = chosen_cost w a r.0 r.2 in
        let k = some_cheapest L T F w a c.0 c.1 in
        let rest = stage_assigned ws a r.1 r.3 in
        subst (λ (o : Option (Choice C)). StageAssigned (w ∷ ws) a x (machine_or struck_byte o ∷ stage_choices ws a)) (sym c.1) (
          ((k.quote, k.quoted), rest.0),
          rw k.quoted (let m = k.allowed in omega (arith, rest.1)),
          ap (λ (o : Option (Quote C)). K.join (charge_of K o) (stage_cost K T ws (stage_choices ws a))) k.quoted
              ∙ ap₂ K.join (k.price ∙ c.2) rest.2
              ∙ sym r.4,
        )

    assigned : (stages : List (List Task)) (l : List ℕ) (c : C) → list_cost K T stages l ≡ Some c → IsAssignment T stages (choices stages l) × (length_of T stages (choices stages l) ≤ total l) × (cost_of K T stages (choices stages l) ≡ c)
    assigned [] l c e = (tt, zero-le, go l e)
      where
        go : (l : List ℕ) → list_cost K T [] l ≡ Some c → K.neutral ≡ c
        go [] h = cc
        go (a ∷ l') h = cc
    assigned (tasks ∷ stages) [] c e = cc
    assigned (tasks ∷ stages) (a ∷ l) c e =
        let r = joined_parts L (cost_within K T tasks a) (list_cost K T stages l) c e in
        let s = stage_assigned tasks a r.0 r.2 in
        let rest = assigned stages l r.1 r.3 in
        ((s.0, rest.0), omega (arith, s.1, rest.1), ap₂ K.join s.2 rest.2 ∙ sym r.4)

  -- the bytes of a plan, stage by stage, are the machines chosen within its list
  byte_standing : (l : List ℕ) (task : Task) → task.struck ≡ false → byte_under K T l task ≡ machine_or struck_byte (cheapest K T task (get_or l task.stage 0))
  byte_standing l task s = ap (λ (b : Bool). cond b struck_byte (machine_or struck_byte (cheapest K T task (get_or l task.stage 0)))) s

  machines_from : (tasks : List Task) (l : List ℕ) (i n : ℕ) (rest : List ℕ) → length rest ≡ n → ((m : ℕ) → m < n → get_or l (i + m) 0 ≡ get_or rest m 0)
      → map (stage_machines tasks (map (byte_under K T l) tasks)) (range_with_len i n) ≡ choices (map (stage_tasks tasks) (range_with_len i n)) rest
  unfolding stage_choices
  machines_from tasks l i zero rest h k = refl
  machines_from tasks l i (suc n) [] h k = absurd (omega arith)
  machines_from tasks l i (suc n) (a ∷ rest) h k = ap₂ (λ (ms : List ℕ) (mss : List (List ℕ)). ms ∷ mss)
      (stage_machines_map (byte_under K T l) tasks i ∙ map_same _ _ (stage_tasks tasks i) each)
      (machines_from tasks l (i + 1) n rest (omega arith) (λ m g. let e : i + 1 + m ≡ i + suc m = omega arith in ap (λ (j : ℕ). get_or l j 0) e ∙ k (suc m) (omega arith)))
    where
      each : (task : Task) → In task (stage_tasks tasks i) → byte_under K T l task ≡ machine_or struck_byte (cheapest K T task a)
      each task t =
          let s = of_stage tasks i t in
          let e : task.stage ≡ i + 0 = omega (arith, s.2) in
          let g : get_or l task.stage 0 ≡ a = ap (λ (j : ℕ). get_or l j 0) e ∙ k 0 (omega arith) in
          byte_standing l task s.1 ∙ ap (λ (b : ℕ). machine_or struck_byte (cheapest K T task b)) g

  module _ (F : Ranged T) (book : Book) (sound : Sound book) where
    stage_count : length (standing book) ≡ book.stages
    stage_count = length-map-range_with_len (stage_tasks book.tasks) 0 book.stages

    -- the plan of a pair that none beats
    pub plan_is : (p : Point C) → HasPair K T (standing book) p → Best K (pairs K T (standing book)) p → IsPlan K T book p (plan K T book p)
    plan_is p has best = record {
      allowances = l;
      first = first;
      as_long = length-map book.tasks (byte_under K T l);
      struck_tasks = λ n task e s. nth_map (byte_under K T l) book.tasks n task e ∙ ap (λ (b : Bool). Some (cond b struck_byte (machine_or struck_byte (cheapest K T task (get_or l task.stage 0))))) s;
      standing_tasks = stands;
      assigns = subst (IsAssignment T (standing book)) (sym same) whole.0;
      pays = best (pair_of K T (standing book) made) (in_pairs K T (standing book) F (pair_of K T (standing book) made) (made, subst (IsAssignment T (standing book)) (sym same) whole.0, refl))
          (no_worse_from L (pair_of K T (standing book) made) p
          (subst (λ (x : List (List ℕ)). length_of T (standing book) x ≤ p.length) (sym same) (let a = first.0.0 in omega (arith, whole.1)))
          (subst (λ (x : List (List ℕ)). K.at_most (cost_of K T (standing book) x) p.cost ≡ true) (sym same) (subst (λ (x : C). K.at_most x p.cost ≡ true) (sym whole.2) (at_most_refl L p.cost))));
    }
      where
        l : List ℕ
        l = allowances_for K T book p

        first : IsFirst K T (standing book) p l
        first = let d = best_drops L T F (standing book) p (in_pairs K T (standing book) F p has) best in first_list_first L T F (standing book) p d.0 d.1

        made : List (List ℕ)
        made = machines_of book (plan K T book p)

        whole : IsAssignment T (standing book) (choices (standing book) l) × (length_of T (standing book) (choices (standing book) l) ≤ total l) × (cost_of K T (standing book) (choices (standing book) l) ≡ p.cost)
        whole = assigned F (standing book) l p.cost first.0.1

        long : length l ≡ book.stages
        long = list_length (standing book) l p.cost first.0.1 ∙ stage_count

        same : made ≡ choices (standing book) l
        same = machines_from book.tasks l 0 book.stages l long (λ m g. let e : 0 + m ≡ m = omega arith in ap (λ (j : ℕ). get_or l j 0) e)

        stands : (n : ℕ) (task : Task) → slice_get book.tasks n ≡ Some task → task.struck ≡ false → (choice : Choice C) × (slice_get (plan K T book p) n ≡ Some choice.machine) × IsCheapest K T task (get_or l task.stage 0) choice
        stands n task e s =
            let i = nth_in book.tasks n task e in
            let j = all_in (SoundTask book.stages) book.tasks sound.tasks_sound i in
            let c = stage_cost_some (standing book) l p.cost first.0.1 task.stage (omega (arith, stage_count, j.0)) in
            let g : get_or (standing book) task.stage [] ≡ stage_tasks book.tasks task.stage = get_or-map-range_with_len (stage_tasks book.tasks) 0 book.stages task.stage task.stage [] j.0 (omega arith) in
            let k = task_choice (stage_tasks book.tasks task.stage) (get_or l task.stage 0) c.0 (ap (λ (tasks : List Task). cost_within K T tasks (get_or l task.stage 0)) (sym g) ∙ c.1) task (in_stage i s) in (
              k.0,
              nth_map (byte_under K T l) book.tasks n task e ∙ ap Some (byte_standing l task s ∙ ap (machine_or struck_byte) k.1),
              some_cheapest L T F task (get_or l task.stage 0) k.0 k.1,
            )

  module _ (F : Ranged T) (stages : List (List Task)) where
    pub budget_best : (c : C) (p : Point C) → IsBudget K T stages c p → Best K (pairs K T stages) p
    budget_best c p h q i n =
        let hq = of_pairs K T stages q i in
        let l : q.length ≡ p.length = le_antisymm (no_longer L q p n) (h.shortest q hq (L.transitive _ _ _ (no_dearer L q p n) h.within)) in
        same_point q p l (L.antisymmetric _ _ (no_dearer L q p n) (h.cheapest q hq l))

    pub deadline_best : (d : ℕ) (p : Point C) → IsDeadline K T stages d p → Best K (pairs K T stages) p
    deadline_best d p h q i n =
        let hq = of_pairs K T stages q i in
        let e : q.cost ≡ p.cost = L.antisymmetric _ _ (no_dearer L q p n) (h.cheapest q hq (le_trans (no_longer L q p n) h.within)) in
        same_point q p (le_antisymm (no_longer L q p n) (h.shortest q hq e)) e

-- the plan of a result is computed
record Computed {C : Type 0} (K : Kind C) (T : Meaning C) (book : Book) : Type 0 where
  pub budgets : (limit : C) (p : Point C) → budget_result K T book limit ≡ Ok p → IsPlan K T book p (plan K T book p)
  pub deadlines : (limit : ℕ) (p : Point C) → deadline_result K T book limit ≡ Ok p → IsPlan K T book p (plan K T book p)

module _ {C : Type 0} {K : Kind C} (L : Laws K) where
  plans_computed : (T : Meaning C) → Ranged T → (calls : List Call) → Computed K T (book_after calls)
  plans_computed T F calls =
      let b = book_after calls in
      record {
        budgets = λ c p e. let h = (budget_words L T F b (book_sound calls) c p).1 e in plan_is L T F b (book_sound calls) p h.has (budget_best L T F (standing b) c p h);
        deadlines = λ d p e. let h = (deadline_words L T F b (book_sound calls) d p).1 e in plan_is L T F b (book_sound calls) p h.has (deadline_best L T F (standing b) d p h);
      }

  pub plans_go_by_the_first_list : PlansGoByTheFirstList K
  plans_go_by_the_first_list T F calls =
      let computed = plans_computed T F calls in
      record {
        budgets = λ c p e. one p (computed.budgets c p e);
        deadlines = λ d p e. one p (computed.deadlines d p e);
      }
    where
      one : (p : Point C) → IsPlan K T (book_after calls) p (plan K T (book_after calls) p) → (bytes : List ℕ) → IsPlan K T (book_after calls) p bytes ↔ (bytes ≡ plan K T (book_after calls) p)
      one p h bytes = (
        (λ k. one_plan L T (book_after calls) p bytes (plan K T (book_after calls) p) k h),
        (λ e. subst (IsPlan K T (book_after calls) p) (sym e) h),
      )
