-- Costs joined stage by stage are the costs joined by task number
use Rattle.std.proofs.Common.{◌≡◌, ℕ, zero, suc, ◌+◌, ◌<◌, ◌≤◌, Bool, true, false, cond, ◌⊎◌, List, [], ◌∷◌, map, length, sym, refl, ap, ◌∙◌, ap₂, inl, inr, zero-le, arith}
use Rattle.std.specs.List.{range_with_len, AllByRecursion}
use Rattle.std.proofs.lemmas.Bool.{eq-eqb, ne_eqb, cases_eq}
use Rattle.costs.specs.Kind.{Kind, Laws}
use Rattle.tariffs.specs.Meaning.{Meaning}
use Rattle.sheets.specs.History.{book_after}
use Rattle.sheets.specs.Tasks.{SoundTask, stands_in}
use Rattle.sheets.specs.declared.task.Task.{Task}
use Rattle.sheets.proofs.Histories.{book_sound}
use Rattle.model.specs.Assignment.{stage_tasks, quote_of, charge_of, stage_cost, cost_of}
use Rattle.model.specs.Plan.{stage_machines, joined_by_number, StagesJoinAllCosts}

module _ {C : Type 0} {K : Kind C} (L : Laws K) (T : Meaning C) where
  -- the cost of n stages from i on
  abbrev Joined : List Task → List ℕ → ℕ → ℕ → C
  Joined tasks bytes i n = cost_of K T (map (stage_tasks tasks) (range_with_len i n)) (map (stage_machines tasks bytes) (range_with_len i n))

  abbrev stage_joined : List Task → List ℕ → ℕ → C
  stage_joined tasks bytes i = stage_cost K T (stage_tasks tasks i) (stage_machines tasks bytes i)

  abbrev quoted_cost : Task → ℕ → C
  quoted_cost task byte = charge_of K (quote_of T task byte)

  none_joined : (i n : ℕ) → Joined [] [] i n ≡ K.neutral
  none_joined i zero = refl
  none_joined i (suc n) = ap (K.join K.neutral) (none_joined (i + 1) n) ∙ L.identity K.neutral

  -- a task more in a stage
  stage_more : (task : Task) (byte : ℕ) (tasks : List Task) (bytes : List ℕ) (i : ℕ) (b : Bool) → stands_in i task ≡ b →
      stage_joined (task ∷ tasks) (byte ∷ bytes) i ≡ cond b (K.join (quoted_cost task byte) (stage_joined tasks bytes i)) (stage_joined tasks bytes i)
  stage_more task byte tasks bytes i true e = rw e refl
  stage_more task byte tasks bytes i false e = rw e refl

  struck_out_of : (task : Task) (i : ℕ) → task.struck ≡ true → stands_in i task ≡ false
  struck_out_of task i s = rw s refl

  stands_elsewhere : (task : Task) (i : ℕ) → task.struck ≡ false → (task.stage ≡ i → ⊥) → stands_in i task ≡ false
  stands_elsewhere task i s h = rw (s, ne_eqb task.stage i h) refl

  stands_here : (task : Task) (i : ℕ) → task.struck ≡ false → task.stage ≡ i → stands_in i task ≡ true
  stands_here task i s e = rw (s, eq-eqb task.stage i e) refl

  -- a task that stands in none of the stages adds nothing
  outside : (task : Task) (byte : ℕ) (tasks : List Task) (bytes : List ℕ) (i n : ℕ) → ((j : ℕ) → i ≤ j → j < i + n → stands_in j task ≡ false) → Joined (task ∷ tasks) (byte ∷ bytes) i n ≡ Joined tasks bytes i n
  outside task byte tasks bytes i zero h = refl
  outside task byte tasks bytes i (suc n) h = ap₂ K.join
      (stage_more task byte tasks bytes i false (h i (omega arith) (omega arith)))
      (outside task byte tasks bytes (i + 1) n (λ j l m. h j (omega arith) (omega arith)))

  -- one that stands in a stage adds its quoted cost
  swapped : (h x r : C) → K.join h (K.join x r) ≡ K.join x (K.join h r)
  swapped h x r = sym (L.associative h x r) ∙ ap (λ (c : C). K.join c r) (L.commutative h x) ∙ L.associative x h r

  inside : (task : Task) (byte : ℕ) (tasks : List Task) (bytes : List ℕ) (i n : ℕ) → task.struck ≡ false → i ≤ task.stage → task.stage < i + n → Joined (task ∷ tasks) (byte ∷ bytes) i n ≡ K.join (quoted_cost task byte) (Joined tasks bytes i n)
  inside task byte tasks bytes i zero s l m = absurd (omega arith)
  inside task byte tasks bytes i (suc n) s l m = go (λ g. inside task byte tasks bytes (i + 1) n s g (omega arith)) (cases_eq task.stage i)
    where
      go : (i + 1 ≤ task.stage → Joined (task ∷ tasks) (byte ∷ bytes) (i + 1) n ≡ K.join (quoted_cost task byte) (Joined tasks bytes (i + 1) n)) → (task.stage ≡ i) ⊎ (task.stage ≡ i → ⊥) →
          Joined (task ∷ tasks) (byte ∷ bytes) i (suc n) ≡ K.join (quoted_cost task byte) (Joined tasks bytes i (suc n))
      go ih (inl e) =
          ap₂ K.join
          (stage_more task byte tasks bytes i true (stands_here task i s e))
          (outside task byte tasks bytes (i + 1) n (λ j g k. stands_elsewhere task j s (λ f. omega arith)))
          ∙ L.associative (quoted_cost task byte) (stage_joined tasks bytes i) (Joined tasks bytes (i + 1) n)
      go ih (inr h) =
          let later : i + 1 ≤ task.stage = omega arith in
          ap₂ K.join (stage_more task byte tasks bytes i false (stands_elsewhere task i s h)) (ih later)
          ∙ swapped (stage_joined tasks bytes i) (quoted_cost task byte) (Joined tasks bytes (i + 1) n)

  joined_all : (stages : ℕ) (tasks : List Task) (bytes : List ℕ) → length bytes ≡ length tasks → AllByRecursion (SoundTask stages) tasks → Joined tasks bytes 0 stages ≡ joined_by_number K T tasks bytes
  joined_all stages [] [] e a = none_joined 0 stages
  joined_all stages [] (byte ∷ bytes) e a = absurd (omega arith)
  joined_all stages (task ∷ tasks) [] e a = absurd (omega arith)
  joined_all stages (task ∷ tasks) (byte ∷ bytes) e a = go task.struck refl (joined_all stages tasks bytes (omega arith) a.1)
    where
      go : (b : Bool) → task.struck ≡ b → Joined tasks bytes 0 stages ≡ joined_by_number K T tasks bytes → Joined (task ∷ tasks) (byte ∷ bytes) 0 stages ≡ cond b (joined_by_number K T tasks bytes) (K.join (quoted_cost task byte) (joined_by_number K T tasks bytes))
      go true s ih = outside task byte tasks bytes 0 stages (λ j _ _. struck_out_of task j s) ∙ ih
      go false s ih = inside task byte tasks bytes 0 stages s zero-le (omega (arith, a.0.0)) ∙ ap (K.join (quoted_cost task byte)) ih

pub stages_join_all_costs : {C : Type 0} {K : Kind C} → Laws K → StagesJoinAllCosts K
stages_join_all_costs L T calls bytes e = joined_all L T (book_after calls).stages (book_after calls).tasks bytes e (book_sound calls).tasks_sound
