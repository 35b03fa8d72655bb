-- The tasks of works given stage by stage, and the works of tasks
use Rattle.std.proofs.Common.{◌≡◌, ℕ, zero, suc, ◌+◌, ◌<◌, ◌≤◌, true, false, not, eqb, List, [], ◌∷◌, ◌++◌, map, length, filter, sym, refl, ap, ◌∙◌, ⊎_elim, append_assoc, arith}
use Rattle.std.specs.List.{range_with_len, AllByRecursion}
use Rattle.std.proofs.lemmas.List.Elements.{filter-append}
use Rattle.std.proofs.ByRecursion.{All-append, All-weaker, all_kept_by, All-map}
use Rattle.std.proofs.lemmas.List.{map-append, append-nil}
use Rattle.std.proofs.lemmas.Bool.{cases_Bool, cond-true, cond-false, and_right, and_parts, eqb-true, eq-eqb, ne_eqb}
use Rattle.sheets.specs.Tasks.{new_task, stands_in, SoundTask}
use Rattle.sheets.specs.declared.task.Task.{Task}
use Rattle.work.specs.Work.{max_work}
use Rattle.keyfile.specs.Works.{stage_works}

-- the tasks of works, the first of them in this stage
abbrev pub tasks_from : ℕ → List (List ℕ) → List Task
tasks_from stage [] = []
tasks_from stage (works ∷ stages) = map (new_task stage) works ++ tasks_from (stage + 1) stages

works_append : (tasks others : List Task) (stage : ℕ) → stage_works (tasks ++ others) stage ≡ stage_works tasks stage ++ stage_works others stage
works_append tasks others stage =
    ap (map (λ (task : Task). task.work)) (filter-append (stands_in stage) tasks others) ∙ map-append (λ (task : Task). task.work) (filter (stands_in stage) tasks) (filter (stands_in stage) others)

works_elsewhere : (tasks : List Task) (stage : ℕ) → AllByRecursion (λ task. task.stage ≡ stage → ⊥) tasks → stage_works tasks stage ≡ []
works_elsewhere [] stage all = refl
works_elsewhere (task ∷ tasks) stage all =
    ap (map (λ (task : Task). task.work)) (cond-false (stands_in stage task) _ _ (and_right _ _ (ne_eqb task.stage stage all.0)))
    ∙ works_elsewhere tasks stage all.1

works_here : (stage : ℕ) (works : List ℕ) → stage_works (map (new_task stage) works) stage ≡ works
works_here stage [] = refl
works_here stage (work ∷ works) =
    ap (map (λ (task : Task). task.work)) (cond-true (stands_in stage (new_task stage work)) _ _ (eq-eqb stage stage refl))
    ∙ ap (λ l. work ∷ l) (works_here stage works)

all_new : (P : Task → Type 0) (stage : ℕ) (works : List ℕ) → ((work : ℕ) → P (new_task stage work)) → AllByRecursion P (map (new_task stage) works)
all_new P stage [] h = tt
all_new P stage (work ∷ works) h = (h work, all_new P stage works h)

tasks_at_least : (low stage : ℕ) (stages : List (List ℕ)) → low ≤ stage → AllByRecursion (λ task. low ≤ task.stage) (tasks_from stage stages)
tasks_at_least low stage [] h = tt
tasks_at_least low stage (works ∷ stages) h =
    All-append (λ task. low ≤ task.stage) (map (new_task stage) works) (tasks_from (stage + 1) stages) (all_new (λ task. low ≤ task.stage) stage works (λ work. h)) (tasks_at_least low (stage + 1) stages (omega arith))

-- the works of tasks that were made of works are those works
pub grouped : (tasks : List Task) (stage : ℕ) (stages : List (List ℕ)) → AllByRecursion (λ task. task.stage < stage) tasks → map (stage_works (tasks ++ tasks_from stage stages)) (range_with_len stage (length stages)) ≡ stages
grouped tasks stage [] below = refl
grouped tasks stage (works ∷ stages) below =
    ap (λ l. l ∷ map (stage_works (tasks ++ (map (new_task stage) works ++ tasks_from (stage + 1) stages))) (range_with_len (stage + 1) (length stages))) here
    ∙ ap (λ (l : List (List ℕ)). works ∷ l) (ap (λ (ts : List Task). map (stage_works ts) (range_with_len (stage + 1) (length stages))) (sym (append_assoc tasks (map (new_task stage) works) (tasks_from (stage + 1) stages))) ∙ grouped (tasks ++ map (new_task stage) works) (stage + 1) stages below_next)
  where
    here : stage_works (tasks ++ (map (new_task stage) works ++ tasks_from (stage + 1) stages)) stage ≡ works
    here =
        works_append tasks (map (new_task stage) works ++ tasks_from (stage + 1) stages) stage
        ∙ ap (λ l. l ++ stage_works (map (new_task stage) works ++ tasks_from (stage + 1) stages) stage) (works_elsewhere tasks stage (All-weaker (λ task. task.stage < stage) (λ task. task.stage ≡ stage → ⊥) (λ task h e. omega arith) tasks below))
        ∙ works_append (map (new_task stage) works) (tasks_from (stage + 1) stages) stage
        ∙ ap (λ l. stage_works (map (new_task stage) works) stage ++ l) (works_elsewhere (tasks_from (stage + 1) stages) stage (All-weaker (λ task. stage + 1 ≤ task.stage) (λ task. task.stage ≡ stage → ⊥) (λ task h e. omega arith) (tasks_from (stage + 1) stages) (tasks_at_least (stage + 1) (stage + 1) stages (omega arith))))
        ∙ append-nil (stage_works (map (new_task stage) works) stage)
        ∙ works_here stage works

    below_next : AllByRecursion (λ task. task.stage < stage + 1) (tasks ++ map (new_task stage) works)
    below_next =
        All-append (λ task. task.stage < stage + 1) tasks (map (new_task stage) works) (All-weaker (λ task. task.stage < stage) (λ task. task.stage < stage + 1) (λ task h. omega arith) tasks below) (all_new (λ task. task.stage < stage + 1) stage works (λ work. omega arith))

-- how many works there are in all
abbrev pub total : List (List ℕ) → ℕ
total [] = 0
total (works ∷ stages) = length works + total stages

module _ (task : Task) (tasks : List Task) where
  counted_elsewhere : (stage count : ℕ) → task.stage < stage → total (map (stage_works (task ∷ tasks)) (range_with_len stage count)) ≡ total (map (stage_works tasks) (range_with_len stage count))
  counted_elsewhere stage zero h = refl
  counted_elsewhere stage (suc count) h =
      let here = ap (λ (ts : List Task). length (map (λ (t : Task). t.work) ts)) (cond-false (stands_in stage task) (task ∷ filter (stands_in stage) tasks) (filter (stands_in stage) tasks) (and_right _ _ (ne_eqb task.stage stage (λ e. omega arith)))) in
      let later = counted_elsewhere (stage + 1) count (omega arith) in
      omega arith

  counted_once : (stage count : ℕ) → total (map (stage_works (task ∷ tasks)) (range_with_len stage count)) ≤ suc (total (map (stage_works tasks) (range_with_len stage count)))
  counted_once stage zero = omega arith
  counted_once stage (suc count) =
      ⊎_elim
      (λ (stands : stands_in stage task ≡ true).
      let here = ap (λ (ts : List Task). length (map (λ (t : Task). t.work) ts)) (cond-true (stands_in stage task) (task ∷ filter (stands_in stage) tasks) (filter (stands_in stage) tasks) stands) in
      let at : task.stage ≡ stage = eqb-true task.stage stage (and_parts (not task.struck) (eqb task.stage stage) stands).1 in
      let later = counted_elsewhere (stage + 1) count (omega arith) in
      omega arith)
      (λ (passed : stands_in stage task ≡ false).
      let here = ap (λ (ts : List Task). length (map (λ (t : Task). t.work) ts)) (cond-false (stands_in stage task) (task ∷ filter (stands_in stage) tasks) (filter (stands_in stage) tasks) passed) in
      let later = counted_once (stage + 1) count in
      omega arith)
      (cases_Bool (stands_in stage task))

counted_none : (stage count : ℕ) → total (map (stage_works []) (range_with_len stage count)) ≡ 0
counted_none stage zero = refl
counted_none stage (suc count) = let later = counted_none (stage + 1) count in omega arith

-- no task has its work in two stages
pub counted : (tasks : List Task) (stage count : ℕ) → total (map (stage_works tasks) (range_with_len stage count)) ≤ length tasks
counted [] stage count = omega (arith, counted_none stage count)
counted (task ∷ tasks) stage count = let once = counted_once task tasks stage count in let rest = counted tasks stage count in omega arith

-- works in range
abbrev pub InRange : ℕ → Type 0
InRange work = (1 ≤ work) × (work ≤ max_work)

pub works_in_range : (limit : ℕ) (tasks : List Task) → AllByRecursion (SoundTask limit) tasks → (stage count : ℕ) → AllByRecursion (AllByRecursion InRange) (map (stage_works tasks) (range_with_len stage count))
works_in_range limit tasks sound stage zero = tt
works_in_range limit tasks sound stage (suc count) = (
  All-map InRange (λ (task : Task). task.work) (filter (stands_in stage) tasks) (All-weaker (SoundTask limit) (λ task. InRange task.work) (λ task s. (s.1, s.2)) _ (all_kept_by (stands_in stage) (SoundTask limit) tasks sound)),
  works_in_range limit tasks sound (stage + 1) count,
)
