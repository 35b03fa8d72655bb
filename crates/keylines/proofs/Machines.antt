-- The machines of a plan, task by task
use Rattle.std.proofs.Common.{◌≡◌, ℕ, ◌+◌, ◌<◌, ◌≤◌, true, false, cond, List, [], ◌∷◌, ◌++◌, length, get_or, take, drop, set, refl, sym, ap, ◌∙◌, append_assoc, arith}
use Rattle.std.specs.List.{zip, enumerate_from}
use Rattle.std.proofs.lemmas.List.{at_drop_more, take_more_set}
use Rattle.sheets.specs.declared.task.Task.{Task}
use Rattle.keylines.specs.declared.machine.Assigned.{Assigned}
use Rattle.keylines.specs.Machine.{assigned}
use Rattle.keylines.specs.Plan.{assigned_from}

-- a task by its number, and its byte of the plan
abbrev pub Numbered : Type 0
Numbered = ℕ × (Task × ℕ)

abbrev pub numbered : List Task → List ℕ → List Numbered
numbered tasks plan = enumerate_from 0 (zip tasks plan)

abbrev pub machines_in : List Numbered → List Assigned
machines_in [] = []
machines_in (n ∷ ns) = cond n.1.0.struck (machines_in ns) (assigned n.0 n.1.1 ∷ machines_in ns)

pub machines_numbered : (number : ℕ) (tasks : List Task) (plan : List ℕ) → machines_in (enumerate_from number (zip tasks plan)) ≡ assigned_from number tasks plan
machines_numbered number [] plan = refl
machines_numbered number (task ∷ tasks) [] = refl
machines_numbered number (task ∷ tasks) (byte ∷ plan) =
    ap (λ list. cond task.struck list (assigned number byte ∷ list)) (machines_numbered (number + 1) tasks plan)

pub numbered_few : (number : ℕ) (tasks : List Task) (plan : List ℕ) → length (enumerate_from number (zip tasks plan)) ≤ length tasks
numbered_few number [] plan = omega arith
numbered_few number (task ∷ tasks) [] = omega arith
numbered_few number (task ∷ tasks) (byte ∷ plan) = let few = numbered_few (number + 1) tasks plan in omega arith

module _ (all : List Numbered) (i : ℕ) (n : Numbered) (h : i < length all) (is : n ≡ get_or all i n) (list : List Assigned) (count : ℕ) where
  next : machines_in (drop i all) ≡ cond n.1.0.struck (machines_in (drop (i + 1) all)) (assigned n.0 n.1.1 ∷ machines_in (drop (i + 1) all))
  next = at_drop_more machines_in all i n h ∙ ap (λ m. machines_in (m ∷ drop (i + 1) all)) (sym is)

  pub list_kept : n.1.0.struck ≡ true → take count list ++ machines_in (drop (i + 1) all) ≡ take count list ++ machines_in (drop i all)
  list_kept e =
      ap (λ l. take count list ++ l) (sym (next ∙ ap (λ b. cond b (machines_in (drop (i + 1) all)) (assigned n.0 n.1.1 ∷ machines_in (drop (i + 1) all))) e))

  pub list_more : n.1.0.struck ≡ false → count < length list → take (count + 1) (set list count (assigned n.0 n.1.1)) ++ machines_in (drop (i + 1) all) ≡ take count list ++ machines_in (drop i all)
  list_more e room =
      ap (λ l. l ++ machines_in (drop (i + 1) all)) (take_more_set list count (assigned n.0 n.1.1) room)
      ∙ append_assoc (take count list) (assigned n.0 n.1.1 ∷ []) (machines_in (drop (i + 1) all))
      ∙ ap (λ l. take count list ++ l) (sym (next ∙ ap (λ b. cond b (machines_in (drop (i + 1) all)) (assigned n.0 n.1.1 ∷ machines_in (drop (i + 1) all))) e))

-- bytes behind those of the tasks give no machines
pub machines_written : (number : ℕ) (tasks : List Task) (plan rest : List ℕ) → length plan ≡ length tasks → assigned_from number tasks (plan ++ rest) ≡ assigned_from number tasks plan
machines_written number [] plan rest e = refl
machines_written number (task ∷ tasks) [] rest e = absurd (omega arith)
machines_written number (task ∷ tasks) (byte ∷ plan) rest e =
    ap (λ list. cond task.struck list (assigned number byte ∷ list)) (machines_written (number + 1) tasks plan rest (omega arith))
