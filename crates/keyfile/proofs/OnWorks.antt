-- The works of a stage from one task to the next, and of a sheet from one stage to the next
use Rattle.std.proofs.Common.{◌≡◌, ℕ, suc, ◌+◌, ◌-◌, ◌<◌, true, false, List, ◌∷◌, ◌++◌, map, length, get_or, drop, sym, ap, ◌∙◌, arith, length-append}
use Rattle.std.specs.List.{range_with_len, flat_map, sum_by}
use Rattle.std.proofs.lemmas.List.Concat.{length-flat_map}
use Rattle.std.proofs.lemmas.List.Folds.{flat_map-map}
use Rattle.std.proofs.lemmas.List.FromFn.{length-map-range_with_len}
use Rattle.std.proofs.lemmas.List.{at_drop_more}
use Rattle.std.proofs.lemmas.Bool.{cond-true, cond-false}
use Rattle.numbers.specs.Number.{spelled}
use Rattle.texts.proofs.Pieces.{begun_more, begun_same, begun_short}
use Rattle.sheets.specs.Book.{Book}
use Rattle.sheets.specs.declared.task.Task.{Task}
use Rattle.sheets.specs.Tasks.{stands_in}
use Rattle.keyfile.specs.Works.{stage_works, works_by_stage, spelled_stage, spelled_sheet}

module _ (tasks : List Task) (stage i : ℕ) where
  module _ (d : Task) (h : i < length tasks) where
    pub works_standing : stands_in stage (get_or tasks i d) ≡ true → stage_works (drop i tasks) stage ≡ (get_or tasks i d).work ∷ stage_works (drop (i + 1) tasks) stage
    works_standing e =
        at_drop_more (λ (ts : List Task). stage_works ts stage) tasks i d h
        ∙ ap (map (λ (task : Task). task.work)) (cond-true (stands_in stage (get_or tasks i d)) _ _ e)

    pub works_passed : stands_in stage (get_or tasks i d) ≡ false → stage_works (drop i tasks) stage ≡ stage_works (drop (i + 1) tasks) stage
    works_passed e =
        at_drop_more (λ (ts : List Task). stage_works ts stage) tasks i d h
        ∙ ap (map (λ (task : Task). task.work)) (cond-false (stands_in stage (get_or tasks i d)) _ _ e)

-- a text of works, put one task after the other
pub ruleset works_steps = (begun_more, begun_same, begun_short, works_standing, works_passed)

-- how many bytes pieces have, each of them made from something
pub pieces_len : {A B : Type 0} (bytes : B → List ℕ) (part : A → B) (parts : List A) → length (flat_map bytes (map part parts)) ≡ sum_by (λ x. length (bytes (part x))) parts
pieces_len bytes part parts = ap length (flat_map-map bytes part parts) ∙ length-flat_map (λ x. bytes (part x)) parts

-- the bytes of the stages from one on
abbrev pub stages_left : List Task → ℕ → ℕ → List ℕ
stages_left tasks stage stages = flat_map spelled_stage (map (stage_works tasks) (range_with_len stage (stages - stage)))

pub stages_more : (tasks : List Task) (stage stages : ℕ) → stage < stages → stages_left tasks stage stages ≡ spelled_stage (stage_works tasks stage) ++ stages_left tasks (stage + 1) stages
stages_more tasks stage stages h =
    let e : stages - stage ≡ suc (stages - (stage + 1)) = omega arith in
    ap (λ n. flat_map spelled_stage (map (stage_works tasks) (range_with_len stage n))) e

pub stages_none : (tasks : List Task) (stages : ℕ) → stages_left tasks 0 stages ≡ flat_map spelled_stage (map (stage_works tasks) (range_with_len 0 stages))
stages_none tasks stages =
    let e : stages - 0 ≡ stages = omega arith in
    ap (λ n. flat_map spelled_stage (map (stage_works tasks) (range_with_len 0 n))) e

-- the file of a book from its stages and tasks
pub sheet_spelled : (book : Book) (stages : ℕ) (tasks : List Task) → stages ≡ book.stages → tasks ≡ book.tasks → spelled stages ++ flat_map spelled_stage (map (stage_works tasks) (range_with_len 0 stages)) ≡ spelled_sheet (works_by_stage book)
sheet_spelled book stages tasks e f =
    ap (λ n. spelled n ++ flat_map spelled_stage (map (stage_works tasks) (range_with_len 0 n))) e
    ∙ ap (λ (ts : List Task). spelled book.stages ++ flat_map spelled_stage (map (stage_works ts) (range_with_len 0 book.stages))) f
    ∙ ap (λ n. spelled n ++ flat_map spelled_stage (works_by_stage book)) (sym (length-map-range_with_len (stage_works book.tasks) 0 book.stages))

pub length_sheet_spelled : (book : Book) (stages : ℕ) (tasks : List Task) → stages ≡ book.stages → tasks ≡ book.tasks → length (spelled stages) + length (flat_map spelled_stage (map (stage_works tasks) (range_with_len 0 stages))) ≡ length (spelled_sheet (works_by_stage book))
length_sheet_spelled book stages tasks e f =
    sym (length-append (spelled stages) (flat_map spelled_stage (map (stage_works tasks) (range_with_len 0 stages))))
    ∙ ap length (sheet_spelled book stages tasks e f)
