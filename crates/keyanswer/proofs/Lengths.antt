-- How long the text of an answer is
use Rattle.std.proofs.Common.{◌≡◌, ℕ, suc, ◌+◌, ◌*◌, ◌^◌, ◌<◌, ◌≤◌, Bool, true, false, cond, ltb, List, [], ◌∷◌, ◌++◌, map, length, slice_index, decimal, Some, None, Ok, Option, sym, refl, ap, ◌∙◌, subst, arith, length-append}
use Rattle.std.specs.List.{flat_map}
use Rattle.std.proofs.lemmas.Bool.{ltb-false}
use Rattle.std.proofs.lemmas.Fmt.{length-decimal-le}
use Rattle.std.proofs.lemmas.Option.{slice_get_within}
use Rattle.refusals.specs.Answer.{refused_if}
use Rattle.costs.specs.Cents.{cents, cents_kind, cents_text}
use Rattle.costs.specs.KindLaws.{cents_laws}
use Rattle.costs.specs.declared.cents.Cents.{Cents}
use Rattle.tariffs.specs.declared.card.RateCard.{RateCard}
use Rattle.tariffs.specs.Card.{lines_of, lines_meaning}
use Rattle.tariffs.specs.Meaning.{Meaning, Ranged}
use Rattle.tariffs.specs.Ranges.{card_ranged}
use Rattle.sheets.specs.declared.sheet.Sheet.{Sheet}
use Rattle.sheets.specs.declared.task.Task.{Task}
use Rattle.sheets.specs.Book.{Book, book}
use Rattle.texts.proofs.Fitting.{bare_length, carrying_length}
use Rattle.model.specs.declared.choice.Choice.{Choice}
use Rattle.model.specs.declared.point.Point.{Point}
use Rattle.model.specs.Lists.{In}
use Rattle.model.specs.Allowance.{cheapest}
use Rattle.model.specs.Assignment.{standing, pairs, HasPair}
use Rattle.model.specs.Cell.{span, width, cells_needed}
use Rattle.model.specs.Front.{front}
use Rattle.model.specs.Limit.{lowest_unquoted, or_none_within, unless_unquoted, within_budget, within_deadline}
use Rattle.model.specs.Plan.{machine_or, allowances_for, byte_under, plan}
use Rattle.model.proofs.Allowances.{some_cheapest}
use Rattle.model.proofs.Assignments.{below_count, of_pairs}
use Rattle.model.proofs.Fronts.{of_front}
use Rattle.model.proofs.Spans.{length_span}
use Rattle.model.proofs.Unquoted.{lowest_is}
use Rattle.planner.proofs.Words.{limits_of}
use Rattle.keylines.specs.declared.machine.Assigned.{Assigned}
use Rattle.keylines.specs.Machine.{assigned, machine_line}
use Rattle.keylines.specs.Plan.{assigned_from, assigned_tasks, result_text}
use Rattle.keylines.specs.Point.{point_line}
use Rattle.keyinput.specs.declared.question.Question.{Question}
use Rattle.keyinput.specs.declared.question.Question.TheVariants.{Front, Budget, Deadline}
use Rattle.keyanswer.specs.Answer.{key_cells, key_points, text_bytes, text_of, limit_lines, answer_lines}
use Rattle.keyanswer.proofs.Texts.{few_tasks}

-- lines that have at most so many bytes each
flat_length : {A : Type 0} (text : A → List ℕ) (most : ℕ) (xs : List A) → ((x : A) → In x xs → length (text x) ≤ most) → length (flat_map text xs) ≤ length xs * most
flat_length text most [] each = omega arith
flat_length text most (x ∷ xs) each =
    let whole = length-append (text x) (flat_map text xs) in
    let first = each x (In.here refl) in
    let rest = flat_length text most xs (λ y i. each y (In.later i)) in
    omega arith

point_length : (p : Point Cents) → p.length < 10000 → length (point_line cents_text p) ≤ 22
point_length p short =
    let minutes = length-decimal-le 4 p.length (omega arith) (omega arith) (omega arith) in
    let cost = length-decimal-le 16 p.cost.value (omega arith) (let w = p.cost.within in omega arith) (let w = p.cost.within in omega arith) in
    let end = length-append (cents_text p.cost) (10 ∷ []) in
    let whole = length-append (decimal p.length) (32 ∷ (cents_text p.cost ++ (10 ∷ []))) in
    omega arith

machine_length : (a : Assigned) → a.task < 1000 → a.machine < 1000 → length (machine_line a) ≤ 8
machine_length a known numbered =
    let task = length-decimal-le 3 a.task (omega arith) (omega arith) (omega arith) in
    let machine = length-decimal-le 3 a.machine (omega arith) (omega arith) (omega arith) in
    let end = length-append (decimal a.machine) (10 ∷ []) in
    let whole = length-append (decimal a.task) (32 ∷ (decimal a.machine ++ (10 ∷ []))) in
    omega arith

assigned_length : (byte : Task → ℕ) → ((task : Task) → byte task < 1000) → (number : ℕ) (tasks : List Task) → number + length tasks ≤ 1000 → length (flat_map machine_line (assigned_from number tasks (map byte tasks))) ≤ length tasks * 8
assigned_length byte small number [] few = omega arith
assigned_length byte small number (task ∷ tasks) few = by task.struck (assigned_length byte small (number + 1) tasks (omega arith))
  where
    by : (struck : Bool) → length (flat_map machine_line (assigned_from (number + 1) tasks (map byte tasks))) ≤ length tasks * 8
        → length (flat_map machine_line (cond struck (assigned_from (number + 1) tasks (map byte tasks)) (assigned number (byte task) ∷ assigned_from (number + 1) tasks (map byte tasks)))) ≤ suc (length tasks) * 8
    by true rest = omega arith
    by false rest =
        let line = machine_length (assigned number (byte task)) (omega arith) (small task) in
        let whole = length-append (machine_line (assigned number (byte task))) (flat_map machine_line (assigned_from (number + 1) tasks (map byte tasks))) in
        omega arith

module _ (T : Meaning Cents) where
  byte_small : Ranged T → (allowances : List ℕ) (task : Task) → byte_under cents_kind T allowances task < 1000
  byte_small ranged allowances task = by task.struck (cheapest cents_kind T task allowance) refl
    where
      allowance : ℕ
      allowance = slice_index allowances task.stage

      by : (struck : Bool) (choice : Option (Choice Cents)) → cheapest cents_kind T task allowance ≡ choice → cond struck 255 (machine_or 255 choice) < 1000
      by true choice e = omega arith
      by false None e = omega arith
      by false (Some choice) e =
          let chosen = some_cheapest cents_laws T ranged task allowance choice e in
          let listed = below_count T ranged task choice.machine chosen.quote chosen.quoted in
          let few = ranged.few in
          omega arith

  module _ (ranged : Ranged T) (sheet : Sheet) where
    abbrev b : Book
    b = book sheet

    -- with cells enough for the question, lengths have at most four digits
    short_pair : ltb key_cells (cells_needed T b) ≡ false → (p : Point Cents) → HasPair cents_kind T (standing b) p → p.length < 10000
    short_pair enough p has =
        let cells : cells_needed T b ≤ 4096 = ltb-false key_cells (cells_needed T b) enough in
        let short : p.length ≤ span T (standing b) = subst (λ (q : Point Cents). q.length ≤ span T (standing b)) (sym has.2) (length_span T ranged (standing b) has.0) in
        let row : (b.stages + 1) * width T b ≡ b.stages * width T b + width T b = omega arith in
        omega arith

    front_length : (few short : Bool) → ltb key_cells (cells_needed T b) ≡ few → ltb key_points (length (front cents_kind T b)) ≡ short
        → length (text_of (refused_if few 7 (refused_if short 8 (Ok (flat_map (point_line cents_text) (front cents_kind T b)))))) ≤ text_bytes
    front_length true short f s = omega (arith, bare_length 7 (omega arith))
    front_length false true f s = omega (arith, bare_length 8 (omega arith))
    front_length false false f s =
        let fits : length (front cents_kind T b) ≤ 4096 = ltb-false key_points (length (front cents_kind T b)) s in
        let lines = flat_length (point_line cents_text) 22 (front cents_kind T b) (λ p i. point_length p (short_pair f p (of_pairs cents_kind T (standing b) p (of_front cents_laws (pairs cents_kind T (standing b)) p i).0))) in
        omega arith

    result_length : (p : Point Cents) → p.length < 10000 → length (result_text cents_text p (assigned_tasks b (plan cents_kind T b p))) ≤ text_bytes
    result_length p short =
        let first = point_length p short in
        let tasks = few_tasks sheet in
        let others = assigned_length (byte_under cents_kind T (allowances_for cents_kind T b p)) (byte_small ranged (allowances_for cents_kind T b p)) 0 b.tasks (omega arith) in
        let whole = length-append (point_line cents_text p) (flat_map machine_line (assigned_tasks b (plan cents_kind T b p))) in
        omega arith

    lowest_known : (task : ℕ) → lowest_unquoted T b ≡ Some task → task < 2 ^ 64
    lowest_known task e =
        let lowest = (lowest_is T ranged b task).1 e in
        let known = few_tasks sheet in
        let within = slice_get_within b.tasks task lowest.0.0 lowest.0.1 in
        omega arith

    limit_length : (few : Bool) → ltb key_cells (cells_needed T b) ≡ few → (lowest : Option ℕ) (found : Option (Point Cents)) → ((task : ℕ) → lowest ≡ Some task → task < 2 ^ 64) → ((p : Point Cents) → found ≡ Some p → lowest ≡ None → HasPair cents_kind T (standing b) p)
        → length (text_of (refused_if few 7 (limit_lines T b (unless_unquoted lowest (or_none_within found))))) ≤ text_bytes
    limit_length true f lowest found known has = omega (arith, bare_length 7 (omega arith))
    limit_length false f (Some task) found known has = omega (arith, carrying_length 9 task (omega arith) (known task refl))
    limit_length false f None None known has = omega (arith, bare_length 10 (omega arith))
    limit_length false f None (Some p) known has = result_length p (short_pair f p (has p refl refl))

-- every text fits in the bytes of a key
pub answer_length : (card : RateCard) (sheet : Sheet) (question : Question) → length (text_of (answer_lines (lines_meaning (lines_of card)) (book sheet) question)) ≤ text_bytes
answer_length card sheet Front =
    let T = lines_meaning (lines_of card) in
    front_length T (card_ranged card) sheet _ _ refl refl
answer_length card sheet (Budget limit) =
    let T = lines_meaning (lines_of card) in
    let ranged : Ranged T = card_ranged card in
    let words = limits_of cents_laws T ranged sheet in
    limit_length T ranged sheet _ refl (lowest_unquoted T (book sheet)) (within_budget cents_kind T (standing (book sheet)) (cents limit)) (lowest_known T ranged sheet)
    (λ p e quoted. ((words.budgets (cents limit) p).1 (ap (λ (x : Option ℕ). unless_unquoted x (or_none_within (within_budget cents_kind T (standing (book sheet)) (cents limit)))) quoted ∙ ap or_none_within e)).has)
answer_length card sheet (Deadline limit) =
    let T = lines_meaning (lines_of card) in
    let ranged : Ranged T = card_ranged card in
    let words = limits_of cents_laws T ranged sheet in
    limit_length T ranged sheet _ refl (lowest_unquoted T (book sheet)) (within_deadline cents_kind T (standing (book sheet)) limit) (lowest_known T ranged sheet)
    (λ p e quoted. ((words.deadlines limit p).1 (ap (λ (x : Option ℕ). unless_unquoted x (or_none_within (within_deadline cents_kind T (standing (book sheet)) limit))) quoted ∙ ap or_none_within e)).has)
