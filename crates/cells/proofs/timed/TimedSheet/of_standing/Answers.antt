use Rattle.std.proofs.Common.{◌≡◌, ℕ, ◌+◌, ◌<◌, true, false, [], drop, get_or, set, length, ◌∙◌, ap, List, sym, inl, inr, arith}
use Rattle.std.proofs.lemmas.List.{get_or-set_same, get_or-set_other, get_or_default, get_or-drop, drop-set-lt, drop-drop}
use Rattle.std.proofs.lemmas.Bool.{cases_eq}
use Rattle.sheets.specs.Book.{book}
use Rattle.sheets.specs.Tasks.{no_task}
use Rattle.sheets.specs.declared.task.Task.{Task}
use Rattle.model.specs.Assignment.{quote_of, minutes_of}
use Rattle.cells.specs.Minutes.{task_at}
use Rattle.cells.specs.declared.timed.MinutesTable.{MinutesTable}
use Rattle.cells.proofs.timed.TimedSheet.of_standing.Goals as goal
use Rattle.cells.proofs.timed.TimedSheet.of_standing.Goals.{then-not-task, else-not-task}

pub loop-number-preserved : goal.loop-number-preserved
loop-number-preserved g c =
    let T = g.T.Tariff.meaning c.args.priced.now.tariff.now in
    let tasks = (book c.args.priced.now.sheet.now).tasks in
    let n = c.loop-number.number in
    let rows = c.loop-number.table.rows in
    let old = c.loop-number.invariant in
    let inside : c.loop-number.number < length c.loop-number.table.rows = omega (arith, c.loop-number.table.whole, c.tasks-task-items.ensures.few) in
    let task = get_or_default c.tasks-task-items.result.now n no_task no_task c.loop-number-test.true ∙ ap (λ (tasks : List Task). task_at tasks n) c.tasks-task-items.ensures.value in
    elim c.if-not-task.branch [
      | then-not-task w ↦
          let row = w.ask_minutes.result in
          let is : c.if-not-task.table.rows ≡ set rows n row = ap (λ (t : MinutesTable). t.rows) w.table-is in
          let stands : (task_at tasks n).struck ≡ false = ap (λ (t : Task). t.struck) (sym task) ∙ w.if-not-task.true in
          record {
            held = λ number machine l standing. ap (λ (rs : List (List ℕ)). get_or (get_or rs number []) machine 0) is ∙ elim (cases_eq number n) [
              | inl e ↦ ap (λ (i : ℕ). get_or (get_or (set rows n row) i []) machine 0) e
                  ∙ ap (λ (r : List ℕ). get_or r machine 0) (get_or-set_same rows n row [] inside)
                  ∙ w.ask_minutes.ensures machine
                  ∙ ap (λ (task : Task). minutes_of (quote_of T task machine)) (task ∙ ap (task_at tasks) (sym e))
              | inr k ↦ ap (λ (r : List ℕ). get_or r machine 0) (get_or-set_other rows n number row [] k) ∙ old.held number machine (omega arith) standing
            ];
            struck = λ number l struck. ap (λ (rs : List (List ℕ)). get_or rs number []) is ∙ elim (cases_eq number n) [
              | inl e ↦ let both : true ≡ false = sym struck ∙ ap (λ (i : ℕ). (task_at tasks i).struck) e ∙ stands in absurd (cc)
              | inr k ↦ get_or-set_other rows n number row [] k ∙ old.struck number (omega arith) struck
            ];
            behind = ap (drop (n + 1)) is ∙ drop-set-lt (n + 1) rows n row (omega arith) ∙ sym (drop-drop 1 n rows) ∙ ap (λ (rs : List (List ℕ)). drop 1 rs) old.behind ∙ drop-drop 1 n _;
          }
      | else-not-task w ↦
          let is : c.if-not-task.table.rows ≡ rows = ap (λ (t : MinutesTable). t.rows) w.table-is in
          let out : (task_at tasks n).struck ≡ true = ap (λ (t : Task). t.struck) (sym task) ∙ w.if-not-task.false in
          record {
            held = λ number machine l standing. ap (λ (rs : List (List ℕ)). get_or (get_or rs number []) machine 0) is ∙ elim (cases_eq number n) [
              | inl e ↦ let both : true ≡ false = sym out ∙ ap (λ (i : ℕ). (task_at tasks i).struck) (sym e) ∙ standing in absurd (cc)
              | inr k ↦ old.held number machine (omega arith) standing
            ];
            struck = λ number l struck. ap (λ (rs : List (List ℕ)). get_or rs number []) is ∙ elim (cases_eq number n) [
              | inl e ↦
                  let here : number ≡ n + 0 = omega (arith, e) in
                  ap (λ (i : ℕ). get_or rows i []) here ∙ sym (get_or-drop n rows 0 [])
                  ∙ ap (λ (rs : List (List ℕ)). get_or rs 0 []) old.behind
                  ∙ get_or-drop n c.args.table.now.rows 0 [] ∙ sym (ap (λ (i : ℕ). get_or c.args.table.now.rows i []) here)
              | inr k ↦ old.struck number (omega arith) struck
            ];
            behind = ap (drop (n + 1)) is ∙ sym (drop-drop 1 n rows) ∙ ap (λ (rs : List (List ℕ)). drop 1 rs) old.behind ∙ drop-drop 1 n _;
          }
    ]

pub invariant_of-result : goal.invariant_of-result
invariant_of-result g c = record { timed = λ number machine l. c.loop-number.invariant.held number machine (omega (arith, ap length c.tasks-task-items.ensures.value)) }

pub returns-clause-struck : goal.returns-clause-struck
returns-clause-struck g c = λ number l. c.loop-number.invariant.struck number (omega (arith, ap length c.tasks-task-items.ensures.value))

pub returns-clause-behind : goal.returns-clause-behind
returns-clause-behind g c =
    let e : c.loop-number.number ≡ length (book c.args.priced.now.sheet.now).tasks = omega (arith, ap length c.tasks-task-items.ensures.value) in
    ap (λ (n : ℕ). drop n c.loop-number.table.rows) (sym e) ∙ c.loop-number.invariant.behind ∙ ap (λ (n : ℕ). drop n c.args.table.now.rows) e
