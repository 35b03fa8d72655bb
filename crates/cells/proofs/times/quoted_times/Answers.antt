use Rattle.std.proofs.Common.{Bool, false, not, ◌&&◌, ◌||◌, eqb, List, length, get_or, take, replicate, sym, ap, ◌∙◌, rules, tests}
use mathlib.Core.Bool.{or_assoc}
use Rattle.std.specs.List.{range_with_len}
use Rattle.std.proofs.lemmas.List.{length-replicate, length-set}
use Rattle.std.proofs.lemmas.Iterator.{YieldsList-from_slice}
use Rattle.std.proofs.lemmas.Iterator.Search.{any_from_yields_List}
use Rattle.sheets.specs.Tasks.{no_task, stands_in}
use Rattle.sheets.specs.declared.task.Task.{Task}
use Rattle.model.specs.Lists.{any, is_empty}
use Rattle.model.specs.Assignment.{stage_tasks}
use Rattle.model.specs.Allowance.{takes}
use Rattle.cells.specs.Minutes.{task_at}
use Rattle.cells.proofs.Marks.{quoted_at, quoted_more, first_mark, none_stands, stage_tasks_past}
use Rattle.cells.proofs.times.quoted_times.Goals as goal
use Rattle.cells.proofs.times.quoted_times.Goals.{then-stands_in, else-stands_in}

pub loop-number-init : goal.loop-number-init
loop-number-init g c =
    let tasks = c.tasks-tasks.result.now in
    let empty = ap not (any_from_yields_List (stands_in c.args.stage) c.any.new.self _ c.any.result c.any.ensures.ran (YieldsList-from_slice tasks c.iter.ensures.rest) (λ x b q k. search (rules, tests))) ∙ none_stands tasks c.args.stage in (
      length-set (replicate 1441 false) 0 (not c.any.result) ∙ length-replicate 1441 false,
      λ m l. first_mark (not c.any.result) 1441 m l ∙ ap (λ (b : Bool). (b && eqb m 0) || false) empty,
    )

pub loop-number-preserved : goal.loop-number-preserved
loop-number-preserved g c =
    let T = g.T.Tariff.meaning c.args.timed.now.priced.tariff.now in
    let tasks = c.tasks-tasks.result.now in
    let i = c.loop-number.number in
    elim c.if-stands_in.branch [
      | then-stands_in w ↦
          let stands = sym w.if-stands_in.ensures in (
            ap length w.times-is ∙ w.mark.array_long,
            λ m l. ap (λ (marks : List Bool). get_or marks m false) w.times-is
                ∙ w.mark.ensures m l
                ∙ ap (λ (all : List Task). get_or c.loop-number.times m false || any (takes T (task_at all i) m) (range_with_len 0 T.count)) (sym c.tasks-tasks.ensures.value)
                ∙ ap (λ (b : Bool). b || any (takes T (get_or tasks i no_task) m) (range_with_len 0 T.count)) (c.loop-number.invariant.1 m l)
                ∙ or_assoc (is_empty (stage_tasks tasks c.args.stage) && eqb m 0) (quoted_at T (stage_tasks (take i tasks) c.args.stage) m) (any (takes T (get_or tasks i no_task) m) (range_with_len 0 T.count))
                ∙ ap (λ (b : Bool). (is_empty (stage_tasks tasks c.args.stage) && eqb m 0) || b) (sym (quoted_more T tasks c.args.stage i no_task c.loop-number-test.true stands m)),
          )
      | else-stands_in w ↦
          let past = stage_tasks_past tasks c.args.stage i no_task c.loop-number-test.true (sym w.if-stands_in.ensures) in (
            ap length w.times-is ∙ c.loop-number.invariant.0,
            λ m l. ap (λ (marks : List Bool). get_or marks m false) w.times-is ∙ c.loop-number.invariant.1 m l ∙ ap (λ (some : List Task). (is_empty (stage_tasks tasks c.args.stage) && eqb m 0) || quoted_at T some m) (sym past),
          )
    ]
