use Rattle.std.proofs.Common.{◌≡◌, Bool, false, ◌&&◌, get_or, sym, ap, ◌∙◌, ⊎_elim, arith}
use Rattle.std.proofs.lemmas.Bool.{cases_lt, lt-ltb}
use Rattle.sheets.specs.Book.{book}
use Rattle.model.specs.Assignment.{stage_tasks}
use Rattle.model.specs.Allowance.{is_time}
use Rattle.model.proofs.CostSteps.{cost_kept, no_time_past}
use Rattle.planner.proofs.plan.next_cost.Goals as goal

pub returns : goal.returns
returns g c =
    let T = g.T.Tariff.meaning c.args.timed.now.priced.tariff.now in
    let F = g.T.Tariff.ranged c.args.timed.now.priced.tariff.now in
    let tasks = stage_tasks (book c.args.timed.now.priced.sheet.now).tasks c.args.stage in
    let a = c.args.allowance in
    let unmarked = sym c.if-is_marked.ensures in
    let untimed : is_time T tasks a ≡ false =
    ⊎_elim
    (λ within. sym (c.requires.marked a within) ∙ sym (ap (λ (b : Bool). b && get_or c.args.times.now a false) (lt-ltb a 1441 within)) ∙ unmarked)
    (λ past. no_time_past g.T.Cost.Cost.kind T F tasks a (omega arith))
    (cases_lt a 1441) in
    c.requires.until ∙ cost_kept g.T.Cost.Cost.kind T F tasks a untimed
