use Rattle.std.proofs.Common.{Bool, not, ◌&&◌, sym, ap, ◌∙◌}
use Rattle.sheets.specs.Book.{book}
use Rattle.sheets.specs.declared.task.Task.{Task}
use Rattle.model.specs.Lists.{is_empty}
use Rattle.model.specs.Assignment.{quoting}
use Rattle.cells.specs.Minutes.{task_at}
use Rattle.planner.proofs.Quoting.{quoting_empty}
use Rattle.planner.proofs.limits.is_unquoted.Goals as goal

pub returns-then-not-task : goal.returns-then-not-task
returns-then-not-task g c =
    let T = g.T.Tariff.meaning c.args.timed.now.priced.tariff.now in
    let task = task_at (book c.args.timed.now.priced.sheet.now).tasks c.args.number in
    quoting_empty T (g.T.Tariff.ranged c.args.timed.now.priced.tariff.now) task g.T.Cost.Cost.kind c.cheapest.result c.cheapest.ensures.chosen c.is_none.result c.is_none.ensures
    ∙ ap (λ (task : Task). is_empty (quoting T task)) (sym c.requires)
    ∙ sym (ap (λ (struck : Bool). not struck && is_empty (quoting T c.args.task.now)) c.if-not-task.true)
