use Rattle.std.proofs.Common.{◌≡◌, ℕ, ◌<◌, false, ◌&&◌, ◌||◌, eqb, length, get_or, take}
use Rattle.model.specs.Lists.{is_empty}
use Rattle.model.specs.Assignment.{stage_tasks}
use Rattle.cells.proofs.Marks.{quoted_at}
use Rattle.cells.proofs.times.quoted_times.Given as goal

abbrev pub invariant-loop-number : goal.invariant-loop-number
invariant-loop-number g l =
    let so_far = stage_tasks (take l.number l.tasks) l.stage in
    (length l.times ≡ 1441)
    × ((m : ℕ) → m < 1441 → get_or l.times m false ≡ ((is_empty (stage_tasks l.tasks l.stage) && eqb m 0) || quoted_at (g.T.Tariff.meaning l.timed.priced.tariff.now) so_far m))
