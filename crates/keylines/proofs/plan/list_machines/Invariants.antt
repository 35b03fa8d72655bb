use Rattle.std.proofs.Common.{◌≡◌, ◌≤◌, ◌++◌, length, take, drop}
use Rattle.keylines.specs.Plan.{assigned_from}
use Rattle.keylines.proofs.Machines.{numbered, machines_in}
use Rattle.keylines.proofs.plan.list_machines.Given as goal

-- the list so far, with what is still to come, is the whole
abbrev pub invariant-loop-number : goal.invariant-loop-number
invariant-loop-number l =
    (goal.iterator-loop-number).can_next l.number-iterator
    × (goal.iterator-loop-number).is_finite l.number-iterator
    × (take l.count l.list ++ machines_in (drop (length l.yielded) (numbered l.tasks l.plan)) ≡ assigned_from 0 l.tasks l.plan)
    × (l.count ≤ length l.yielded)
