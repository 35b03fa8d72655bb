-- The machines of a plan, and the text of a result
use Rattle.std.specs.Prelude.{ℕ, ◌+◌, cond, List, [], ◌∷◌, ◌++◌}
use Rattle.std.specs.List.{flat_map}
use Rattle.sheets.specs.Book.{Book}
use Rattle.sheets.specs.declared.task.Task.{Task}
use Rattle.model.specs.declared.point.Point.{Point}
use Rattle.keylines.specs.declared.machine.Assigned.{Assigned}
use Rattle.keylines.specs.Machine.{assigned, machine_line}
use Rattle.keylines.specs.Point.{point_line}

-- the standing tasks, numbered from the first, with the machines that the plan's bytes give them
abbrev pub assigned_from : ℕ → List Task → List ℕ → List Assigned
assigned_from number [] plan = []
assigned_from number (task ∷ tasks) [] = []
assigned_from number (task ∷ tasks) (byte ∷ plan) =
    cond task.struck (assigned_from (number + 1) tasks plan) (assigned number byte ∷ assigned_from (number + 1) tasks plan)

abbrev pub assigned_tasks : Book → List ℕ → List Assigned
assigned_tasks book plan = assigned_from 0 book.tasks plan

-- the line of the pair, then a line for each standing task
abbrev pub result_text : {C : Type 0} → (C → List ℕ) → Point C → List Assigned → List ℕ
result_text text p list = point_line text p ++ flat_map machine_line list
