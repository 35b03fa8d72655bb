-- The line of a task and its machine
use Rattle.std.specs.Prelude.{ℕ, List, [], ◌∷◌}
use Rattle.texts.specs.declared.word.Word.{Word}
use Rattle.texts.specs.declared.word.Word.TheVariants.{Number}
use Rattle.texts.specs.Line.{line}
use Rattle.keylines.specs.declared.machine.Assigned.{Assigned}

abbrev pub assigned : ℕ → ℕ → Assigned
assigned task machine = record { task = task; machine = machine }

abbrev pub machine_words : Assigned → List Word
machine_words a = Number a.task ∷ (Number a.machine ∷ [])

-- task number and machine
abbrev pub machine_line : Assigned → List ℕ
machine_line a = line (machine_words a)
