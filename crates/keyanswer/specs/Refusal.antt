-- Why two inputs are not compared: by number and value, and which input it is about
use Rattle.std.specs.Prelude.{ℕ}
use Rattle.refusals.specs.Answer.{Refused}
use Rattle.keyfile.specs.Refusal.{file_told}
use Rattle.planner.specs.Refusal.{question_told}
use Rattle.keyanswer.specs.declared.refusal.CompareRefusal.{CompareRefusal}
use Rattle.keyanswer.specs.declared.refusal.CompareRefusal.TheVariants.{First, Second, Memory}

abbrev pub compare_told : CompareRefusal → Refused
compare_told (First refusal) = file_told refusal
compare_told (Second refusal) = file_told refusal
compare_told (Memory refusal) = question_told refusal

-- 1 or 2 for an input that is not read, 0 for the question on both
abbrev pub which_input : CompareRefusal → ℕ
which_input (First refusal) = 1
which_input (Second refusal) = 2
which_input (Memory refusal) = 0
