use Rattle.std.proofs.Common.{◌≡◌, ℕ, get_or, length}
use Rattle.model.specs.Assignment.{quote_of, minutes_of}
use Rattle.cells.specs.Memory.{up_to}
use Rattle.cells.proofs.timed.minutes.ask_minutes.Given as goal

abbrev pub invariant-loop-machine : goal.invariant-loop-machine
invariant-loop-machine g l =
    (length l.minutes ≡ 32)
    × ((machine : ℕ) → get_or l.minutes machine 0 ≡ up_to l.machine (λ m. minutes_of (quote_of (g.T.Tariff.meaning l.tariff) l.task m)) (λ _. 0) machine)
