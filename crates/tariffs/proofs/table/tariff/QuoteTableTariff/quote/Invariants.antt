use Rattle.std.proofs.Common.{◌≡◌, drop}
use Rattle.tariffs.specs.First.{find}
use Rattle.tariffs.specs.Rows.{bears}
use Rattle.tariffs.proofs.table.tariff.QuoteTableTariff.quote.Given as goal

abbrev pub invariant-loop-row : goal.invariant-loop-row
invariant-loop-row l =
    find (λ r. bears r l.machine l.work) (drop l.row-index l.self.rows.now)
    ≡ find (λ r. bears r l.machine l.work) l.self.rows.now
