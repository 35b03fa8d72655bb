-- The tariff that never quotes
use Rattle.std.specs.Prelude.{◌≡◌, ℕ, None, refl}
use Rattle.std.proofs.Common.{arith, lit≤}
use Rattle.tariffs.specs.declared.never.NeverQuotes.{NeverQuotes}
use Rattle.tariffs.specs.Meaning.{Meaning, Ranged}

abbrev pub never_meaning : {C : Type 0} → NeverQuotes C → Meaning C
never_meaning tariff = record { count = 32; quote = λ machine work. None }

pub never_ranged : {C : Type 0} (tariff : NeverQuotes C) → Ranged (never_meaning tariff)
never_ranged tariff = record {
  few = lit≤ tt;
  listed = λ machine work past. refl;
  worked = λ machine work bad. refl;
  timed = λ machine work q some. let never : ◌≡◌ {A = ℕ} 0 1 = cc in absurd (omega arith);
}
