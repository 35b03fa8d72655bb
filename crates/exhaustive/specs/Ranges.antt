-- That the tariff of given charges keeps the ranges of every tariff.
-- These are proofs. They stand here since a tariff hands them over as a part of what it means.
use Rattle.std.specs.Prelude.{◌≡◌, ◌+◌, ◌*◌, ◌%◌, ◌≤◌, Some, None, Option, nat_le, nat_lt}
use Rattle.std.specs.List.{slice_get}
use Rattle.std.proofs.Common.{arith, lit≤}
use Rattle.std.proofs.lemmas.Option.{none-some}
use Rattle.std.proofs.lemmas.Bool.{cond-false, leb-true, le-ltb}
use Rattle.work.specs.Work.{work_in_range}
use Rattle.costs.specs.declared.cents.Cents.{Cents}
use Rattle.tariffs.specs.declared.quote.Quote.{Quote}
use Rattle.tariffs.specs.Meaning.{Ranged}
use Rattle.tariffs.specs.Ranges.{some_through, none_through}
use Rattle.exhaustive.specs.declared.given.Charge.{Charge}
use Rattle.exhaustive.specs.declared.given.GivenTariff.{GivenTariff}
use Rattle.exhaustive.specs.Given.{charge_quote, given_meaning}

charge_timed : (o : Option Charge) (q : Quote Cents) → charge_quote o ≡ Some q → (1 ≤ q.minutes) × (q.minutes ≤ 1440)
charge_timed None q e = absurd (none-some q e)
charge_timed (Some c) q e =
    let low = some_through (nat_le 1 c.minutes) _ q e in
    let high = some_through (nat_le c.minutes 1440) _ q low.1 in
    let same : c.minutes ≡ q.minutes = cc high.1 in
    (omega (arith, leb-true _ _ low.0), omega (arith, leb-true _ _ high.0))

pub given_ranged : (tariff : GivenTariff) → Ranged (given_meaning tariff)
given_ranged tariff = record {
  few = lit≤ tt;
  listed = λ machine work past. cond-false (nat_lt machine 4) _ _ (le-ltb _ _ past);
  worked = λ machine work bad.
      none_through (nat_lt machine 4) _ (cond-false (work_in_range work) _ _ bad);
  timed = λ machine work q some.
      let known = some_through (nat_lt machine 4) _ q some in
      let lawful = some_through (work_in_range work) _ q known.1 in
      charge_timed (slice_get tariff.charges.now (machine * 4 + work % 4)) q lawful.1;
}
