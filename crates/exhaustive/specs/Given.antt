-- What the tariff of given charges quotes
use Rattle.std.specs.Prelude.{ℕ, ◌+◌, ◌*◌, ◌%◌, cond, Some, None, Option, List, nat_le, nat_lt}
use Rattle.std.specs.List.{slice_get}
use Rattle.work.specs.Work.{work_in_range}
use Rattle.costs.specs.Cents.{cents}
use Rattle.costs.specs.declared.cents.Cents.{Cents}
use Rattle.tariffs.specs.declared.quote.Quote.{Quote}
use Rattle.tariffs.specs.Meaning.{Meaning}
use Rattle.exhaustive.specs.declared.given.Charge.{Charge}
use Rattle.exhaustive.specs.declared.given.GivenTariff.{GivenTariff}

-- the quote of a charge: none where its minutes are out of range
abbrev pub charge_quote : Option Charge → Option (Quote Cents)
charge_quote None = None
charge_quote (Some c) =
    cond (nat_le 1 c.minutes) (cond (nat_le c.minutes 1440) (Some (record { minutes = c.minutes; cost = cents c.cents })) None) None

-- four machines, each with a charge for each remainder of the work by four
abbrev pub given_quote : List Charge → ℕ → ℕ → Option (Quote Cents)
given_quote charges machine work =
    cond (nat_lt machine 4) (cond (work_in_range work) (charge_quote (slice_get charges (machine * 4 + work % 4))) None) None

abbrev pub given_meaning : GivenTariff → Meaning Cents
given_meaning tariff = record { count = 4; quote = given_quote tariff.charges.now }
