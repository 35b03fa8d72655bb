-- A line of a rate card, and what it quotes
use Rattle.std.specs.Prelude.{ℕ, min, max, Bool, cond, ◌&&◌, Some, None, Option, nat_le}
use Rattle.std.proofs.Common.{arith}
use Rattle.costs.specs.declared.cents.Cents.{Cents}
use Rattle.tariffs.specs.declared.line.Line.{Line}
use Rattle.tariffs.specs.declared.quote.Quote.{Quote}
use Rattle.tariffs.specs.Charge.{charge_of}
use Rattle.tariffs.specs.RoundedUp.{rounded_up, LeastCover}

abbrev pub line_in_range : ℕ → ℕ → Bool
line_in_range speed rate = nat_le 1 speed && (nat_le speed 10000 && nat_le rate 1000000)

-- the line of two numbers; each is held in its range, so that there is one for any two
abbrev pub line : ℕ → ℕ → Line
line speed rate = record {
  speed = max 1 (min speed 10000);
  rate = min rate 1000000;
  moving = omega arith;
  limited = omega arith;
  priced = omega arith;
}

abbrev pub line_answer : ℕ → ℕ → Option Line
line_answer speed rate = cond (line_in_range speed rate) (Some (line speed rate)) None

-- the time for a work, in minutes: the work divided by the speed, rounded up
abbrev pub line_time : Line → ℕ → ℕ
line_time l work = rounded_up work l.speed

-- the law of it: the least whole number of minutes in which the speed covers the work
abbrev pub TimesAreLeast : Type 0
TimesAreLeast = (l : Line) (work : ℕ) → LeastCover l.speed work (line_time l work)

-- none above 1,440 minutes
abbrev pub line_quote : Line → ℕ → Option (Quote Cents)
line_quote l work =
    cond (nat_le (line_time l work) 1440)
    (Some (record { minutes = line_time l work; cost = charge_of l.rate (line_time l work) }))
    None
