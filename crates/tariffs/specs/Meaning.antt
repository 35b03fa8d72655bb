-- What a tariff means, and what every tariff shows of its meaning
use Rattle.std.specs.Prelude.{◌≡◌, ℕ, ◌≤◌, false, Some, None, Option}
use Rattle.work.specs.Work.{work_in_range}
use Rattle.tariffs.specs.declared.quote.Quote.{Quote}

-- the machine count, and the quote for a machine number and a work
pub record Meaning (C : Type 0) : Type 0 where
  pub count : ℕ
  pub quote : ℕ → ℕ → Option (Quote C)

-- at most 32 machines; none is quoted past the count or for work out of range; a time is 1 to 1,440 minutes
pub record Ranged {C : Type 0} (T : Meaning C) : Type 0 where
  pub few : T.count ≤ 32
  pub listed : (machine work : ℕ) → T.count ≤ machine → T.quote machine work ≡ None
  pub worked : (machine work : ℕ) → work_in_range work ≡ false → T.quote machine work ≡ None
  pub timed : (machine work : ℕ) (q : Quote C) → T.quote machine work ≡ Some q → (1 ≤ q.minutes) × (q.minutes ≤ 1440)
