-- Lines and cards of the same fields are the same, since a range and a length have one proof each
use Rattle.std.specs.Prelude.{◌≡◌, ◌≤◌, ◌↔◌, Bool, true, ◌&&◌, length, nat_eq}
use Rattle.std.specs.Cmp.{first_so, second_so, unsigned_Decides}
use Rattle.std.specs.Cmp.Lexicographic.{pointwise, pointwise_decides}
use Rattle.std.proofs.Common.{ap}
use mathlib.Core.HLevel.{is_prop→PathP, hedberg}
use native.Mathlib.Bridge.{le_prop}
use native.Mathlib.Decide.{ℕ_discrete}
use Rattle.tariffs.specs.declared.card.RateCard.{RateCard}
use Rattle.tariffs.specs.declared.line.Line.{Line}

pub same_line : (a b : Line) → a.speed ≡ b.speed → a.rate ≡ b.rate → a ≡ b
same_line a b s r i = record {
  speed = s i;
  rate = r i;
  moving = is_prop→PathP (λ j. 1 ≤ s j) (λ j. le_prop) a.moving b.moving i;
  limited = is_prop→PathP (λ j. s j ≤ 10000) (λ j. le_prop) a.limited b.limited i;
  priced = is_prop→PathP (λ j. r j ≤ 1000000) (λ j. le_prop) a.priced b.priced i;
}

same_card : (a b : RateCard) → a.lines ≡ b.lines → a.count ≡ b.count → a ≡ b
same_card a b e f i = record {
  lines = e i;
  count = f i;
  counted = is_prop→PathP (λ j. f j ≤ 32) (λ j. le_prop) a.counted b.counted i;
  whole = is_prop→PathP (λ j. length (e j) ≡ 32) (λ j. hedberg ℕ_discrete (length (e j)) 32) a.whole b.whole i;
}

pub same_cards : {E : Line → Line → Bool} → ((x y : Line) → (E x y ≡ true) ↔ (x ≡ y)) → (x y : RateCard)
    → ((pointwise E x.lines y.lines && nat_eq x.count y.count) ≡ true) ↔ (x ≡ y)
same_cards {E} decides x y =
    let lines = pointwise_decides decides x.lines y.lines in
    let count = unsigned_Decides x.count y.count in
    let so = pointwise E x.lines y.lines in
    let too = nat_eq x.count y.count in (
      λ e. same_card x y (lines.0 (first_so so too e)) (count.0 (second_so so too e)),
      λ e. let a = lines.1 (ap (λ card. card.lines) e) in let b = count.1 (ap (λ card. card.count) e) in λ i. a i && b i,
    )
