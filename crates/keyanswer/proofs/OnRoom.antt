-- Memory in which every two sheets can be compared
use Rattle.std.proofs.Common.{◌≡◌, ℕ, ◌≤◌, Bool, false, ◌||◌, List, length, Ok, sym, ap, ◌∙◌, subst, ap₂, arith}
use Rattle.std.proofs.lemmas.Bool.{le-ltb}
use Rattle.refusals.specs.Answer.{Answer, refused_if}
use Rattle.costs.specs.Kind.{Kind, Laws}
use Rattle.costs.specs.Cents.{cents_kind}
use Rattle.costs.specs.KindLaws.{cents_laws}
use Rattle.costs.specs.declared.cents.Cents.{Cents}
use Rattle.tariffs.specs.Meaning.{Meaning, Ranged}
use Rattle.tariffs.specs.Card.{lines_of, lines_meaning}
use Rattle.tariffs.specs.Ranges.{card_ranged}
use Rattle.sheets.specs.declared.sheet.Sheet.{Sheet}
use Rattle.sheets.specs.Book.{book}
use Rattle.sheets.proofs.Histories.{sheet_sound}
use Rattle.model.specs.declared.cell.Cell.{Cell}
use Rattle.model.specs.declared.point.Point.{Point}
use Rattle.model.specs.Assignment.{standing}
use Rattle.model.specs.Cell.{width, cells_needed, least_cost}
use Rattle.model.specs.Front.{front}
use Rattle.model.proofs.Loops.{width_bound, cells_needed_bound, drops_count}
use Rattle.model.proofs.Scans.{front_is_where_costs_drop}
use Rattle.keyinput.specs.declared.batch.Batch.{Batch}
use Rattle.numbers.specs.Input.{value_of}
use Rattle.keyinput.specs.Batch.{batch_of, batch_in}
use Rattle.keyanswer.specs.Better.{Roomy, better_offer, offers_answered, both_asked, verdict_on, verdict_within}
use Rattle.keyanswer.specs.Compare.{about_input}

module _ {C : Type 0} {K : Kind C} (laws : Laws K) (T : Meaning C) (ranged : Ranged T) (sheet : Sheet) where
  cells_few : cells_needed T (book sheet) ≤ 391697
  cells_few = cells_needed_bound T ranged (book sheet) (sheet_sound sheet)

  -- a front has at most one point for each number of minutes
  points_few : length (front K T (book sheet)) ≤ 23041
  points_few =
      let P : List (Point C) → Type 0 = λ ps. length ps ≤ width T (book sheet) in
      let within = subst P (front_is_where_costs_drop laws T ranged (standing (book sheet))) (drops_count K (least_cost K T (standing (book sheet))) (width T (book sheet))) in
      omega (arith, within, width_bound T ranged (book sheet) (sheet_sound sheet))

unrefused : {A : Type 0} (few other_few short other_short : Bool) (a : A) → few ≡ false → other_few ≡ false → short ≡ false → other_short ≡ false
    → ◌≡◌ {A = Answer A} (refused_if (few || other_few) 7 (refused_if (short || other_short) 8 (Ok a))) (Ok a)
unrefused few other_few short other_short a p q r s =
    ap₂ (λ (x y : Bool). refused_if (x || y) 7 (refused_if (short || other_short) 8 (Ok a))) p q
    ∙ ap₂ (λ (x y : Bool). refused_if (x || y) 8 (Ok a)) r s

-- with memory enough nothing is refused
pub enough_answered : (first second : Batch) (cells : List (Cell Cents)) (first_points second_points : List (Point Cents)) → Roomy cells first_points second_points
    → offers_answered cells first_points second_points (batch_of first) (batch_of second) ≡ Ok (better_offer (batch_of first) (batch_of second))
enough_answered first second cells first_points second_points roomy =
    unrefused _ _ _ _ (better_offer (batch_of first) (batch_of second))
    (le-ltb (length cells) (cells_needed T (book first.sheet)) (omega (arith, roomy.cells_enough, cells_few cents_laws T ranged first.sheet)))
    (le-ltb (length cells) (cells_needed U (book second.sheet)) (omega (arith, roomy.cells_enough, cells_few cents_laws U others second.sheet)))
    (le-ltb (length first_points) (length (front cents_kind T (book first.sheet))) (omega (arith, roomy.first_enough, points_few cents_laws T ranged first.sheet)))
    (le-ltb (length second_points) (length (front cents_kind U (book second.sheet))) (omega (arith, roomy.second_enough, points_few cents_laws U others second.sheet)))
  where
    T : Meaning Cents
    T = lines_meaning (lines_of first.card)

    U : Meaning Cents
    U = lines_meaning (lines_of second.card)

    ranged : Ranged T
    ranged = card_ranged first.card

    others : Ranged U
    others = card_ranged second.card

module _ (first second : Batch) (first_input second_input : List ℕ) (read : Ok (batch_of first) ≡ value_of (batch_in first_input)) (also_read : Ok (batch_of second) ≡ value_of (batch_in second_input)) where
  -- so the verdict is the one that memory has no part in
  pub verdict_enough : (cells : List (Cell Cents)) (first_points second_points : List (Point Cents)) → Roomy cells first_points second_points
      → verdict_within first_input second_input cells first_points second_points ≡ verdict_on first_input second_input
  verdict_enough cells first_points second_points roomy =
      ap₂ (both_asked (offers_answered cells first_points second_points)) (sym read) (sym also_read)
      ∙ ap (about_input 0) (enough_answered first second cells first_points second_points roomy)
      ∙ ap₂ (both_asked (λ one other. Ok (better_offer one other))) read also_read
