-- The answers to the questions on two sheets, where both fronts are written
use Rattle.std.proofs.Common.{◌≡◌, ℕ, Bool, true, false, ◌||◌, ltb, List, [], ◌++◌, length, take, drop, Ok, Option, sym, refl, ap, ◌∙◌, ap₂}
use Rattle.std.proofs.lemmas.List.{take_at}
use Rattle.std.proofs.lemmas.Bool.{or_parts, ltb-false}
use Rattle.refusals.specs.Answer.{Answer, refused_if}
use Rattle.costs.specs.Kind.{Kind}
use Rattle.tariffs.specs.Meaning.{Meaning}
use Rattle.sheets.specs.Book.{Book}
use Rattle.model.specs.declared.cell.Cell.{Cell}
use Rattle.model.specs.declared.point.Point.{Point}
use Rattle.model.specs.declared.better.Better.{Better}
use Rattle.model.specs.Cell.{cells_needed}
use Rattle.model.specs.Better.{better, first_difference}
use Rattle.model.specs.Front.{front}
use Rattle.model.specs.Question.{few_cells, filled, front_answer, front_points}
use Rattle.model.proofs.Questions.{questions_keep_memory}
use Rattle.planner.specs.Bargain.{few_for_either, second_too_short}
use Rattle.planner.specs.Better.{better_answer}
use Rattle.planner.proofs.FirstRow.{cells_filled, points_written}

pub answered_long : (few short : Bool) (n given : ℕ) → few ≡ false → Ok given ≡ refused_if few 7 (refused_if short 8 (Ok n)) → (short ≡ false) × (given ≡ n)
answered_long true short n given enough e = cc
answered_long false true n given enough e = cc
answered_long false false n given enough e = (refl, cc)

module _ {C : Type 0} (K : Kind C) (T : Meaning C) (first : Book) (U : Meaning C) (second : Book) (cells : List (Cell C)) (first_points second_points : List (Point C)) where
  -- the answer by its three tests
  abbrev answer_by : Bool → Bool → Bool → Answer (Option (Better C))
  answer_by few short long = refused_if few 7 (refused_if (short || long) 8 (Ok (better K T first U second)))

  module _ (enough : few_for_either K T first U second cells first_points second_points ≡ false) where
    enough_first : few_cells T first cells ≡ false
    enough_first = (or_parts (few_cells T first cells) (few_cells U second cells) enough).0

    -- the cells that the first front leaves are as many
    enough_second : few_cells U second (filled K T first cells) ≡ false
    enough_second =
        let kept = (questions_keep_memory K T first).front_cells_kept cells in
        ap (λ (n : ℕ). ltb n (cells_needed U second)) (ap length (sym (cells_filled K T first cells [] enough_first)) ∙ kept)
        ∙ (or_parts (few_cells T first cells) (few_cells U second cells) enough).1

    module _ (n : ℕ) (first_after : List (Point C)) (e : Ok n ≡ front_answer K T first cells first_points) (m : first_after ≡ front_points K T first cells first_points) where
      long_first : (ltb (length first_points) (length (front K T first)) ≡ false) × (n ≡ length (front K T first))
      long_first = answered_long (few_cells T first cells) (ltb (length first_points) (length (front K T first))) (length (front K T first)) n enough_first e

      first_written : first_after ≡ front K T first ++ drop (length (front K T first)) first_points
      first_written = m ∙ points_written K T first cells first_points enough_first (ltb-false _ _ long_first.0)

      module _ (k : ℕ) (second_after : List (Point C)) (f : Ok k ≡ front_answer K U second (filled K T first cells) second_points) (y : second_after ≡ front_points K U second (filled K T first cells) second_points) where
        long_second : (ltb (length second_points) (length (front K U second)) ≡ false) × (k ≡ length (front K U second))
        long_second = answered_long (few_cells U second (filled K T first cells)) (ltb (length second_points) (length (front K U second))) (length (front K U second)) k enough_second f

        second_written : second_after ≡ front K U second ++ drop (length (front K U second)) second_points
        second_written = y ∙ points_written K U second (filled K T first cells) second_points enough_second (ltb-false _ _ long_second.0)

        pub answered_both : (found : Option (Better C)) → found ≡ first_difference K (take n first_after) (take k second_after) → better K T first U second ≡ first_difference K (front K T first) (front K U second)
            → ◌≡◌ {A = Answer (Option (Better C))} (Ok found) (better_answer K T first U second cells first_points second_points)
        answered_both found s differ =
            ap Ok (s ∙ ap₂ (first_difference K)
            (ap₂ take long_first.1 first_written ∙ take_at (front K T first) _ _ refl)
            (ap₂ take long_second.1 second_written ∙ take_at (front K U second) _ _ refl)
            ∙ sym differ)
            ∙ sym (ap₂ (λ (p : Bool) (q : Bool). answer_by p q (second_too_short K T first U second cells first_points second_points)) enough long_first.0 ∙ ap (answer_by false false) long_second.0)

-- whether the fronts are equal is answered behind the same refusals
pub told_behind : {A B : Type 0} (few short : Bool) (given found : A) (same : A → B) → ◌≡◌ {A = Answer A} (Ok given) (refused_if few 7 (refused_if short 8 (Ok found))) → ◌≡◌ {A = Answer B} (Ok (same given)) (refused_if few 7 (refused_if short 8 (Ok (same found))))
told_behind true short given found same e = cc
told_behind false true given found same e = cc
told_behind false false given found same e = let one : given ≡ found = cc in ap (λ x. Ok (same x)) one
