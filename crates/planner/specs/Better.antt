-- The question which of two sheets, each under its tariff, has the better bargain
use Rattle.std.specs.Prelude.{◌≡◌, ◌||◌, List, Some, None, Ok, Err, Option, Result}
use Rattle.refusals.specs.Answer.{Answer, refused_if}
use Rattle.costs.specs.Kind.{Kind}
use Rattle.tariffs.specs.Meaning.{Meaning}
use Rattle.sheets.specs.Book.{Book}
use Rattle.model.specs.declared.cell.Cell.{Cell}
use Rattle.model.specs.declared.point.Point.{Point}
use Rattle.model.specs.declared.better.Better.{Better}
use Rattle.model.specs.declared.better.Better.TheVariants.{First, Second}
use Rattle.model.specs.Front.{front}
use Rattle.model.specs.Bargain.{Matched}
use Rattle.model.specs.Better.{better, IsBetter}
use Rattle.planner.specs.declared.refusal.QuestionRefusal.{QuestionRefusal}
use Rattle.planner.specs.Bargain.{few_for_either, first_too_short, second_too_short}

-- what the question answers, by the book of the first sheet under T and that of the second under U, with one memory of
-- cells for both and points for each
module _ {C : Type 0} (K : Kind C) (T : Meaning C) (first : Book) (U : Meaning C) (second : Book) (cells : List (Cell C)) (first_points second_points : List (Point C)) where
  -- the sheet that has the better bargain, with its pair, if one has; or refusal 7 or 8
  abbrev pub better_answer : Answer (Option (Better C))
  better_answer =
      refused_if (few_for_either K T first U second cells first_points second_points) 7
      (refused_if (first_too_short K T first U second cells first_points second_points || second_too_short K T first U second cells first_points second_points) 8
      (Ok (better K T first U second)))

module _ {C : Type 0} (K : Kind C) (T : Meaning C) (first : Book) (U : Meaning C) (second : Book) where
  -- both sheets offer the same bargains
  pub record NeitherBetter : Type 0 where
    pub equal_fronts : front K T first ≡ front K U second
    pub first_matched : Matched K T first U second
    pub second_matched : Matched K U second T first

  -- the same bargains; or a pair of one sheet that no assignment of the other is as good as, the first such
  abbrev pub BetterTells : Result (Option (Better C)) QuestionRefusal → Type 0
  BetterTells (Ok None) = NeitherBetter
  BetterTells (Ok (Some (First p))) = IsBetter K T first U second p
  BetterTells (Ok (Some (Second p))) = IsBetter K U second T first p
  BetterTells (Err refusal) = Unit {0}
