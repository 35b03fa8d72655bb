-- The question whether two sheets, each under its tariff, offer the same bargains
use Rattle.std.specs.Prelude.{Bool, true, false, cond, ◌&&◌, ◌||◌, List, [], ◌∷◌, ◌++◌, length, drop, Ok, ◌==◌, nat_lt}
use Rattle.refusals.specs.Answer.{Answer, refused_if}
use Rattle.costs.specs.Kind.{Kind}
use Rattle.tariffs.specs.Meaning.{Meaning}
use Rattle.sheets.specs.Book.{Book}
use Rattle.model.specs.declared.cell.Cell.{Cell}
use Rattle.model.specs.declared.point.Point.{Point}
use Rattle.model.specs.Front.{front}
use Rattle.model.specs.Question.{few_cells, filled}

module _ {C : Type 0} (K : Kind C) where
  -- the same length, and costs at most each other
  abbrev pub same_point : Point C → Point C → Bool
  same_point p q = p.length == q.length && (K.at_most p.cost q.cost && K.at_most q.cost p.cost)

  -- the same points in the same order
  abbrev pub same_points : List (Point C) → List (Point C) → Bool
  same_points [] [] = true
  same_points [] (q ∷ qs) = false
  same_points (p ∷ ps) [] = false
  same_points (p ∷ ps) (q ∷ qs) = same_point p q && same_points ps qs

-- what the question answers and leaves, by the book of the first sheet under T and that of the second under U, with one
-- memory of cells for both and points for each
module _ {C : Type 0} (K : Kind C) (T : Meaning C) (first : Book) (U : Meaning C) (second : Book)
    (cells : List (Cell C)) (first_points second_points : List (Point C)) where
  -- fewer cells than either front needs
  abbrev pub few_for_either : Bool
  few_for_either = few_cells T first cells || few_cells U second cells

  -- the points of the first front are too short for it, and those of the second
  abbrev pub first_too_short : Bool
  first_too_short = nat_lt (length first_points) (length (front K T first))

  abbrev pub second_too_short : Bool
  second_too_short = nat_lt (length second_points) (length (front K U second))

  -- whether the fronts are equal, or refusal 7 or 8
  abbrev pub bargains_answer : Answer Bool
  bargains_answer =
      refused_if few_for_either 7
      (refused_if (first_too_short || second_too_short) 8
      (Ok (same_points K (front K T first) (front K U second))))

  -- the cells are filled for the first sheet, and then, unless its points were too short, for the second
  abbrev pub bargains_cells : List (Cell C)
  bargains_cells =
      cond few_for_either cells
      (cond first_too_short (filled K T first cells)
      (filled K U second (filled K T first cells)))

  -- each front is written where it fits; the second only if the first did
  abbrev pub bargains_first_points : List (Point C)
  bargains_first_points =
      cond (few_for_either || first_too_short) first_points
      (front K T first ++ drop (length (front K T first)) first_points)

  abbrev pub bargains_second_points : List (Point C)
  bargains_second_points =
      cond (few_for_either || (first_too_short || second_too_short)) second_points
      (front K U second ++ drop (length (front K U second)) second_points)
