-- The front, read off the first row of filled cells
use Rattle.std.proofs.Common.{◌≡◌, ℕ, zero, suc, ◌<◌, ◌≤◌, Bool, true, false, cond, not, ltb, List, [], ◌∷◌, ◌++◌, length, drop, Some, None, Ok, Err, Option, refl, ap, ◌∙◌, ap₂, arith}
use Rattle.std.proofs.lemmas.Bool.{cond-true, cond-false, lt-ltb, le-ltb}
use Rattle.refusals.specs.Answer.{Answer, plain, refused_if}
use Rattle.costs.specs.Kind.{Kind, Laws}
use Rattle.tariffs.specs.Meaning.{Meaning, Ranged}
use Rattle.sheets.specs.Book.{Book}
use Rattle.model.specs.declared.cell.Cell.{Cell}
use Rattle.model.specs.declared.point.Point.{Point}
use Rattle.model.specs.Assignment.{standing}
use Rattle.model.specs.Cell.{width, least_cost}
use Rattle.model.specs.Front.{front}
use Rattle.model.specs.Question.{few_cells, filled, front_answer, front_cells, front_points}
use Rattle.model.specs.Scan.{point, affordable, point_at, drops_below}
use Rattle.model.proofs.Loops.{cost_in_table}
use Rattle.model.proofs.Scans.{front_is_where_costs_drop}
use Rattle.cells.specs.declared.layout.Layout.{Layout}
use Rattle.cells.specs.Layout.{layout_of}
use Rattle.cells.specs.Memory.{row_costs}

module _ {C : Type 0} (K : Kind C) where
  -- a point rests on the costs at its minute and the minute before
  point_alike : (costs others : ℕ → Option C) (n : ℕ) → ((t : ℕ) → t < suc n → costs t ≡ others t) → (o : Option C) → point_at K costs n o ≡ point_at K others n o
  point_alike costs others n same None = refl
  point_alike costs others zero same (Some c) = refl
  point_alike costs others (suc n) same (Some c) = ap (λ (u : Option C). cond (not (affordable K u c)) (point (suc n) c ∷ []) []) (same n (omega arith))

  -- the points below a minute rest on the costs below it
  pub drops_alike : (costs others : ℕ → Option C) (n : ℕ) → ((t : ℕ) → t < n → costs t ≡ others t) → drops_below K costs n ≡ drops_below K others n
  drops_alike costs others zero same = refl
  drops_alike costs others (suc n) same =
      ap₂ (λ (ps qs : List (Point C)). ps ++ qs)
      (drops_alike costs others n (λ t h. same t (omega arith)))
      (point_alike costs others n same (costs n) ∙ ap (point_at K others n) (same n (omega arith)))

pub enough_from_filled : {A : Type 0} (few : Bool) (filled given : A) → ◌≡◌ {A = Answer A} (Ok given) (refused_if few 7 (Ok filled)) → (few ≡ false) × (given ≡ filled)
enough_from_filled true filled given e = cc
enough_from_filled false filled given e = (refl, cc)

module _ {C : Type 0} {K : Kind C} (laws : Laws K) (T : Meaning C) (ranged : Ranged T) (book : Book) where
  -- the points of the first row are the front
  pub points_are_front : (before : List (Cell C)) → drops_below K (row_costs K (layout_of T book) (filled K T book before) 0) (width T book) ≡ front K T book
  points_are_front before =
      drops_alike K (row_costs K (layout_of T book) (filled K T book before) 0) (least_cost K T (standing book)) (width T book) (λ t h. cost_in_table K T book _ 0 t _ (omega arith) h)
      ∙ front_is_where_costs_drop laws T ranged (standing book)

-- the ways in which the question `front` ends with cells enough
module _ {C : Type 0} (K : Kind C) (T : Meaning C) (book : Book) (cells : List (Cell C)) (points : List (Point C)) where
  module _ (enough : few_cells T book cells ≡ false) where
    pub cells_filled : front_cells K T book cells ≡ filled K T book cells
    cells_filled = cond-false (few_cells T book cells) _ _ enough

    module _ (short : length points < length (front K T book)) where
      pub front_refused_8 : front_answer K T book cells points ≡ Err (plain 8)
      front_refused_8 = cond-false (few_cells T book cells) _ _ enough ∙ cond-true (ltb (length points) (length (front K T book))) _ _ (lt-ltb _ _ short)

      pub points_kept_8 : front_points K T book cells points ≡ points
      points_kept_8 = ap (λ (a : Answer ℕ). elim a [ Ok n ↦ front K T book ++ drop n points | Err refused ↦ points ]) front_refused_8

    module _ (fits : length (front K T book) ≤ length points) where
      pub front_answered : front_answer K T book cells points ≡ Ok (length (front K T book))
      front_answered = cond-false (few_cells T book cells) _ _ enough ∙ cond-false (ltb (length points) (length (front K T book))) _ _ (le-ltb _ _ fits)

      pub points_written : front_points K T book cells points ≡ front K T book ++ drop (length (front K T book)) points
      points_written = ap (λ (a : Answer ℕ). elim a [ Ok n ↦ front K T book ++ drop n points | Err refused ↦ points ]) front_answered

-- what is read off the first row after filling
pub row_is_front : {C : Type 0} {K : Kind C} → Laws K → (T : Meaning C) → Ranged T → (book : Book) (before after : List (Cell C)) (layout : Layout)
    → few_cells T book before ≡ false → after ≡ front_cells K T book before → layout ≡ layout_of T book
    → drops_below K (row_costs K layout after 0) layout.width ≡ front K T book
row_is_front {C} {K} laws T ranged book before after layout enough e same =
    ap₂ (λ (cells : List (Cell C)) (l : Layout). drops_below K (row_costs K l cells 0) l.width) (e ∙ cells_filled K T book before [] enough) same
    ∙ points_are_front laws T ranged book before
