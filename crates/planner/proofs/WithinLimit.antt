-- Budgets and deadlines, read off the first row of filled cells
use Rattle.std.proofs.Common.{◌≡◌, ℕ, ◌+◌, ◌-◌, ◌<◌, min, Bool, true, false, cond, List, [], is_some, Some, None, Ok, Err, Option, sym, refl, ap, ◌∙◌, subst, ap₂, arith}
use Rattle.refusals.specs.Answer.{Answer, carrying, refused_if}
use Rattle.costs.specs.Kind.{Kind, Laws}
use Rattle.tariffs.specs.Meaning.{Meaning, Ranged}
use Rattle.sheets.specs.Book.{Book}
use Rattle.model.specs.declared.cell.Cell.{Cell}
use Rattle.model.specs.Assignment.{standing}
use Rattle.model.specs.Cell.{span, least_cost}
use Rattle.model.specs.Limit.{lowest_unquoted, or_none_within, unless_unquoted, within_deadline}
use Rattle.model.specs.Question.{few_cells, short_plan, filled, front_cells, limit_answer, limit_cells}
use Rattle.model.specs.Scan.{first_below}
use Rattle.model.proofs.Loops.{cost_in_table, budget_by_row, deadline_by_row, deadline_by_row_none}
use Rattle.planner.specs.declared.limit.Limit.{Limit}
use Rattle.planner.specs.declared.limit.Limit.TheVariants.{Budget, Deadline}
use Rattle.planner.specs.Limit.{within_limit, result_of, row_deadline, row_within}
use Rattle.cells.specs.declared.layout.Layout.{Layout}
use Rattle.cells.specs.Layout.{layout_of}
use Rattle.cells.specs.Memory.{row_costs}
use Rattle.planner.specs.Row.{HoldsLeastCosts}
use Rattle.planner.proofs.FirstRow.{cells_filled}
use Rattle.planner.proofs.FirstWithin.{first_alike}

-- filled cells hold the least costs
pub filled_hold : {C : Type 0} (K : Kind C) (T : Meaning C) (book : Book) (before after : List (Cell C)) (layout : Layout)
    → few_cells T book before ≡ false → after ≡ front_cells K T book before → layout ≡ layout_of T book → HoldsLeastCosts K T book after layout
filled_hold {C} K T book before after layout enough e same = record {
  laid_out = same;
  each = λ j t l h.
      ap₂ (λ (cells : List (Cell C)) (l : Layout). row_costs K l cells j t) (e ∙ cells_filled K T book before [] enough) same
      ∙ cost_in_table K T book _ j t _ l (subst (λ (l : Layout). t < l.width) same h);
}

module _ {C : Type 0} {K : Kind C} (laws : Laws K) (T : Meaning C) (ranged : Ranged T) (book : Book) (cells : List (Cell C)) (layout : Layout) (held : HoldsLeastCosts K T book cells layout) where
  wide : layout.width ≡ span T (standing book) + 1
  wide = ap (λ (l : Layout). l.width) held.laid_out

  costs_alike : (t : ℕ) → t < layout.width → row_costs K layout cells 0 t ≡ least_cost K T (standing book) t
  costs_alike t h = held.each 0 t (omega arith) h

  last_minute : (minutes : ℕ) → min minutes (layout.width - 1) ≡ min minutes (span T (standing book))
  last_minute minutes = let e = wide in omega arith

  by_deadline : (minutes : ℕ) (o : Option C) → least_cost K T (standing book) (min minutes (span T (standing book))) ≡ o
      → row_deadline K (row_costs K layout cells 0) (min minutes (span T (standing book))) o ≡ within_deadline K T (standing book) minutes
  by_deadline minutes None e = sym (deadline_by_row_none laws T ranged (standing book) minutes e)
  by_deadline minutes (Some c) e =
      first_alike K c (row_costs K layout cells 0) (least_cost K T (standing book)) (min minutes (span T (standing book)) + 1) (λ t h. costs_alike t (let f = wide in omega arith))
      ∙ deadline_by_row laws T ranged (standing book) minutes c e

  -- what the row tells is the best pair within the limit
  pub row_tells : (limit : Limit C) → row_within K (row_costs K layout cells 0) layout.width limit ≡ within_limit K T (standing book) limit
  row_tells (Budget cost) =
      first_alike K cost (row_costs K layout cells 0) (least_cost K T (standing book)) layout.width costs_alike
      ∙ ap (first_below K (least_cost K T (standing book)) cost) wide
      ∙ budget_by_row laws T ranged (standing book) cost
  row_tells (Deadline minutes) =
      ap (λ (last : ℕ). row_deadline K (row_costs K layout cells 0) last (row_costs K layout cells 0 last)) (last_minute minutes)
      ∙ ap (row_deadline K (row_costs K layout cells 0) (min minutes (span T (standing book)))) (costs_alike (min minutes (span T (standing book))) (let f = wide in omega arith))
      ∙ by_deadline minutes _ refl

-- what stands after the check has let a question through
pub let_through : (few short : Bool) (o : Option ℕ) → ◌≡◌ {A = Answer (Unit {0})} (Ok tt) (refused_if few 7 (refused_if short 8 (elim o [ Some task ↦ Err (carrying 9 task) | None ↦ Ok tt ])))
    → (few ≡ false) × (short ≡ false) × (o ≡ None)
let_through true short o e = cc
let_through false true o e = cc
let_through false false (Some task) e = cc
let_through false false None e = (refl, refl, refl)

module _ {C : Type 0} (K : Kind C) (T : Meaning C) (book : Book) (cells : List (Cell C)) (bytes : List ℕ) (limit : Limit C)
    (enough : few_cells T book cells ≡ false) (room : short_plan T book bytes ≡ false) (quoted : lowest_unquoted T book ≡ None) where
  pub limit_let_through : limit_answer T book cells bytes (result_of K T book limit) ≡ or_none_within (within_limit K T (standing book) limit)
  limit_let_through = rw (enough, room) (ap (λ (o : Option ℕ). unless_unquoted o (or_none_within (within_limit K T (standing book) limit))) quoted)

  pub cells_let_through : limit_cells K T book cells bytes ≡ filled K T book cells
  cells_let_through = rw (enough, room) (ap (λ (o : Option ℕ). cond (is_some o) cells (filled K T book cells)) quoted)
