-- The search of the first allowance list, stage by stage
use Rattle.std.proofs.Common.{◌≡◌, ℕ, ◌+◌, ◌-◌, ◌<◌, ◌≤◌, Bool, true, false, ◌⊎◌, List, [], ◌∷◌, ◌++◌, length, take, drop, set, Option, sym, ap, ◌∙◌, ap₂, inl, inr, arith}
use Rattle.std.proofs.lemmas.List.{append_assoc, append-nil, take_more_set}
use Rattle.costs.specs.Kind.{Kind}
use Rattle.tariffs.specs.Meaning.{Meaning}
use Rattle.sheets.specs.Book.{Book}
use Rattle.model.specs.declared.cell.Cell.{Cell}
use Rattle.model.specs.declared.point.Point.{Point}
use Rattle.model.specs.Assignment.{standing, stage_tasks}
use Rattle.model.specs.Allowance.{cost_within}
use Rattle.model.specs.Cell.{least_cost}
use Rattle.model.specs.Plan.{completes, or_neutral, first_from, first_list, allowances_for}
use Rattle.model.proofs.Loops.{first_list_step, first_list_end, first_from_found, first_from_none}
use Rattle.cells.specs.declared.layout.Layout.{Layout}
use Rattle.cells.specs.Memory.{row_costs}
use Rattle.planner.specs.Row.{HoldsLeastCosts}

module _ {C : Type 0} (K : Kind C) (T : Meaning C) (book : Book) (p : Point C) where
  -- the cost of a stage within an allowance
  abbrev pub cost_in_stage : ℕ → ℕ → Option C
  cost_in_stage stage a = cost_within K T (stage_tasks book.tasks stage) a

  -- with this allowance of the minutes left, the stages behind this one still reach the cost
  abbrev pub reaches : ℕ → ℕ → C → ℕ → Bool
  reaches stage left spent a = completes K spent (cost_in_stage stage a) (least_cost K T (drop (stage + 1) (standing book)) (left - a)) p.cost

  abbrev pub NoneBefore : ℕ → ℕ → C → ℕ → Type 0
  NoneBefore stage left spent a = (v : ℕ) → v < a → reaches stage left spent v ≡ false

  -- the list has the allowances before a stage, which leave so many minutes and cost what was spent
  abbrev pub ListedBefore : ℕ → ℕ → C → List ℕ → Type 0
  ListedBefore stage left spent list = take stage list ++ first_list K T (drop stage (standing book)) left spent p.cost ≡ allowances_for K T book p

  -- the test, with the cost behind the stage read off filled cells
  pub reaches_read : {cells : List (Cell C)} {layout : Layout} → HoldsLeastCosts K T book cells layout →
      (stage left a : ℕ) (spent : C) (cost rest : Option C) (passed : Bool) → stage < book.stages → left < layout.width →
      cost ≡ cost_in_stage stage a → rest ≡ row_costs K layout cells (stage + 1) (left - a) → passed ≡ completes K spent cost rest p.cost →
      passed ≡ reaches stage left spent a
  reaches_read filled stage left a spent cost rest passed l m h r e =
      e ∙ ap₂ (λ x y. completes K spent x y p.cost) h (r ∙ filled.each (stage + 1) (left - a) (omega arith) (omega arith))

  -- the first allowance that reaches the cost, or all that is left
  first_is : (stage left a : ℕ) (spent : C) (passed : Bool) → a ≤ left → passed ≡ reaches stage left spent a → (passed ≡ true) ⊎ ((passed ≡ false) × (a ≡ left)) → NoneBefore stage left spent a →
      first_from (reaches stage left spent) 0 left ≡ a
  first_is stage left a spent passed l tested (inl h) before = first_from_found (reaches stage left spent) left a l (sym tested ∙ h) before
  first_is stage left a spent passed l tested (inr h) before = first_from_none (reaches stage left spent) left (λ v k. before v (omega arith)) ∙ sym h.1

  pub spent_more : (stage a : ℕ) (spent share next : C) (cost : Option C) → next ≡ K.join spent share → share ≡ or_neutral K cost → cost ≡ cost_in_stage stage a → next ≡ K.join spent (or_neutral K (cost_in_stage stage a))
  spent_more stage a spent share next cost n s h = n ∙ ap (K.join spent) (s ∙ ap (or_neutral K) h)

  pub listed_more : (list : List ℕ) (stage left a : ℕ) (spent next : C) (passed : Bool) → stage < book.stages → stage < length list → a ≤ left →
      passed ≡ reaches stage left spent a → (passed ≡ true) ⊎ ((passed ≡ false) × (a ≡ left)) → NoneBefore stage left spent a →
      next ≡ K.join spent (or_neutral K (cost_in_stage stage a)) → ListedBefore stage left spent list → ListedBefore (stage + 1) (left - a) next (set list stage a)
  listed_more list stage left a spent next passed l room within tested ended before e so_far =
      let rest : ℕ → C → List ℕ = λ n s. first_list K T (drop (stage + 1) (standing book)) (left - n) s p.cost in
      ap₂ (λ xs s. xs ++ rest a s) (take_more_set list stage a room) e ∙ append_assoc (take stage list) (a ∷ []) _
      ∙ ap (λ n. take stage list ++ (n ∷ rest n (K.join spent (or_neutral K (cost_in_stage stage n))))) (sym (first_is stage left a spent passed within tested ended before))
      ∙ ap (λ xs. take stage list ++ xs) (sym (first_list_step K T book stage left spent p.cost l)) ∙ so_far

  pub listed_all : (list : List ℕ) (stage left : ℕ) (spent : C) → stage ≡ book.stages → ListedBefore stage left spent list → take book.stages list ≡ allowances_for K T book p
  listed_all list stage left spent e so_far =
      let none = ap (λ n. first_list K T (drop n (standing book)) left spent p.cost) e ∙ first_list_end K T book left spent p.cost in
      ap (λ n. take n list) (sym e) ∙ sym (append-nil (take stage list)) ∙ ap (λ xs. take stage list ++ xs) (sym none) ∙ so_far
