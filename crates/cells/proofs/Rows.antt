-- Rows written cell by cell, and one after another
use Rattle.std.proofs.Common.{◌≡◌, ℕ, ◌+◌, ◌<◌, ◌≤◌, true, false, cond, not, List, length, set, Some, None, Option, sym, refl, ap, ◌∙◌, inl, inr, le_trans, arith}
use Rattle.std.proofs.lemmas.List.{get_or-set_same, get_or-set_other, drop-set-lt}
use Rattle.std.proofs.lemmas.Bool.{cases_eq}
use Rattle.costs.specs.Kind.{Kind}
use Rattle.model.specs.declared.cell.Cell.{Cell}
use Rattle.model.specs.Allowance.{cheaper}
use Rattle.model.specs.Cell.{cell_of}
use Rattle.cells.specs.declared.layout.Layout.{Layout}
use Rattle.cells.specs.Layout.{place_in, size}
use Rattle.cells.specs.Memory.{up_to, cell_at, RowWritten, lowered}
use Rattle.cells.proofs.Places.{place_inside, place_apart}
use Rattle.cells.proofs.UpTo.{up_to_before, up_to_from, up_to_other}

-- lowering a cell keeps the cheaper cost
pub lowered_cheaper : {C : Type 0} (K : Kind C) (o u : Option C) → lowered K (cell_of K o) u ≡ cell_of K (cheaper K o u)
lowered_cheaper K None None = refl
lowered_cheaper K (Some c) None = refl
lowered_cheaper K None (Some d) = refl
lowered_cheaper K (Some c) (Some d) = elim (K.at_most c d) as (λ b. cond (not b) (cell_of K (Some d)) (cell_of K (Some c)) ≡ cell_of K (cond b (Some c) (Some d))) [ true ↦ refl | false ↦ refl ]

module _ {C : Type 0} {K : Kind C} {layout : Layout} {stage : ℕ} where
  -- the same row, said in another way
  pub written_as : {row other : ℕ → Cell C} {before after : List (Cell C)} → RowWritten K layout stage row before after → ((t : ℕ) → t < layout.width → row t ≡ other t) → RowWritten K layout stage other before after
  written_as w same = record { here = λ t l. w.here t l ∙ same t l; elsewhere = w.elsewhere; past = w.past }

  -- written again over what was written
  pub written_then : {row other : ℕ → Cell C} {before between after : List (Cell C)} → RowWritten K layout stage row before between → RowWritten K layout stage other between after → RowWritten K layout stage other before after
  written_then w v = record {
    here = v.here;
    elsewhere = λ j t l n m. v.elsewhere j t l n m ∙ w.elsewhere j t l n m;
    past = v.past ∙ w.past;
  }

  -- one cell more
  module _ {before after : List (Cell C)} (m : ℕ) (cell : Cell C) (known : stage ≤ layout.stages) (short : m < layout.width) (room : size layout ≤ length after) where
    pub written_at : {row other : ℕ → Cell C} → RowWritten K layout stage row before after → other m ≡ cell → ((t : ℕ) → (t ≡ m → ⊥) → other t ≡ row t) → RowWritten K layout stage other before (set after (place_in layout stage m) cell)
    written_at {row} {other} w new old = record {
      here = λ t l. elim (cases_eq t m) [
        | inl e ↦ ap (λ (u : ℕ). cell_at K layout (set after (place_in layout stage m) cell) stage u) e
            ∙ get_or-set_same after (place_in layout stage m) cell (cell_of K None) (le_trans (place_inside layout stage m known short) room)
            ∙ sym new
            ∙ ap other (sym e)
        | inr n ↦ get_or-set_other after (place_in layout stage m) (place_in layout stage t) cell (cell_of K None) (λ e. n (place_apart layout stage t stage m known known l short e).1)
            ∙ w.here t l
            ∙ sym (old t n)
      ];
      elsewhere = λ j t k n l.
          get_or-set_other after (place_in layout stage m) (place_in layout j t) cell (cell_of K None) (λ e. n (place_apart layout j t stage m k known l short e).0)
          ∙ w.elsewhere j t k n l;
      past = drop-set-lt (size layout) after (place_in layout stage m) cell (place_inside layout stage m known short) ∙ w.past;
    }

-- a row written from its start
module _ {C : Type 0} {K : Kind C} {layout : Layout} {stage : ℕ} {before : List (Cell C)} (new : ℕ → Cell C) where
  module _ {after : List (Cell C)} (m : ℕ) (w : RowWritten K layout stage (up_to m new (cell_at K layout before stage)) before after) where
    -- what is not written yet is as it was
    pub still : m < layout.width → cell_at K layout after stage m ≡ cell_at K layout before stage m
    still l = w.here m l ∙ up_to_from new (cell_at K layout before stage) m m (omega arith)

    pub written_more : (cell : Cell C) → stage ≤ layout.stages → m < layout.width → size layout ≤ length after → new m ≡ cell
        → RowWritten K layout stage (up_to (m + 1) new (cell_at K layout before stage)) before (set after (place_in layout stage m) cell)
    written_more cell known short room e = written_at m cell known short room w (up_to_before new (cell_at K layout before stage) (m + 1) m (omega arith) ∙ e) (up_to_other new (cell_at K layout before stage) m)

    pub written_past : new m ≡ cell_at K layout before stage m → RowWritten K layout stage (up_to (m + 1) new (cell_at K layout before stage)) before after
    written_past e = written_as w (λ t l. elim (cases_eq t m) [
      | inl k ↦ ap (up_to m new (cell_at K layout before stage)) k ∙ up_to_from new (cell_at K layout before stage) m m (omega arith) ∙ sym e
          ∙ sym (up_to_before new (cell_at K layout before stage) (m + 1) m (omega arith)) ∙ ap (up_to (m + 1) new (cell_at K layout before stage)) (sym k)
      | inr n ↦ sym (up_to_other new (cell_at K layout before stage) m t n)
    ])
