-- Rows filled from the last to the first
use Rattle.std.proofs.Common.{◌≡◌, ℕ, zero, suc, ◌+◌, ◌-◌, ◌<◌, ◌≤◌, min, zero-le, Bool, true, false, cond, ◌&&◌, leb, List, length, take, drop, Some, None, Ok, Option, sym, refl, ap, ◌∙◌, subst, ap₂, inl, inr, arith}
use Rattle.std.proofs.lemmas.List.{take-append-drop}
use Rattle.std.proofs.lemmas.Bool.{and_right, lt-leb, cases_eq, cases_lt}
use Rattle.refusals.specs.Answer.{Answer, refused_if}
use Rattle.costs.specs.Kind.{Kind, Laws}
use Rattle.tariffs.specs.Meaning.{Meaning, Ranged}
use Rattle.sheets.specs.Book.{Book}
use Rattle.sheets.specs.declared.task.Task.{Task}
use Rattle.model.specs.declared.cell.Cell.{Cell}
use Rattle.model.specs.Assignment.{stage_tasks, standing}
use Rattle.model.specs.Allowance.{joined, cheaper, cheapest_of, cost_within, cost_until, greatest_time, is_time}
use Rattle.model.specs.Cell.{cell_of, cost_in, cell, least_cost, span, width}
use Rattle.model.specs.Question.{filled}
use Rattle.model.proofs.Loops.{cost_in_cell, cheapest_of_same, last_cell, cell_by_times, greatest_time_bound, stages_step}
use Rattle.model.proofs.LeastCosts.{beyond, falling}
use Rattle.model.proofs.Spans.{span_append}
use Rattle.model.proofs.Tables.{filled_by_places}
use Rattle.cells.specs.declared.layout.Layout.{Layout}
use Rattle.cells.specs.Layout.{layout_of, size}
use Rattle.cells.specs.Memory.{up_to, cell_at, row_costs, lowered, lowered_row, offer_before, stage_row, RowWritten, Falling, if_less}
use Rattle.cells.proofs.Drops.{no_less, falling_like}
use Rattle.cells.proofs.Rows.{lowered_cheaper, written_as, written_then}
use Rattle.cells.proofs.UpTo.{up_to_before, up_to_from, up_to_like}

cheapest_of_like : {C : Type 0} (K : Kind C) (f g : ℕ → Option C) → ((a : ℕ) → f a ≡ g a) → (n : ℕ) → cheapest_of K f n ≡ cheapest_of K g n
cheapest_of_like {C = C} K f g same zero = refl
cheapest_of_like {C = C} K f g same (suc n) = ap₂ (λ (x y : Option C). cheaper K x y) (cheapest_of_like K f g same n) (same n)

-- the cheapest of more costs, where there are none
cheapest_of_past : {C : Type 0} (K : Kind C) (f : ℕ → Option C) (n d : ℕ) → ((a : ℕ) → n ≤ a → a < n + d → f a ≡ None) → cheapest_of K f (n + d) ≡ cheapest_of K f n
cheapest_of_past K f n zero none = ap (cheapest_of K f) (let e : n + 0 ≡ n = omega arith in e)
cheapest_of_past {C = C} K f n (suc d) none =
    ap (cheapest_of K f) (let e : n + suc d ≡ suc (n + d) = omega arith in e)
    ∙ ap (λ (o : Option C). cheaper K (cheapest_of K f (n + d)) o) (none (n + d) (omega arith) (omega arith))
    ∙ cheaper_none (cheapest_of K f (n + d))
    ∙ cheapest_of_past K f n d (λ a k l. none a k (omega arith))
  where
    cheaper_none : (o : Option C) → cheaper K o None ≡ o
    cheaper_none None = refl
    cheaper_none (Some c) = refl

module _ {C : Type 0} (K : Kind C) (T : Meaning C) (tasks : List Task) where
  -- costs behind that are the same give the same row
  pub stage_row_like : (rest other : ℕ → Option C) (n t : ℕ) → ((u : ℕ) → u ≤ t → rest u ≡ other u) → stage_row K T tasks rest n t ≡ stage_row K T tasks other n t
  stage_row_like rest other n t same = ap (cell_of K) (cheapest_of_like K _ _ (λ a. ap (λ (o : Option C). cond (leb a t && is_time T tasks a) (joined K (cost_within K T tasks a) o) None) (same (t - a) (omega arith))) n)

  -- times past a cell's minutes offer it nothing
  pub stage_row_past : (rest : ℕ → Option C) (n m t : ℕ) → n ≤ m → ((a : ℕ) → n ≤ a → a < m → t < a) → stage_row K T tasks rest n t ≡ stage_row K T tasks rest m t
  stage_row_past rest n m t within past =
      ap (cell_of K)
      (sym (cheapest_of_past K (offer_before K T tasks rest t) n (m - n) (λ a k l. ap (λ (b : Bool). cond (b && is_time T tasks a) (joined K (cost_within K T tasks a) (rest (t - a))) None) (lt-leb a t (past a k (omega arith)))))
      ∙ ap (cheapest_of K (offer_before K T tasks rest t)) (let e : n + (m - n) ≡ m = omega arith in e))

  -- nothing tried yet
  pub row_begun : {layout : Layout} {stage : ℕ} {before after : List (Cell C)} (rest : ℕ → Option C) (end : ℕ) → RowWritten K layout stage (up_to 0 (cell_at K layout before stage) (λ _. cell_of K None)) before after
      → RowWritten K layout stage (up_to end (stage_row K T tasks rest 0) (cell_at K layout after stage)) after after
  row_begun {layout} {stage} {before} {after} rest end w = record {
    here = λ t l. elim (cases_lt t end) [
      | inl m ↦ w.here t l ∙ up_to_from (cell_at K layout before stage) (λ _. cell_of K None) 0 t zero-le ∙ sym (up_to_before (stage_row K T tasks rest 0) (cell_at K layout after stage) end t m)
      | inr m ↦ sym (up_to_from (stage_row K T tasks rest 0) (cell_at K layout after stage) end t m)
    ];
    elsewhere = λ j t l n m. refl;
    past = refl;
  }

  -- times below a tried, in the cells before the end
  module _ {layout : Layout} {stage : ℕ} {before after : List (Cell C)} (rest : ℕ → Option C) (end : ℕ) (old : ℕ → Cell C) (a : ℕ) (w : RowWritten K layout stage (up_to end (stage_row K T tasks rest a) old) before after) where
    row_kept : ((t : ℕ) → t < end → cheapest_of K (offer_before K T tasks rest t) (suc a) ≡ cheapest_of K (offer_before K T tasks rest t) a) → RowWritten K layout stage (up_to end (stage_row K T tasks rest (a + 1)) old) before after
    row_kept kept = written_as w (λ t _. up_to_like (stage_row K T tasks rest a) (stage_row K T tasks rest (a + 1)) old end
        (λ t l. ap (cell_of K) (sym (kept t l) ∙ ap (cheapest_of K (offer_before K T tasks rest t)) (let n : suc a ≡ a + 1 = omega arith in n))) t)

    -- a time at which the stage offers nothing
    pub row_untimed : is_time T tasks a ≡ false → RowWritten K layout stage (up_to end (stage_row K T tasks rest (a + 1)) old) before after
    row_untimed e = row_kept (λ t _. cheapest_of_same K T (offer_before K T tasks rest t) a (ap (λ (b : Bool). cond b (joined K (cost_within K T tasks a) (rest (t - a))) None) (and_right (leb a t) _ e)))

    -- a time at which it costs no less than before
    pub row_no_less : Laws K → Ranged T → end ≤ layout.width → Falling K layout.width rest → if_less K (cost_until K T tasks a) (cost_within K T tasks a) ≡ None
        → RowWritten K layout stage (up_to end (stage_row K T tasks rest (a + 1)) old) before after
    row_no_less L F short falling e = row_kept (λ t l. no_less L T F tasks rest layout.width t a falling (omega arith) e)

    -- a time at which it has a cost
    pub row_lowered : {lower : List (Cell C)} (cost : C) → ((u : ℕ) → u < layout.width → row_costs K layout after (stage + 1) u ≡ rest u) → is_time T tasks a ≡ true → cost_within K T tasks a ≡ Some cost
        → RowWritten K layout stage (up_to end (lowered_row K layout after stage a cost) (cell_at K layout after stage)) after lower → RowWritten K layout stage (up_to end (stage_row K T tasks rest (a + 1)) old) before lower
    row_lowered cost behind e f v = written_as (written_then w v) (λ t l. elim (cases_lt t end) [
      | inl m ↦ up_to_before (lowered_row K layout after stage a cost) (cell_at K layout after stage) end t m
          ∙ ap₂ (λ (cell : Cell C) (o : Option C). lowered K cell o) (w.here t l ∙ up_to_before (stage_row K T tasks rest a) old end t m) (offered t l)
          ∙ lowered_cheaper K (cheapest_of K (offer_before K T tasks rest t) a) (offer_before K T tasks rest t a)
          ∙ ap (λ (n : ℕ). stage_row K T tasks rest n t) (let n : suc a ≡ a + 1 = omega arith in n)
          ∙ sym (up_to_before (stage_row K T tasks rest (a + 1)) old end t m)
      | inr m ↦ up_to_from (lowered_row K layout after stage a cost) (cell_at K layout after stage) end t m
          ∙ w.here t l
          ∙ up_to_from (stage_row K T tasks rest a) old end t m
          ∙ sym (up_to_from (stage_row K T tasks rest (a + 1)) old end t m)
    ])
      where
        offered : (t : ℕ) → t < layout.width → cond (leb a t) (joined K (Some cost) (row_costs K layout after (stage + 1) (t - a))) None ≡ offer_before K T tasks rest t a
        offered t l =
            ap₂ (λ (o u : Option C). cond (leb a t) (joined K o u) None) (sym f) (behind (t - a) (omega arith))
            ∙ sym (ap (λ (b : Bool). cond (leb a t && b) (joined K (cost_within K T tasks a) (rest (t - a))) None) e ∙ both (leb a t))
          where
            both : (b : Bool) → cond (b && true) (joined K (cost_within K T tasks a) (rest (t - a))) None ≡ cond b (joined K (cost_within K T tasks a) (rest (t - a))) None
            both true = refl
            both false = refl

-- the cells behind a minute written as the one at it
pub row_extended : {C : Type 0} (K : Kind C) {layout : Layout} {stage : ℕ} {before after done : List (Cell C)} (row full old : ℕ → Cell C) (longest : ℕ) (last : Cell C) → longest < layout.width → last ≡ cell_at K layout after stage longest
    → ((t : ℕ) → t ≤ longest → row t ≡ full t) → RowWritten K layout stage (up_to (longest + 1) row old) before after → RowWritten K layout stage (up_to (longest + 1) (cell_at K layout after stage) (λ _. last)) after done
    → RowWritten K layout stage (λ t. full (min t longest)) before done
row_extended K {layout} {stage} {before} {after} row full old longest last short e same w v = written_as (written_then w v) (λ t l. elim (cases_lt t (longest + 1)) [
  | inl m ↦ up_to_before (cell_at K layout after stage) (λ _. last) (longest + 1) t m
      ∙ w.here t l
      ∙ up_to_before row old (longest + 1) t m
      ∙ same t (omega arith)
      ∙ ap full (let n : t ≡ min t longest = omega arith in n)
  | inr m ↦ up_to_from (cell_at K layout after stage) (λ _. last) (longest + 1) t m
      ∙ e
      ∙ w.here longest short
      ∙ up_to_before row old (longest + 1) longest (omega arith)
      ∙ same longest (omega arith)
      ∙ ap full (let n : longest ≡ min t longest = omega arith in n)
])

pub enough_if_made : {A : Type 0} (few : Bool) (a made : A) → ◌≡◌ {A = Answer A} (Ok a) (refused_if few 7 (Ok made)) → (few ≡ false) × (a ≡ made)
enough_if_made true a made e = cc
enough_if_made false a made e = (refl, cc)

-- the greatest length of the stages from one on
module _ {C : Type 0} (T : Meaning C) (book : Book) where
  longest_more : (j : ℕ) → j < book.stages → span T (drop j (standing book)) ≡ greatest_time T (stage_tasks book.tasks j) + span T (drop (j + 1) (standing book))
  longest_more j l = ap (span T) (stages_step book j l)

  pub longest_from : (stage longest time : ℕ) → 0 < stage → stage ≤ book.stages → longest ≡ span T (drop stage (standing book)) → time ≡ greatest_time T (stage_tasks book.tasks (stage - 1))
      → longest + time ≡ span T (drop (stage - 1) (standing book))
  longest_from stage longest time some known e t =
      let more = longest_more (stage - 1) (omega arith) in
      let next = ap (λ (n : ℕ). span T (drop n (standing book))) (let n : stage - 1 + 1 ≡ stage = omega arith in n) in
      omega arith

  pub longest_short : (j : ℕ) → span T (drop j (standing book)) < width T book
  longest_short j = let all = ap (span T) (sym (take-append-drop j (standing book))) ∙ span_append T (take j (standing book)) (drop j (standing book)) in omega (arith, all)

-- the rows of the stages from j on hold what they should, and memory past the cells is as it was
pub record FilledFrom {C : Type 0} (K : Kind C) (T : Meaning C) (book : Book) (layout : Layout) (from : ℕ) (before after : List (Cell C)) : Type 0 where
  pub rows : (j t : ℕ) → from ≤ j → j ≤ layout.stages → t < layout.width → cell_at K layout after j t ≡ cell K T book j t
  pub past : drop (size layout) after ≡ drop (size layout) before

module _ {C : Type 0} {K : Kind C} (L : Laws K) (T : Meaning C) (F : Ranged T) (book : Book) where
  -- a row that was filled falls
  pub filled_falls : {layout : Layout} {before after : List (Cell C)} (j : ℕ) → j ≤ layout.stages → FilledFrom K T book layout j before after → Falling K layout.width (row_costs K layout after j)
  filled_falls {layout} {before} {after} j known h =
      falling_like K layout.width (least_cost K T (drop j (standing book))) (row_costs K layout after j)
      (λ u l. sym (ap (λ (c : Cell C). cost_in c) (h.rows j u (omega arith) known l) ∙ cost_in_cell K (least_cost K T (drop j (standing book)) u)))
      (λ t u c l m e. falling L T F (drop j (standing book)) t u c e l)

  last_row : {before after : List (Cell C)} (cell : Cell C) → cell ≡ cell_of K (Some K.neutral)
      → RowWritten K (layout_of T book) book.stages (up_to 0 (cell_at K (layout_of T book) before book.stages) (λ _. cell)) before after → FilledFrom K T book (layout_of T book) book.stages after after
  last_row {before} {after} last e w = record {
    rows = λ j t l m n. let i : j ≡ book.stages = omega arith in
        ap (λ (k : ℕ). cell_at K (layout_of T book) after k t) i ∙ w.here t n ∙ up_to_from (cell_at K (layout_of T book) before book.stages) (λ _. last) 0 t zero-le ∙ e ∙ sym (last_cell L T F book t) ∙ ap (λ (k : ℕ). cell K T book k t) (sym i);
    past = refl;
  }

  module _ {before between after : List (Cell C)} (j : ℕ) (known : j < book.stages) (h : FilledFrom K T book (layout_of T book) (j + 1) before between)
      (longest : ℕ) (spanned : longest ≡ span T (drop j (standing book)))
      (w : RowWritten K (layout_of T book) j (λ t. stage_row K T (stage_tasks book.tasks j) (row_costs K (layout_of T book) between (j + 1)) 1441 (min t longest)) between after) where
    behind : (u : ℕ) → u < width T book → row_costs K (layout_of T book) between (j + 1) u ≡ least_cost K T (drop (j + 1) (standing book)) u
    behind u l = ap (λ (c : Cell C). cost_in c) (h.rows (j + 1) u (omega arith) (omega arith) l) ∙ cost_in_cell K (least_cost K T (drop (j + 1) (standing book)) u)

    filled_to : (t : ℕ) → t < width T book → stage_row K T (stage_tasks book.tasks j) (row_costs K (layout_of T book) between (j + 1)) 1441 t ≡ cell K T book j t
    filled_to t l =
        stage_row_like K T (stage_tasks book.tasks j) (row_costs K (layout_of T book) between (j + 1)) (least_cost K T (drop (j + 1) (standing book))) 1441 t (λ u m. behind u (omega arith))
        ∙ sym (cell_by_times L T F book j t 1441 known (omega (arith, greatest_time_bound T F (stage_tasks book.tasks j))))

    -- a cell past the longest assignment is the one at its length
    past_longest : (t : ℕ) → cell K T book j (min t longest) ≡ cell K T book j t
    past_longest t = elim (cases_lt t longest) [
      | inl m ↦ ap (cell K T book j) (let n : min t longest ≡ t = omega arith in n)
      | inr m ↦ ap (cell K T book j) ((let n : min t longest ≡ longest = omega arith in n) ∙ spanned) ∙ sym (ap (cell_of K) (beyond L T F (drop j (standing book)) t (omega arith)))
    ]

    here : (t : ℕ) → t < width T book → cell_at K (layout_of T book) after j t ≡ cell K T book j t
    here t l = w.here t l ∙ filled_to (min t longest) (omega arith) ∙ past_longest t

    row_more : FilledFrom K T book (layout_of T book) j before after
    row_more = record {
      rows = λ i t l m n. elim (cases_eq i j) [
        | inl e ↦ ap (λ (k : ℕ). cell_at K (layout_of T book) after k t) e ∙ here t n ∙ ap (λ (k : ℕ). cell K T book k t) (sym e)
        | inr d ↦ w.elsewhere i t m d n ∙ h.rows i t (omega arith) m n
      ];
      past = w.past ∙ h.past;
    }

  all_rows : {before after : List (Cell C)} → size (layout_of T book) ≤ length after → FilledFrom K T book (layout_of T book) 0 before after → after ≡ filled K T book before
  all_rows {before} {after} room h = filled_by_places K T book before after (cell_of K None) room (λ j t l m. h.rows j t (omega arith) l m) h.past

  -- the same at a layout that is equal
  module _ (layout : Layout) (e : layout ≡ layout_of T book) {before after : List (Cell C)} where
    pub filled_last : (cell : Cell C) → cell ≡ cell_of K (Some K.neutral) → RowWritten K layout layout.stages (up_to 0 (cell_at K layout before layout.stages) (λ _. cell)) before after → FilledFrom K T book layout layout.stages after after
    filled_last = subst (λ (l : Layout). (cell : Cell C) → cell ≡ cell_of K (Some K.neutral) → RowWritten K l l.stages (up_to 0 (cell_at K l before l.stages) (λ _. cell)) before after → FilledFrom K T book l l.stages after after) (sym e) last_row

    pub filled_more : {between : List (Cell C)} (j : ℕ) → j < layout.stages → FilledFrom K T book layout (j + 1) before between → (longest : ℕ) → longest ≡ span T (drop j (standing book))
        → RowWritten K layout j (λ t. stage_row K T (stage_tasks book.tasks j) (row_costs K layout between (j + 1)) 1441 (min t longest)) between after → FilledFrom K T book layout j before after
    filled_more {between} = subst (λ (l : Layout). (j : ℕ) → j < l.stages → FilledFrom K T book l (j + 1) before between → (longest : ℕ) → longest ≡ span T (drop j (standing book))
        → RowWritten K l j (λ t. stage_row K T (stage_tasks book.tasks j) (row_costs K l between (j + 1)) 1441 (min t longest)) between after → FilledFrom K T book l j before after) (sym e) row_more

    pub filled_all : size layout ≤ length after → FilledFrom K T book layout 0 before after → after ≡ filled K T book before
    filled_all = subst (λ (l : Layout). size l ≤ length after → FilledFrom K T book l 0 before after → after ≡ filled K T book before) (sym e) all_rows
