-- A quote of a table is that of the first row for the machine and the work, and there is none exactly where no row gives one
use Rattle.std.proofs.Common.{◌≡◌, ℕ, zero, suc, ◌<◌, ◌⊎◌, ◌↔◌, Bool, true, false, cond, ltb, List, [], ◌∷◌, length, Some, None, Option, sym, refl, ap, ◌∙◌, inl, inr, arith}
use Rattle.std.proofs.lemmas.List.Folds.{find_at}
use Rattle.std.proofs.lemmas.List.Quantifiers.{position-Some}
use Rattle.std.proofs.lemmas.Bool.{cond-true, cond-false, lt-ltb, both_ways}
use Rattle.std.proofs.lemmas.Option.{none-some, slice_get_within, get_or_from_slice_get}
use Rattle.std.specs.List.{find, position_or_len, slice_get}
use Rattle.std.specs.Option.{option_map}
use Rattle.costs.specs.declared.grade.Grade.{Grade}
use Rattle.tariffs.specs.declared.quote.Quote.{Quote}
use Rattle.tariffs.specs.declared.row.Row.{Row}
use Rattle.tariffs.specs.Ranges.{some_through, mapped_none}
use Rattle.tariffs.specs.Rows.{bears, no_row, row_at, rows_pass}
use Rattle.tariffs.specs.Table.{row_quote, rows_quote, FirstRowQuotes}

-- where a found row stands
found : (passes : Row → Bool) (rows : List Row) (r : Row) → find passes rows ≡ Some r → (i : ℕ) × (i < length rows) × (row_at rows i ≡ r) × (passes (row_at rows i) ≡ true) × ((k : ℕ) → k < i → passes (row_at rows k) ≡ false)
found passes rows r f =
    let i = position_or_len passes rows in
    let here : slice_get rows i ≡ Some r = sym (find_at passes rows) ∙ f in
    let inside = slice_get_within rows i r here in
    let first = position-Some passes rows i no_row (cond-true (ltb i (length rows)) (Some i) None (lt-ltb i (length rows) inside)) in
    (i, inside, get_or_from_slice_get rows i r no_row here, first.1, first.2)

quote_of_first : (rows : List Row) (machine work : ℕ) (q : Quote Grade) → rows_quote rows machine work ≡ Some q → (i : ℕ) × (i < length rows) × (row_quote (row_at rows i) ≡ q) × (bears (row_at rows i) machine work ≡ true) × ((k : ℕ) → k < i → bears (row_at rows k) machine work ≡ false)
quote_of_first rows machine work q e =
    go (find (λ r. bears r machine work) rows) refl (some_through (rows_pass rows) _ q e).1
  where
    go : (o : Option Row) → find (λ r. bears r machine work) rows ≡ o → option_map row_quote o ≡ Some q → (i : ℕ) × (i < length rows) × (row_quote (row_at rows i) ≡ q) × (bears (row_at rows i) machine work ≡ true) × ((k : ℕ) → k < i → bears (row_at rows k) machine work ≡ false)
    go None f some = absurd (none-some q some)
    go (Some r) f some =
        let at = found (λ r. bears r machine work) rows r f in
        let same : row_quote r ≡ q = cc some in
        (at.0, at.1, ap row_quote at.2 ∙ same, at.3, at.4)

-- where nothing is found, no row passes
abbrev NonePasses : (Row → Bool) → List Row → Type 0
NonePasses passes rows = (k : ℕ) → k < length rows → passes (row_at rows k) ≡ false

none_passes : (passes : Row → Bool) (rows : List Row) → find passes rows ≡ None → NonePasses passes rows
none_passes passes [] e = λ k h. absurd (omega arith)
none_passes passes (r ∷ rows) e = by (passes r) refl e (λ f. none_passes passes rows f)
  where
    by : (b : Bool) → b ≡ passes r → cond b (Some r) (find passes rows) ≡ None → (find passes rows ≡ None → NonePasses passes rows) → NonePasses passes (r ∷ rows)
    by true f e rest k h = absurd (none-some r (sym e))
    by false f e rest zero h = sym f
    by false f e rest (suc k) h = rest e k (omega arith)

nothing_found : (passes : Row → Bool) (rows : List Row) → NonePasses passes rows → find passes rows ≡ None
nothing_found passes [] none = refl
nothing_found passes (r ∷ rows) none =
    cond-false (passes r) _ _ (none 0 (omega arith)) ∙ nothing_found passes rows (λ k h. none (suc k) (omega arith))

unquoted_by : (passed : Bool) (rows : List Row) (passes : Row → Bool) → (cond passed (option_map row_quote (find passes rows)) None ≡ None) ↔ ((passed ≡ false) ⊎ NonePasses passes rows)
unquoted_by false rows passes = ((λ e. inl refl), (λ why. refl))
unquoted_by true rows passes = (
  (λ e. inr (none_passes passes rows (mapped_none row_quote _ e))),
  (λ why. ap (option_map row_quote) (nothing_found passes rows (elim why [ inl failed ↦ absurd (both_ways true failed refl) | inr none ↦ none ]))),
)

pub first_row_quotes : (rows : List Row) → FirstRowQuotes rows
first_row_quotes rows = record {
  quoted = quote_of_first rows;
  unquoted = λ machine work. unquoted_by (rows_pass rows) rows (λ r. bears r machine work);
}
