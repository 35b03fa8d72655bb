-- That the rate card and the quote table keep the ranges of every tariff.
-- These are proofs. They stand here since a tariff hands them over as a part of what it means.
use Rattle.std.specs.Prelude.{◌≡◌, ℕ, suc, ◌+◌, ◌*◌, ◌/◌, ◌%◌, ◌≤◌, Bool, true, false, cond, not, List, [], ◌∷◌, length, is_ok, Some, None, Option, ◌==◌, nat_le, nat_lt, refl}
use Rattle.std.proofs.Common.{sym, ap, subst, ◌∙◌, ⊎_elim, arith, lit≤}
use Rattle.std.proofs.Math.Nat.{div-add-mod}
use Rattle.std.proofs.lemmas.List.{length-take-le}
use Rattle.std.proofs.lemmas.Option.{none-some, slice_get_past}
use Rattle.std.proofs.lemmas.Bool.{cond-true, cond-false, cases_lt, cases_Bool, leb-true, ltb-false, eqb-true, and_parts, or_parts, not-false}
use Rattle.std.specs.Option.{option_map}
use Rattle.std.specs.List.{slice_get}
use Rattle.work.specs.Work.{work_in_range}
use Rattle.costs.specs.declared.cents.Cents.{Cents}
use Rattle.costs.specs.declared.grade.Grade.{Grade}
use Rattle.tariffs.specs.declared.card.RateCard.{RateCard}
use Rattle.tariffs.specs.declared.line.Line.{Line}
use Rattle.tariffs.specs.declared.quote.Quote.{Quote}
use Rattle.tariffs.specs.declared.row.Row.{Row}
use Rattle.tariffs.specs.declared.table.QuoteTable.{QuoteTable}
use Rattle.tariffs.specs.RoundedUp.{rounded_up}
use Rattle.tariffs.specs.Line.{line_time}
use Rattle.tariffs.specs.Card.{lines_of, quote_by, card_meaning}
use Rattle.tariffs.specs.First.{find, position}
use Rattle.tariffs.specs.Rows.{bad_row, rows_verdict, rows_pass, bears}
use Rattle.tariffs.specs.Table.{row_quote, rows_quote, table_meaning}
use Rattle.tariffs.specs.Meaning.{Ranged}

-- Options that a test lets through

pub some_through : {A : Type 0} (b : Bool) (o : Option A) (x : A) → cond b o None ≡ Some x → (b ≡ true) × (o ≡ Some x)
some_through true o x e = (refl, e)
some_through false o x e = absurd (none-some x e)

pub none_through : {A : Type 0} (b : Bool) (o : Option A) → o ≡ None → cond b o None ≡ None
none_through true o e = e
none_through false o e = refl

-- The rate card

pub length_lines : (card : RateCard) → length (lines_of card) ≡ card.count
length_lines card = length-take-le card.count card.lines (omega arith)

-- an amount covered by at least one part
some_rounded : (amount part : ℕ) → 1 ≤ amount → 1 ≤ part → 1 ≤ rounded_up amount part
some_rounded a b p q =
    ⊎_elim
    (λ z. let none : a / b ≡ 0 = omega arith in let d : b * 0 + a % b ≡ a = rw none at (div-add-mod a b) in omega arith)
    (λ h. omega arith)
    (cases_lt (a / b) 1)

line_timed : (o : Option Line) (work : ℕ) (q : Quote Cents) → 1 ≤ work → quote_by o work ≡ Some q → (1 ≤ q.minutes) × (q.minutes ≤ 1440)
line_timed None work q h e = absurd (none-some q e)
line_timed (Some l) work q h e =
    let t = some_through (nat_le (line_time l work) 1440) _ q e in
    let same : line_time l work ≡ q.minutes = cc t.1 in
    (omega (arith, some_rounded work l.speed h l.moving), omega (arith, leb-true _ _ t.0))

pub card_ranged : (card : RateCard) → Ranged (card_meaning card)
card_ranged card = record {
  few = omega (arith, length_lines card);
  listed = λ machine work past.
      none_through (work_in_range work) _ (ap (λ o. quote_by o work) (slice_get_past (lines_of card) machine past));
  worked = λ machine work bad. cond-false (work_in_range work) _ _ bad;
  timed = λ machine work q some.
      let t = some_through (work_in_range work) (quote_by (slice_get (lines_of card) machine) work) q some in
      let w = and_parts (nat_le 1 work) (nat_le work 1000000) t.0 in
      line_timed (slice_get (lines_of card) machine) work q (leb-true 1 work w.0) t.1;
}

-- The quote table

-- what a row that is not bad has
record Good (r : Row) : Type 0 where
  machine : r.machine ≤ 31
  work : work_in_range r.work ≡ true
  time : (1 ≤ r.minutes) × (r.minutes ≤ 1440)

good : (r : Row) → bad_row r ≡ false → Good r
good r e =
    let m = or_parts (nat_lt 31 r.machine) _ e in
    let w = or_parts (not (work_in_range r.work)) _ m.1 in
    let s = or_parts (nat_lt r.minutes 1) _ w.1 in
    let t = or_parts (nat_lt 1440 r.minutes) _ s.1 in
    record {
      machine = ltb-false _ _ m.0;
      work = not-false _ w.0;
      time = (ltb-false _ _ s.0, ltb-false _ _ t.0);
    }

pub mapped_none : {A B : Type 0} (f : A → B) (o : Option A) → option_map f o ≡ None → o ≡ None
mapped_none f None e = refl
mapped_none f (Some x) e = absurd (none-some (f x) (sym e))

-- what a found row has, among rows of which none is bad
found_good : (rows : List Row) (passes : Row → Bool) (r : Row) → position bad_row rows ≡ None → find passes rows ≡ Some r → Good r × (passes r ≡ true)
found_good [] passes r none e = absurd (none-some r e)
found_good (x ∷ xs) passes r none e =
    ⊎_elim
    (λ bad. absurd (none-some {A = ℕ} 0 (sym none ∙ cond-true (bad_row x) _ _ bad)))
    (λ fine.
    ⊎_elim
    (λ here.
    let same : x ≡ r = cc (sym (cond-true (passes x) (Some x) (find passes xs) here) ∙ e) in
    subst (λ (y : Row). Good y × (passes y ≡ true)) same (good x fine, here))
    (λ later.
    found_good xs passes r (mapped_none suc _ (sym (cond-false (bad_row x) (Some 0) _ fine) ∙ none)) (sym (cond-false (passes x) _ _ later) ∙ e))
    (cases_Bool (passes x)))
    (cases_Bool (bad_row x))

-- no row is bad where the check passes
none_bad : (rows : List Row) (o : Option ℕ) → position bad_row rows ≡ o → rows_pass rows ≡ true → o ≡ None
none_bad rows None e passed = refl
none_bad rows (Some i) e passed =
    let failed : rows_pass rows ≡ false = ap (λ o. is_ok (rows_verdict (length rows) o)) e in
    let z : ◌≡◌ {A = ℕ} 0 1 = cc in
    absurd (omega arith)

-- the row behind a quote
record Quoted (rows : List Row) (machine work : ℕ) (q : Quote Grade) : Type 0 where
  row : Row
  fine : Good row
  for : bears row machine work ≡ true
  same : row_quote row ≡ q

quoted : (rows : List Row) (machine work : ℕ) (q : Quote Grade) → rows_quote rows machine work ≡ Some q → Quoted rows machine work q
quoted rows machine work q e =
    let t = some_through (rows_pass rows) _ q e in
    go (find (λ r. bears r machine work) rows) refl (none_bad rows (position bad_row rows) refl t.0) t.1
  where
    go : (o : Option Row) → find (λ r. bears r machine work) rows ≡ o → position bad_row rows ≡ None → option_map row_quote o ≡ Some q → Quoted rows machine work q
    go None f none e = absurd (none-some q e)
    go (Some r) f none e =
        let g = found_good rows (λ r. bears r machine work) r none f in
        record { row = r; fine = g.0; for = g.1; same = cc }

-- a quote that nothing can be behind is none
not_quoted : (rows : List Row) (machine work : ℕ) (o : Option (Quote Grade)) → rows_quote rows machine work ≡ o → ((q : Quote Grade) → Quoted rows machine work q → ⊥) → o ≡ None
not_quoted rows machine work None e never = refl
not_quoted rows machine work (Some q) e never = absurd (never q (quoted rows machine work q e))

pub table_ranged : (table : QuoteTable) → Ranged (table_meaning table)
table_ranged table = record {
  few = lit≤ tt;
  listed = λ machine work past.
      not_quoted table.rows.now machine work _ refl (λ q b.
      let same = eqb-true _ _ (and_parts (b.row.machine == machine) _ b.for).0 in
      omega (arith, b.fine.machine));
  worked = λ machine work bad.
      not_quoted table.rows.now machine work _ refl (λ q b.
      let same = eqb-true _ _ (and_parts (b.row.machine == machine) _ b.for).1 in
      let fine : work_in_range work ≡ true = ap work_in_range (sym same) ∙ b.fine.work in
      let z : ◌≡◌ {A = ℕ} 0 1 = cc in
      omega arith);
  timed = λ machine work q some.
      let b = quoted table.rows.now machine work q some in
      subst (λ (p : Quote Grade). (1 ≤ p.minutes) × (p.minutes ≤ 1440)) b.same b.fine.time;
}
