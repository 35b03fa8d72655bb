-- A card read line by line
use Rattle.std.proofs.Common.{◌≡◌, ℕ, ◌+◌, ◌<◌, ◌≤◌, true, false, not, ltb, List, [], ◌∷◌, ◌++◌, map, length, get_or, take, Ok, Err, sym, ap, ◌∙◌, arith}
use Rattle.std.proofs.lemmas.List.{length-take, length-take-le, length-map, get_or-take, take_all, take_more, map-append}
use Rattle.std.proofs.lemmas.Bool.{cond-true, cond-false, lt-ltb, le-ltb}
use Rattle.std.proofs.lemmas.Option.{slice_get-get_or}
use Rattle.std.specs.List.{slice_get}
use Rattle.std.specs.Prelude.{Option, Some, None, Result}
use Rattle.std.specs.Result.{MatchResult}
use Rattle.refusals.specs.Answer.{Answer, Refused, answer_of, carrying}
use Rattle.tariffs.specs.declared.refusal.CardRefusal.{CardRefusal}
use Rattle.tariffs.specs.declared.refusal.CardRefusal.TheVariants.{Full, OutOfRange}
use Rattle.tariffs.specs.Refusal.{card_told}
use Rattle.hire.specs.declared.refusal.HireRefusal.{HireRefusal}
use Rattle.hire.specs.Refusal.{hire_told}
use Rattle.tariffs.specs.declared.line.Line.{Line}
use Rattle.tariffs.specs.Card.{add_answer}
use Rattle.tariffs.specs.Line.{line_in_range}
use Rattle.tariffs.proofs.Cards.{full, outside, obeyed, added, refusal_number}
use Rattle.tariffs.proofs.Firsts.{Sought, sought_more, sought_here, sought_all}
use Rattle.hire.specs.declared.terms.Terms.{Terms}
use Rattle.hire.specs.Hire.{terms_line, out_of_range, speed_argument, bad_argument, told_at, card_verdict, card_answer}

-- the first machines' terms are read, none of them refused
pub record Reading (terms : List Terms) (lines : List Line) (i : ℕ) : Type 0 where
  pub so_far : lines ≡ map terms_line (take i terms)
  pub few : i ≤ 32
  pub fine : Sought out_of_range (take 32 terms) i

module _ (terms : List Terms) (lines : List Line) (i : ℕ) (d : Terms) (reading : Reading terms lines i) where
  module _ (h : i < length terms) where
    length_so_far : length lines ≡ i
    length_so_far = ap length reading.so_far ∙ length-map (take i terms) terms_line ∙ length-take-le i terms (omega arith)

    within : i < 32 → i < length (take 32 terms)
    within few = simp length-take (omega arith)

    here : i < 32 → get_or (take 32 terms) i d ≡ get_or terms i d
    here few = get_or-take 32 terms i d few

    reading_full : 32 ≤ length lines → ◌≡◌ {A = Answer (List Line)} (Err (carrying 4 (speed_argument i))) (card_answer terms)
    reading_full past =
        let last : i ≡ 32 = let l = length_so_far in let f = reading.few in omega arith in
        let cut : length (take 32 terms) ≤ i = simp length-take (omega arith) in
        let none = sought_all out_of_range (take 32 terms) i cut reading.fine in
        let many : 32 < length terms = omega arith in
        ap (λ n. Err (carrying 4 (speed_argument n))) last
        ∙ sym (ap (card_verdict terms) none ∙ cond-true (ltb 32 (length terms)) _ _ (lt-ltb 32 (length terms) many))

    reading_outside : length lines < 32 → line_in_range (get_or terms i d).speed (get_or terms i d).rate ≡ false → ◌≡◌ {A = Answer (List Line)} (Err (carrying 5 (bad_argument i (get_or terms i d)))) (card_answer terms)
    reading_outside room bad =
        let few : i < 32 = let l = length_so_far in omega arith in
        let found = sought_here out_of_range (take 32 terms) i d (within few) (ap out_of_range (here few) ∙ ap not bad) reading.fine in
        let there : slice_get terms i ≡ Some (get_or terms i d) = slice_get-get_or terms i d h in
        sym (ap (card_verdict terms) found ∙ ap (λ (o : Option Terms). Err (carrying 5 (elim o [ Some t ↦ bad_argument i t | None ↦ speed_argument i ]))) there)

    -- what is told of a refused line is the answer
    reading_refused : (refusal : CardRefusal) → Err (card_told refusal) ≡ add_answer lines (get_or terms i d).speed (get_or terms i d).rate → ◌≡◌ {A = Answer (List Line)} (Err (told_at refusal i (get_or terms i d))) (card_answer terms)
    reading_refused Full e =
        elim (added lines (get_or terms i d).speed (get_or terms i d).rate) [
          | full past f ↦ reading_full past
          | outside room bad f ↦ let z : ◌≡◌ {A = ℕ} 4 5 = ap refusal_number (e ∙ f) in absurd (omega arith)
          | obeyed room fine f ↦ let z : ◌≡◌ {A = ℕ} 0 1 = cc (e ∙ f) in absurd (omega arith)
        ]
    reading_refused OutOfRange e =
        elim (added lines (get_or terms i d).speed (get_or terms i d).rate) [
          | full past f ↦ let z : ◌≡◌ {A = ℕ} 5 4 = ap refusal_number (e ∙ f) in absurd (omega arith)
          | outside room bad f ↦ reading_outside room bad
          | obeyed room fine f ↦ let z : ◌≡◌ {A = ℕ} 0 1 = cc (e ∙ f) in absurd (omega arith)
        ]

    pub reading_told : (added : Result ℕ CardRefusal) (told : HireRefusal) → answer_of card_told added ≡ add_answer lines (get_or terms i d).speed (get_or terms i d).rate → MatchResult added (λ machine. ⊥) (λ refusal. hire_told told ≡ told_at refusal i (get_or terms i d)) → Err (hire_told told) ≡ card_answer terms
    reading_told (Ok machine) told e h = absurd h
    reading_told (Err refusal) told e h = ap (λ (r : Refused). Err r) h ∙ reading_refused refusal e

    pub reading_more : length lines < 32 → line_in_range (get_or terms i d).speed (get_or terms i d).rate ≡ true → Reading terms (lines ++ (terms_line (get_or terms i d) ∷ [])) (i + 1)
    reading_more room good =
        let few : i < 32 = let l = length_so_far in omega arith in
        record {
          so_far = ap (λ ls. ls ++ (terms_line (get_or terms i d) ∷ [])) reading.so_far ∙ sym (ap (map terms_line) (take_more terms i d h) ∙ map-append terms_line (take i terms) _);
          few = omega arith;
          fine = sought_more out_of_range (take 32 terms) i d (within few) (ap out_of_range (here few) ∙ ap not good) reading.fine;
        }

  pub reading_all : length terms ≤ i → ◌≡◌ {A = Answer (List Line)} (Ok lines) (card_answer terms)
  reading_all h =
      let f = reading.few in
      let cut : length (take 32 terms) ≤ i = simp length-take (omega arith) in
      let none = sought_all out_of_range (take 32 terms) i cut reading.fine in
      let few : length terms ≤ 32 = omega arith in
      ap Ok (reading.so_far ∙ ap (map terms_line) (take_all i terms h))
      ∙ sym (ap (card_verdict terms) none ∙ cond-false (ltb 32 (length terms)) _ _ (le-ltb 32 (length terms) few))
