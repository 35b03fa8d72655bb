-- The lines of a card
use Rattle.std.proofs.Common.{◌≡◌, ℕ, ◌<◌, ◌≤◌, true, false, cond, not, leb, List, [], ◌∷◌, ◌++◌, length, is_ok, Ok, Err, ap, ◌∙◌, ⊎_elim, arith}
use Rattle.std.proofs.lemmas.Bool.{cond-true, cond-false, cases_Bool, cases_lt, lt-leb, le-leb}
use Rattle.refusals.specs.Answer.{Answer, plain}
use Rattle.tariffs.specs.declared.line.Line.{Line}
use Rattle.tariffs.specs.Line.{line, line_in_range}
use Rattle.tariffs.specs.Card.{add_answer, lines_after}

-- a line in range for a card that is not full
module _ (lines : List Line) (speed rate : ℕ) (room : length lines < 32) (fine : line_in_range speed rate ≡ true) where
  pub add_obeyed : add_answer lines speed rate ≡ Ok (length lines)
  add_obeyed = cond-false (leb 32 (length lines)) _ _ (lt-leb 32 (length lines) room) ∙ cond-false (not (line_in_range speed rate)) _ _ (ap not fine)

  pub lines_added : lines_after lines speed rate ≡ lines ++ (line speed rate ∷ [])
  lines_added = ap (λ (a : Answer ℕ). cond (is_ok a) (lines ++ (line speed rate ∷ [])) lines) add_obeyed

-- which of the three answers a line gets, and why
pub data Added (lines : List Line) (speed rate : ℕ) : Type 0 where
  full : 32 ≤ length lines → add_answer lines speed rate ≡ Err (plain 4) → Added lines speed rate
  outside : length lines < 32 → line_in_range speed rate ≡ false → add_answer lines speed rate ≡ Err (plain 5) → Added lines speed rate
  obeyed : length lines < 32 → line_in_range speed rate ≡ true → add_answer lines speed rate ≡ Ok (length lines) → Added lines speed rate

pub added : (lines : List Line) (speed rate : ℕ) → Added lines speed rate
added lines speed rate =
    ⊎_elim
    (λ room.
    ⊎_elim
    (λ fine. obeyed room fine (add_obeyed lines speed rate room fine))
    (λ bad. outside room bad (cond-false (leb 32 (length lines)) _ _ (lt-leb 32 (length lines) room) ∙ cond-true (not (line_in_range speed rate)) _ _ (ap not bad)))
    (cases_Bool (line_in_range speed rate)))
    (λ past. full past (cond-true (leb 32 (length lines)) _ _ (le-leb 32 (length lines) past)))
    (cases_lt (length lines) 32)

-- the number of a refusal, 0 for none
abbrev pub refusal_number : Answer ℕ → ℕ
refusal_number (Ok machine) = 0
refusal_number (Err refused) = refused.number

module _ (lines : List Line) (speed rate : ℕ) where
  pub obeyed_from_ok : (machine : ℕ) → Ok machine ≡ add_answer lines speed rate → (length lines < 32) × (line_in_range speed rate ≡ true)
  obeyed_from_ok machine e = elim (added lines speed rate) [
    | full past f ↦ let z : ◌≡◌ {A = ℕ} 0 4 = ap refusal_number (e ∙ f) in absurd (omega arith)
    | outside room bad f ↦ let z : ◌≡◌ {A = ℕ} 0 5 = ap refusal_number (e ∙ f) in absurd (omega arith)
    | obeyed room fine f ↦ (room, fine)
  ]
