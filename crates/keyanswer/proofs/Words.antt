-- What the text of an answer tells, in words
use Rattle.std.proofs.Common.{◌≡◌, ℕ, Bool, true, false, ltb, List, length, take, Some, None, Ok, Err, Option, Result, inl, inr, sym, refl, ap, ◌∙◌, subst}
use Rattle.std.specs.Prelude.{IfOk}
use Rattle.std.specs.List.{flat_map}
use Rattle.std.proofs.lemmas.Bool.{ltb-true}
use Rattle.refusals.specs.Answer.{Answer, Refused, plain, refused_if}
use Rattle.costs.specs.Cents.{cents, cents_kind, cents_text}
use Rattle.costs.specs.KindLaws.{cents_laws}
use Rattle.costs.specs.declared.cents.Cents.{Cents}
use Rattle.tariffs.specs.declared.card.RateCard.{RateCard}
use Rattle.tariffs.specs.Card.{lines_of, lines_meaning}
use Rattle.tariffs.specs.Meaning.{Meaning, Ranged}
use Rattle.tariffs.specs.Ranges.{card_ranged}
use Rattle.sheets.specs.declared.sheet.Sheet.{Sheet}
use Rattle.sheets.specs.Book.{Book, book}
use Rattle.texts.specs.declared.too_short.TooShort.{TooShort}
use Rattle.texts.specs.Line.{line}
use Rattle.texts.specs.Put.{Put}
use Rattle.texts.specs.RefusalLine.{refusal_words}
use Rattle.texts.specs.Write.{Writes}
use Rattle.texts.proofs.Pieces.{written_puts}
use Rattle.numbers.specs.Input.{value_of}
use Rattle.numbers.proofs.OnSpellings.{found_same}
use Rattle.model.specs.declared.point.Point.{Point}
use Rattle.model.specs.Assignment.{standing}
use Rattle.model.specs.Cell.{cells_needed}
use Rattle.model.specs.Front.{front, IsFront}
use Rattle.model.specs.Limit.{lowest_unquoted, or_none_within, unless_unquoted, within_budget, within_deadline}
use Rattle.model.specs.Plan.{plan}
use Rattle.model.proofs.FrontsInWords.{front_in_words}
use Rattle.planner.proofs.Words.{ResultSays, budget_says, deadline_says}
use Rattle.keylines.specs.Point.{point_line}
use Rattle.keyinput.specs.declared.input.KeyInput.{KeyInput}
use Rattle.keyinput.specs.declared.question.Question.{Question}
use Rattle.keyinput.specs.declared.question.Question.TheVariants.{Front, Budget, Deadline}
use Rattle.keyinput.specs.Input.{Asked, asked_by, key_in}
use Rattle.keyanswer.specs.Answer.{key_cells, key_points, limit_lines, answer_lines, asked_lines, text_of}
use Rattle.keyanswer.specs.Words.{LacksCells, FrontLines, LimitLines, LinesTell, TextTells}

module _ (card : RateCard) (sheet : Sheet) where
  abbrev T : Meaning Cents
  T = lines_meaning (lines_of card)

  abbrev b : Book
  b = book sheet

  abbrev few : Bool
  few = ltb key_cells (cells_needed T b)

  ranged : Ranged T
  ranged = card_ranged card

  is_front : IsFront cents_kind T (standing b) (front cents_kind T b)
  is_front = (front_in_words cents_laws T ranged (standing b) (front cents_kind T b)).1 refl

  too_few : few ≡ true → LacksCells T b (plain 7)
  too_few e = (refl, ltb-true key_cells (cells_needed T b) e)

  front_tells : (lacks short : Bool) → few ≡ lacks → ltb key_points (length (front cents_kind T b)) ≡ short → FrontLines T b (refused_if lacks 7 (refused_if short 8 (Ok (flat_map (point_line cents_text) (front cents_kind T b)))))
  front_tells true short f s = inl (too_few f)
  front_tells false true f s = inr (refl, (front cents_kind T b, is_front, ltb-true key_points (length (front cents_kind T b)) s))
  front_tells false false f s = (front cents_kind T b, is_front, refl)

  limit_tells : {IsBest TooMuch : Point Cents → Type 0} (lacks : Bool) → few ≡ lacks → (lowest : Option ℕ) (found : Option (Point Cents)) → ResultSays cents_kind T b IsBest TooMuch (unless_unquoted lowest (or_none_within found)) → LimitLines T b IsBest TooMuch (refused_if lacks 7 (limit_lines T b (unless_unquoted lowest (or_none_within found))))
  limit_tells true f lowest found says = inl (too_few f)
  limit_tells false f (Some task) found says = inr (inl (task, refl, says.unquoted task refl))
  limit_tells false f None None says = inr (inr (refl, says.none_within refl))
  limit_tells false f None (Some p) says = let best = says.best p refl in (p, best.0, (plan cents_kind T b p, best.1, refl))

-- for every card, every sheet and every question
pub answers_tell : (card : RateCard) (sheet : Sheet) (question : Question) → LinesTell (lines_meaning (lines_of card)) (book sheet) question (answer_lines (lines_meaning (lines_of card)) (book sheet) question)
answers_tell card sheet Front = front_tells card sheet (few card sheet) (ltb key_points (length (front cents_kind (T card sheet) (b card sheet)))) refl refl
answers_tell card sheet (Budget limit) = limit_tells card sheet (few card sheet) refl (lowest_unquoted (T card sheet) (b card sheet)) (within_budget cents_kind (T card sheet) (standing (b card sheet)) (cents limit)) (budget_says cents_laws (T card sheet) (ranged card sheet) sheet (cents limit))
answers_tell card sheet (Deadline limit) = limit_tells card sheet (few card sheet) refl (lowest_unquoted (T card sheet) (b card sheet)) (within_deadline cents_kind (T card sheet) (standing (b card sheet)) limit) (deadline_says cents_laws (T card sheet) (ranged card sheet) sheet limit)

-- what was written for a card, a sheet and a question that were read
pub text_tells : (input text : List ℕ) (key : KeyInput) → value_of (key_in input) ≡ Ok (asked_by key) → text ≡ text_of (asked_lines (asked_by key)) → TextTells input text
text_tells input text key read written = record {
  answers = λ other e.
      let same : asked_by key ≡ other = found_same _ _ (sym read ∙ e) in
      subst (λ (asked : Asked). (answer : Answer (List ℕ)) × (text ≡ text_of answer) × LinesTell (lines_meaning asked.lines) asked.book asked.question answer) same
      (asked_lines (asked_by key), written, answers_tell key.batch.card key.batch.sheet key.question);
  refuses = λ refused e. let none = sym read ∙ e in cc;
}

-- what was written for an input that was refused
pub refusal_tells : (input text : List ℕ) (refused : Refused) → value_of (key_in input) ≡ Err refused → text ≡ line (refusal_words refused) → TextTells input text
refusal_tells input text refused read written = record {
  answers = λ key e. let none = sym read ∙ e in cc;
  refuses = λ other e. let same = sym read ∙ e in written ∙ ap (λ (r : Refused). line (refusal_words r)) (let told : refused ≡ other = cc in told);
}

-- what is told of a text is told of what stands at the start of the memory
pub told_written : (input text was after : List ℕ) (result : Result ℕ TooShort) → Writes text was after result → TextTells input text → IfOk result (λ count. TextTells input (take count after))
told_written input text was after (Ok count) written tells =
    let put : Put was 0 text after count = written_puts text was after (Ok count) written.answer written.after in
    subst (λ (start : List ℕ). TextTells input start) (sym put.front) tells
told_written input text was after (Err short) written tells = tt
