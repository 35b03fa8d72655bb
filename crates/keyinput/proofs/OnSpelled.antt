-- Bytes that spell a card and a sheet, alone or with a question, are read as these
use Rattle.std.proofs.Common.{◌≡◌, ℕ, ◌+◌, ◌^◌, ◌<◌, ◌≤◌, Bool, true, false, cond, not, eqb, List, [], ◌∷◌, ◌++◌, length, is_ok, Ok, Err, sym, ap, ◌∙◌, append_assoc, add-zero, arith, length-append}
use Rattle.std.specs.List.{flat_map}
use Rattle.std.proofs.lemmas.List.{append-nil}
use Rattle.std.proofs.lemmas.Bool.{lt-leb, le-leb, and_from}
use Rattle.refusals.specs.Answer.{Answer, refused_if, carrying}
use Rattle.numbers.specs.Input.{Input, input, Reading, then, value_of}
use Rattle.numbers.specs.Number.{spelled, number_in}
use Rattle.tariffs.specs.declared.line.Line.{Line}
use Rattle.tariffs.specs.Card.{lines_of, add_answer, lines_after}
use Rattle.tariffs.specs.Line.{line, line_in_range}
use Rattle.tariffs.specs.Ranges.{length_lines}
use Rattle.tariffs.specs.Same.{same_line}
use Rattle.sheets.specs.Book.{Book, book}
use Rattle.keyfile.specs.Card.{line_in, card_in}
use Rattle.keyfile.specs.Files.{IsReadAgain}
use Rattle.keyfile.specs.Reading.{called, repeated, ended}
use Rattle.keyfile.specs.Sheet.{sheet_in}
use Rattle.keyfile.specs.Works.{works_by_stage, spelled_sheet}
use Rattle.keyfile.proofs.OnFiles.{number_then, along, what_is_written_is_read_again}
use Rattle.keyinput.specs.declared.question.Question.{Question}
use Rattle.keyinput.specs.declared.question.Question.TheVariants.{Front, Budget, Deadline}
use Rattle.keyinput.specs.Batch.{Offer, offer, offer_in, batch_in}
use Rattle.keyinput.specs.Input.{asked}
use Rattle.keyinput.specs.Question.{limit_in, question_in}
use Rattle.keyinput.specs.Spelled.{spelled_line, spelled_card, spelled_question, LimitFits, SpelledInputsAreRead}

-- a line of a card is in range, and a card that is not full takes it
in_range : (l : Line) → line_in_range l.speed l.rate ≡ true
in_range l = and_from _ _ (le-leb 1 l.speed l.moving) (and_from _ _ (le-leb l.speed 10000 l.limited) (le-leb l.rate 1000000 l.priced))

line_is : (l : Line) → line l.speed l.rate ≡ l
line_is l = same_line (line l.speed l.rate) l (let m = l.moving in let n = l.limited in omega arith) (let n = l.priced in omega arith)

line_taken : (lines : List Line) (l : Line) (place : ℕ) (left : Input) → length lines < 32 → called (add_answer lines l.speed l.rate) (lines_after lines l.speed l.rate) place left ≡ Ok (lines ++ (l ∷ []), left)
line_taken lines l place left room =
    ap (λ full. by full (line_in_range l.speed l.rate)) (lt-leb 32 (length lines) room)
    ∙ ap (by false) (in_range l)
    ∙ ap (λ (new : Line). Ok (lines ++ (new ∷ []), left)) (line_is l)
  where
    told : Bool → Bool → Answer ℕ
    told full good = refused_if full 4 (refused_if (not good) 5 (Ok (length lines)))

    by : Bool → Bool → Reading (List Line)
    by full good = called (told full good) (cond (is_ok (told full good)) (lines ++ (line l.speed l.rate ∷ [])) lines) place left

lines_again : (added lines : List Line) (place : ℕ) (rest : List ℕ) → length lines + length added ≤ 32 → repeated (length added) line_in lines (input place (flat_map spelled_line added ++ rest)) ≡ Ok (lines ++ added, input (place + length (flat_map spelled_line added)) rest)
lines_again [] lines place rest room =
    ap (λ (ls : List Line). Ok (ls, input place rest)) (sym (append-nil lines)) ∙ ap (λ n. Ok (lines ++ [], input n rest)) (sym (add-zero place))
lines_again (l ∷ added) lines place rest room =
    let later = flat_map spelled_line added ++ rest in
    let longer = length-append lines (l ∷ []) in
    let adding = λ (speed rate : ℕ) (left : Input). called (add_answer lines speed rate) (lines_after lines speed rate) place left in
    let behind = input (place + length (spelled_line l)) later in
    let read : line_in lines (input place (flat_map spelled_line (l ∷ added) ++ rest)) ≡ Ok (lines ++ (l ∷ []), behind) =
    ap (λ bytes. then (number_in (input place bytes)) (λ speed left. then (number_in left) (adding speed))) (append_assoc (spelled_line l) (flat_map spelled_line added) rest ∙ append_assoc (spelled l.speed) (spelled l.rate) later)
    ∙ number_then l.speed place (spelled l.rate ++ later) (λ speed left. then (number_in left) (adding speed)) (let m = l.limited in omega arith)
    ∙ number_then l.rate (place + length (spelled l.speed)) later (adding l.speed) (let m = l.priced in omega arith)
    ∙ line_taken lines l place (input (place + length (spelled l.speed) + length (spelled l.rate)) later) (omega arith)
    ∙ ap (λ (i : Input). Ok (lines ++ (l ∷ []), i)) (along place (spelled l.speed) (spelled l.rate) later) in
    ap (λ (r : Reading (List Line)). then r (repeated (length added) line_in)) read
    ∙ lines_again added (lines ++ (l ∷ [])) (place + length (spelled_line l)) rest (omega arith)
    ∙ ap (λ (ls : List Line). Ok (ls, input (place + length (spelled_line l) + length (flat_map spelled_line added)) rest)) (append_assoc lines (l ∷ []) added)
    ∙ ap (λ (i : Input). Ok (lines ++ (l ∷ added), i)) (along place (spelled_line l) (flat_map spelled_line added) rest)

card_again : (lines : List Line) (place : ℕ) (rest : List ℕ) → length lines ≤ 32 → card_in (input place (spelled_card lines ++ rest)) ≡ Ok (lines, input (place + length (spelled_card lines)) rest)
card_again lines place rest few =
    ap (λ bytes. then (number_in (input place bytes)) (λ count. repeated count line_in [])) (append_assoc (spelled (length lines)) (flat_map spelled_line lines) rest)
    ∙ number_then (length lines) place (flat_map spelled_line lines ++ rest) (λ count. repeated count line_in []) (omega arith)
    ∙ lines_again lines [] (place + length (spelled (length lines))) rest (omega arith)
    ∙ ap (λ (i : Input). Ok (lines, i)) (along place (spelled (length lines)) (flat_map spelled_line lines) rest)

-- what follows the number of a question
abbrev asking : ℕ → ℕ → Input → Reading Question
asking place n left =
    cond (eqb n 0) (Ok (Front, left)) (cond (eqb n 1) (limit_in Budget left) (cond (eqb n 2) (limit_in Deadline left) (Err (carrying 14 place))))

limit_again : (ask : ℕ → Question) (before : List ℕ) (limit place : ℕ) → limit < 2 ^ 32 → limit_in ask (input (place + length before) (spelled limit)) ≡ Ok (ask limit, input (place + length (before ++ spelled limit)) [])
limit_again ask before limit place fits =
    ap (λ bytes. limit_in ask (input (place + length before) bytes)) (sym (append-nil (spelled limit)))
    ∙ number_then limit (place + length before) [] (λ limit left. Ok (ask limit, left)) fits
    ∙ ap (λ (i : Input). Ok (ask limit, i)) (along place before (spelled limit) [])

question_again : (question : Question) (place : ℕ) → LimitFits question → question_in (input place (spelled_question question)) ≡ Ok (question, input (place + length (spelled_question question)) [])
question_again Front place fits =
    ap (λ bytes. then (number_in (input place bytes)) (asking place)) (sym (append-nil (spelled 0))) ∙ number_then 0 place [] (asking place) (omega arith)
question_again (Budget limit) place fits = number_then 1 place (spelled limit) (asking place) (omega arith) ∙ limit_again Budget (spelled 1) limit place fits
question_again (Deadline limit) place fits = number_then 2 place (spelled limit) (asking place) (omega arith) ∙ limit_again Deadline (spelled 2) limit place fits

pub spelled_inputs_are_read : SpelledInputsAreRead
spelled_inputs_are_read batch = record {
  read = sheet.read;
  same_works = sheet.same_works;
  alone =
      ap (λ l. value_of (batch_in (spelled_card lines ++ l))) (sym (append-nil written))
      ∙ ap (λ (r : Reading Offer). value_of (then r ended)) (taken []);
  asked = λ question fits.
      ap (λ (r : Reading Offer). value_of (then r (λ offer left. then (question_in left) (λ question. ended (asked offer.lines offer.book question))))) (taken (spelled_question question))
      ∙ ap (λ (r : Reading Question). value_of (then r (λ question. ended (asked lines sheet.read question)))) (question_again question (0 + length (spelled_card lines) + length written) fits);
}
  where
    lines : List Line
    lines = lines_of batch.card

    sheet : IsReadAgain (book batch.sheet)
    sheet = what_is_written_is_read_again batch.sheet

    written : List ℕ
    written = spelled_sheet (works_by_stage (book batch.sheet))

    taken : (rest : List ℕ) → offer_in (input 0 (spelled_card lines ++ (written ++ rest))) ≡ Ok (offer lines sheet.read, input (0 + length (spelled_card lines) + length written) rest)
    taken rest =
        ap (λ (r : Reading (List Line)). then r (λ lines left. then (sheet_in left) (λ book left. Ok (offer lines book, left))))
        (card_again lines 0 (written ++ rest) (let c = batch.card.counted in omega (arith, length_lines batch.card)))
        ∙ ap (λ (r : Reading Book). then r (λ book left. Ok (offer lines book, left))) (sheet.followed (0 + length (spelled_card lines)) rest)
