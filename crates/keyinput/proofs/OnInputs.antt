-- Inputs that were read, with the bytes that spell them
use Rattle.std.proofs.Common.{◌≡◌, ℕ, Bool, true, false, cond, eqb, List, ◌++◌, Ok, Err, sym, refl, ap, ◌∙◌, subst, append_assoc}
use Rattle.std.proofs.lemmas.List.{append-nil}
use Rattle.std.proofs.lemmas.Bool.{eqb-true}
use Rattle.refusals.specs.Answer.{carrying}
use Rattle.numbers.specs.Input.{Input, input, Reading, then, value_of}
use Rattle.numbers.specs.Number.{spelled, number_in}
use Rattle.numbers.specs.Spellings.{ByteString}
use Rattle.numbers.proofs.OnSpellings.{only_spellings_are_read}
use Rattle.keyfile.specs.Card.{card_in}
use Rattle.keyfile.specs.Reading.{ended}
use Rattle.keyfile.specs.Sheet.{sheet_in}
use Rattle.keyfile.specs.Works.{works_by_stage, spelled_sheet}
use Rattle.keyfile.proofs.OnFiles.{through, same, string_behind, behind_spelled, ended_all, what_is_read_was_so_written}
use Rattle.keyinput.specs.declared.question.Question.{Question}
use Rattle.keyinput.specs.declared.question.Question.TheVariants.{Front, Budget, Deadline}
use Rattle.keyinput.specs.Question.{limit_in, question_in}
use Rattle.keyinput.specs.Batch.{Offer, offer, offer_in, batch_in}
use Rattle.keyinput.specs.Input.{Asked, asked, key_in}
use Rattle.keyinput.specs.Spelled.{spelled_card, spelled_question, spelled_batch, spelled_input}
use Rattle.keyinput.proofs.OnCards.{card_read}

limit_read : (ask : ℕ → Question) (before : Input) (question : Question) (left : Input) → ByteString before.bytes → limit_in ask before ≡ Ok (question, left) → (limit : ℕ) × (question ≡ ask limit) × (before.bytes ≡ spelled limit ++ left.bytes)
limit_read ask before question left strung e =
    let number = through (number_in before) (λ limit left. Ok (ask limit, left)) (question, left) e in
    let p = same _ _ number.further in
    let bytes = only_spellings_are_read before number.value number.behind strung number.read in
    (number.value, ap (λ q. q.0) (sym p), bytes.bytes ∙ ap (λ (q : Question × Input). spelled number.value ++ q.1.bytes) p)

question_read : (before : Input) (question : Question) (left : Input) → ByteString before.bytes → question_in before ≡ Ok (question, left) → before.bytes ≡ spelled_question question ++ left.bytes
question_read before question left strung e =
    let number = through (number_in before) (λ n left. cond (eqb n 0) (Ok (Front, left)) (cond (eqb n 1) (limit_in Budget left) (cond (eqb n 2) (limit_in Deadline left) (Err (carrying 14 before.place))))) (question, left) e in
    let n = number.value in
    let bytes = only_spellings_are_read before n number.behind strung number.read in
    let strung_limit = behind_spelled before n number.behind strung bytes in
    let start : (m : ℕ) → n ≡ m → before.bytes ≡ spelled m ++ number.behind.bytes = λ m is. bytes.bytes ∙ ap (λ k. spelled k ++ number.behind.bytes) is in
    by n number.behind (eqb n 0) (eqb n 1) (eqb n 2) refl refl refl strung_limit start number.further
  where
    limited : (m : ℕ) (ask : ℕ → Question) (behind : Input) → ((limit : ℕ) → spelled_question (ask limit) ≡ spelled m ++ spelled limit) → ByteString behind.bytes → before.bytes ≡ spelled m ++ behind.bytes → limit_in ask behind ≡ Ok (question, left) → before.bytes ≡ spelled_question question ++ left.bytes
    limited m ask behind spells strung' start h =
        let limit = limit_read ask behind question left strung' h in
        start ∙ ap (λ l. spelled m ++ l) limit.2
        ∙ sym (append_assoc (spelled m) (spelled limit.0) left.bytes)
        ∙ ap (λ l. l ++ left.bytes) (sym (spells limit.0))
        ∙ ap (λ (q : Question). spelled_question q ++ left.bytes) (sym limit.1)

    by : (n : ℕ) (behind : Input) (zeroth first second : Bool) → eqb n 0 ≡ zeroth → eqb n 1 ≡ first → eqb n 2 ≡ second → ByteString behind.bytes → ((m : ℕ) → n ≡ m → before.bytes ≡ spelled m ++ behind.bytes)
        → cond zeroth (Ok (Front, behind)) (cond first (limit_in Budget behind) (cond second (limit_in Deadline behind) (Err (carrying 14 before.place)))) ≡ Ok (question, left) → before.bytes ≡ spelled_question question ++ left.bytes
    by n behind true first second z f s strung' start h =
        let p = same _ _ h in
        start 0 (eqb-true n 0 z) ∙ ap (λ (q : Question × Input). spelled_question q.0 ++ q.1.bytes) p
    by n behind false true second z f s strung' start h = limited 1 Budget behind (λ _. refl) strung' (start 1 (eqb-true n 1 f)) h
    by n behind false false true z f s strung' start h = limited 2 Deadline behind (λ _. refl) strung' (start 2 (eqb-true n 2 s)) h
    by n behind false false false z f s strung' start h = cc

offer_read : (before : Input) (read : Offer) (left : Input) → ByteString before.bytes → offer_in before ≡ Ok (read, left) → before.bytes ≡ spelled_batch read ++ left.bytes
offer_read before read left strung e =
    let P : List ℕ → Type 0 = ByteString in
    let card = through (card_in before) (λ lines behind. then (sheet_in behind) (λ book left. Ok (offer lines book, left))) (read, left) e in
    let sheet = through (sheet_in card.behind) (λ book left. Ok (offer card.value book, left)) (read, left) card.further in
    let card_bytes = card_read before card.value card.behind strung card.read in
    let strung_sheet : ByteString card.behind.bytes = string_behind (spelled_card card.value) card.behind.bytes (subst P card_bytes strung) in
    let sheet_bytes = what_is_read_was_so_written card.behind sheet.value sheet.behind strung_sheet sheet.read in
    card_bytes
    ∙ ap (λ l. spelled_card card.value ++ l) sheet_bytes
    ∙ sym (append_assoc (spelled_card card.value) (spelled_sheet (works_by_stage sheet.value)) sheet.behind.bytes)
    ∙ ap (λ (q : Offer × Input). spelled_batch q.0 ++ q.1.bytes) (same _ _ sheet.further)

-- what an accepted card with a sheet was, in bytes
pub accepted_batch_is_spelled : (bytes : List ℕ) (read : Offer) → ByteString bytes → Ok read ≡ value_of (batch_in bytes) → bytes ≡ spelled_batch read
accepted_batch_is_spelled bytes read strung = by (batch_in bytes) refl
  where
    by : (reading : Reading Offer) → batch_in bytes ≡ reading → Ok read ≡ value_of reading → bytes ≡ spelled_batch read
    by (Err refused) r e = cc
    by (Ok found) r e =
        let batch = through (offer_in (input 0 bytes)) ended found r in
        let end = ended_all batch.value batch.behind found batch.further in
        offer_read (input 0 bytes) batch.value batch.behind strung batch.read
        ∙ ap (λ l. spelled_batch batch.value ++ l) end.1
        ∙ append-nil (spelled_batch batch.value)
        ∙ ap spelled_batch (end.0 ∙ sym (same _ _ e))

-- what an accepted input was, in bytes
pub accepted_is_spelled : (bytes : List ℕ) (key : Asked) → ByteString bytes → Ok key ≡ value_of (key_in bytes) → bytes ≡ spelled_input key
accepted_is_spelled bytes key strung = by (key_in bytes) refl
  where
    by : (reading : Reading Asked) → key_in bytes ≡ reading → Ok key ≡ value_of reading → bytes ≡ spelled_input key
    by (Err refused) r e = cc
    by (Ok found) r e =
        let P : List ℕ → Type 0 = ByteString in
        let batch = through (offer_in (input 0 bytes)) (λ offer behind. then (question_in behind) (λ question. ended (asked offer.lines offer.book question))) found r in
        let question = through (question_in batch.behind) (λ question. ended (asked batch.value.lines batch.value.book question)) found batch.further in
        let end = ended_all (asked batch.value.lines batch.value.book question.value) question.behind found question.further in
        let batch_bytes = offer_read (input 0 bytes) batch.value batch.behind strung batch.read in
        let strung_question : ByteString batch.behind.bytes = string_behind (spelled_batch batch.value) batch.behind.bytes (subst P batch_bytes strung) in
        let question_bytes = question_read batch.behind question.value question.behind strung_question question.read in
        batch_bytes
        ∙ ap (λ l. spelled_batch batch.value ++ l) (question_bytes ∙ ap (λ l. spelled_question question.value ++ l) end.1 ∙ append-nil (spelled_question question.value))
        ∙ append_assoc (spelled_card batch.value.lines) (spelled_sheet (works_by_stage batch.value.book)) (spelled_question question.value)
        ∙ ap spelled_input (end.0 ∙ sym (same _ _ e))
