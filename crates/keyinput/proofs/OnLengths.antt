-- How many bytes an input has
use Rattle.std.proofs.Common.{ℕ, ◌+◌, ◌*◌, ◌≤◌, List, [], ◌∷◌, ◌++◌, length, ⊎_elim, arith, length-append}
use Rattle.std.specs.List.{flat_map, AllByRecursion}
use Rattle.std.proofs.lemmas.List.FromFn.{length-map-range_with_len}
use Rattle.std.proofs.lemmas.List.{length-take}
use Rattle.std.proofs.lemmas.Bool.{cases_lt}
use Rattle.numbers.specs.Number.{spelled}
use Rattle.tariffs.specs.declared.card.RateCard.{RateCard}
use Rattle.tariffs.specs.declared.line.Line.{Line}
use Rattle.tariffs.specs.Card.{lines_of}
use Rattle.sheets.specs.Book.{book}
use Rattle.sheets.specs.declared.sheet.Sheet.{Sheet}
use Rattle.sheets.proofs.Histories.{sheet_sound}
use Rattle.keyfile.specs.Works.{stage_works, works_by_stage, spelled_stage, spelled_sheet}
use Rattle.keyfile.proofs.OnNumbers.{one_byte, two_bytes, three_bytes, five_bytes}
use Rattle.keyfile.proofs.Grouping.{total, counted, InRange, works_in_range}
use Rattle.keyinput.specs.declared.batch.Batch.{Batch}
use Rattle.keyinput.specs.declared.input.KeyInput.{KeyInput}
use Rattle.keyinput.specs.declared.question.Question.{Question}
use Rattle.keyinput.specs.declared.question.Question.TheVariants.{Front, Budget, Deadline}
use Rattle.keyinput.specs.Batch.{batch_of}
use Rattle.keyinput.specs.Input.{asked_by}
use Rattle.keyinput.specs.Spelled.{spelled_line, spelled_card, spelled_question, spelled_batch, spelled_input, longest_batch, longest_input}

-- a task count takes a second byte only from 128 on
count_bytes : (n : ℕ) → n ≤ 256 → 128 * length (spelled n) ≤ 128 + n
count_bytes n h =
    ⊎_elim
    (λ small. let e = one_byte n small in omega arith)
    (λ great. let e = two_bytes n (omega arith) in omega arith)
    (cases_lt n 128)

works_bytes : (works : List ℕ) → AllByRecursion InRange works → length (flat_map spelled works) ≤ 3 * length works
works_bytes [] range = omega arith
works_bytes (work ∷ works) range =
    let l = length-append (spelled work) (flat_map spelled works) in
    let e = three_bytes work (let r = range.0 in omega arith) in
    let rest = works_bytes works range.1 in
    omega arith

stages_bytes : (stages : List (List ℕ)) → total stages ≤ 256 → AllByRecursion (AllByRecursion InRange) stages → 128 * length (flat_map spelled_stage stages) ≤ 128 * length stages + 385 * total stages
stages_bytes [] few range = omega arith
stages_bytes (works ∷ stages) few range =
    let l = length-append (spelled_stage works) (flat_map spelled_stage stages) in
    let m = length-append (spelled (length works)) (flat_map spelled works) in
    let count = count_bytes (length works) (omega arith) in
    let tasks = works_bytes works range.0 in
    let rest = stages_bytes stages (omega arith) range.1 in
    omega arith

pub sheet_bytes : (sheet : Sheet) → length (spelled_sheet (works_by_stage (book sheet))) ≤ 787
sheet_bytes sheet =
    let sound = sheet_sound sheet in
    let stages = works_by_stage (book sheet) in
    let counts = length-map-range_with_len (stage_works (book sheet).tasks) 0 (book sheet).stages in
    let few_stages : length stages ≤ 16 = let s = sound.few_stages in omega arith in
    let few_tasks : total stages ≤ 256 = let s = sound.few_tasks in let t = counted (book sheet).tasks 0 (book sheet).stages in omega arith in
    let first = one_byte (length stages) (omega arith) in
    let rest = stages_bytes stages few_tasks (works_in_range (book sheet).stages (book sheet).tasks sound.tasks_sound 0 (book sheet).stages) in
    let l = length-append (spelled (length stages)) (flat_map spelled_stage stages) in
    omega arith

lines_bytes : (lines : List Line) → length (flat_map spelled_line lines) ≤ 5 * length lines
lines_bytes [] = omega arith
lines_bytes (line ∷ lines) =
    let l = length-append (spelled_line line) (flat_map spelled_line lines) in
    let m = length-append (spelled line.speed) (spelled line.rate) in
    let speed = two_bytes line.speed (let s = line.limited in omega arith) in
    let rate = three_bytes line.rate (let r = line.priced in omega arith) in
    let rest = lines_bytes lines in
    omega arith

pub card_bytes : (card : RateCard) → length (spelled_card (lines_of card)) ≤ 161
card_bytes card =
    let few : length (lines_of card) ≤ 32 = let t = length-take card.count card.lines in let c = card.counted in omega arith in
    let first = one_byte (length (lines_of card)) (omega arith) in
    let rest = lines_bytes (lines_of card) in
    let l = length-append (spelled (length (lines_of card))) (flat_map spelled_line (lines_of card)) in
    omega arith

pub batch_bytes : (batch : Batch) → length (spelled_batch (batch_of batch)) ≤ longest_batch
batch_bytes batch =
    let card = card_bytes batch.card in
    let sheet = sheet_bytes batch.sheet in
    let l = length-append (spelled_card (lines_of batch.card)) (spelled_sheet (works_by_stage (book batch.sheet))) in
    omega arith

question_bytes : (question : Question) → length (spelled_question question) ≤ 6
question_bytes Front = let e = one_byte 0 (omega arith) in omega arith
question_bytes (Budget limit) = let e = one_byte 1 (omega arith) in let f = five_bytes limit in let l = length-append (spelled 1) (spelled limit) in omega arith
question_bytes (Deadline limit) = let e = one_byte 2 (omega arith) in let f = five_bytes limit in let l = length-append (spelled 2) (spelled limit) in omega arith

pub input_bytes : (key : KeyInput) → length (spelled_input (asked_by key)) ≤ longest_input
input_bytes key =
    let card = card_bytes key.batch.card in
    let sheet = sheet_bytes key.batch.sheet in
    let question = question_bytes key.question in
    let l = length-append (spelled_card (lines_of key.batch.card)) (spelled_sheet (works_by_stage (book key.batch.sheet)) ++ spelled_question key.question) in
    let m = length-append (spelled_sheet (works_by_stage (book key.batch.sheet))) (spelled_question key.question) in
    omega arith
