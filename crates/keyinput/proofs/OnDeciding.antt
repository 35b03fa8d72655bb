-- Of an input the first 1,024 bytes decide: no reading gets further
use Rattle.std.proofs.Common.{◌≡◌, ℕ, zero, suc, ◌+◌, ◌*◌, ◌<◌, ◌≤◌, Bool, true, false, cond, leb, eqb, List, [], ◌++◌, length, take, drop, Ok, Err, sym, refl, ap, ◌∙◌, subst, ⊎_elim, arith, length-append}
use Rattle.std.proofs.lemmas.List.{take-append-drop, take_all, length-take-le}
use Rattle.std.proofs.lemmas.Bool.{cases_lt, leb-true, lt-ltb, and_parts}
use Rattle.refusals.specs.Answer.{Answer, carrying}
use Rattle.numbers.specs.Input.{Input, input, Reading, then, value_of, refused_at}
use Rattle.numbers.specs.Number.{number_in}
use Rattle.numbers.proofs.OnMore.{more, with_more, same_value, then_more, number_more, number_taken}
use Rattle.tariffs.specs.declared.line.Line.{Line}
use Rattle.tariffs.specs.Card.{add_answer, lines_after}
use Rattle.sheets.specs.Book.{Book, opened, answer, step}
use Rattle.sheets.specs.declared.call.Call.TheVariants.{Stage, Task as NewTask}
use Rattle.sheets.proofs.Books.{stage_fits, task_fits, task_sound}
use Rattle.keyfile.specs.Card.{line_in, card_in}
use Rattle.keyfile.specs.Reading.{called, repeated, ended}
use Rattle.keyfile.specs.Sheet.{task_in, stage_in, sheet_in}
use Rattle.keyfile.proofs.OnFiles.{through, same, was_obeyed, stages_read}
use Rattle.keyinput.specs.declared.question.Question.{Question}
use Rattle.keyinput.specs.declared.question.Question.TheVariants.{Front, Budget, Deadline}
use Rattle.keyinput.specs.Batch.{Offer, offer, offer_in, batch_in}
use Rattle.keyinput.specs.Deciding.{deciding_bytes, FirstBytesDecide}
use Rattle.keyinput.specs.Input.{asked, key_in}
use Rattle.keyinput.specs.Question.{limit_in, question_in}
use Rattle.keyinput.proofs.OnCards.{was_added, lines_read}

-- a reading that is repeated, from what it keeps
module _ {A : Type 0} (once : A → Input → Reading A) (Kept : A → Input → Type 0) (keeps : (made : A) (i : Input) (read : A) (left : Input) → Kept made i → once made i ≡ Ok (read, left) → Kept read left) where
  repeated_keeps : (count : ℕ) (made : A) (i : Input) (read : A) (left : Input) → Kept made i → repeated count once made i ≡ Ok (read, left) → Kept read left
  repeated_keeps zero made i read left kept e = subst (λ (found : A × Input). Kept found.0 found.1) (same _ _ e) kept
  repeated_keeps (suc count) made i read left kept e =
      let one = through (once made i) (repeated count once) (read, left) e in
      repeated_keeps count one.value one.behind read left (keeps made i one.value one.behind kept one.read) one.further

  module _ (tail : List ℕ) (once_more : (made : A) (i : Input) → Kept made i → once made (more tail i) ≡ with_more tail (once made i)) where
    repeated_more : (count : ℕ) (made : A) (i : Input) → Kept made i → repeated count once made (more tail i) ≡ with_more tail (repeated count once made i)
    repeated_more zero made i kept = refl
    repeated_more (suc count) made i kept =
        then_more tail (once made i) (once made (more tail i)) (repeated count once) (once_more made i kept)
        (λ read left e. repeated_more count read left (keeps made i read left kept e))

called_more : {A B : Type 0} (tail : List ℕ) (answer : Answer A) (made : B) (place : ℕ) (left : Input) → called answer made place (more tail left) ≡ with_more tail (called answer made place left)
called_more tail (Ok _) made place left = refl
called_more tail (Err refused) made place left = refl

-- lines of a card: 5 bytes each, and 10 for one that is refused
record LinesRoom (whole : ℕ) (lines : List Line) (left : Input) : Type 0 where
  few : length lines ≤ 32
  room : whole ≤ length left.bytes + 5 * length lines

line_keeps : (room : ℕ) (lines : List Line) (i : Input) (read : List Line) (left : Input) → LinesRoom room lines i → line_in lines i ≡ Ok (read, left) → LinesRoom room read left
line_keeps room lines i read left kept e =
    let speed = through (number_in i) (λ speed behind. then (number_in behind) (λ rate left. called (add_answer lines speed rate) (lines_after lines speed rate) i.place left)) (read, left) e in
    let rate = through (number_in speed.behind) (λ rate left. called (add_answer lines speed.value rate) (lines_after lines speed.value rate) i.place left) (read, left) speed.further in
    let added = was_added lines speed.value rate.value i.place rate.behind (read, left) rate.further in
    let moving = and_parts (leb 1 speed.value) _ added.in_range in
    let ranges = and_parts (leb speed.value 10000) (leb rate.value 1000000) moving.1 in
    let slow = leb-true speed.value 10000 ranges.0 in
    let cheap = leb-true rate.value 1000000 ranges.1 in
    let two = (number_taken i speed.value speed.behind speed.read).two_bytes (omega arith) in
    let three = (number_taken speed.behind rate.value rate.behind rate.read).three_bytes (omega arith) in
    let longer : length read ≡ length lines + 1 = ap length added.made ∙ length-append lines _ in
    let rest : length left.bytes ≡ length rate.behind.bytes = ap (λ (l : Input). length l.bytes) added.rest in
    let few = added.room in
    let was = kept.room in
    record { few = omega arith; room = omega arith }

abbrev line_called : List Line → ℕ → ℕ → ℕ → Input → Reading (List Line)
line_called lines place speed rate left = called (add_answer lines speed rate) (lines_after lines speed rate) place left

abbrev rate_called : List Line → ℕ → ℕ → Input → Reading (List Line)
rate_called lines place speed behind = then (number_in behind) (line_called lines place speed)

line_more : (tail : List ℕ) (lines : List Line) (i : Input) → 10 ≤ length i.bytes → line_in lines (more tail i) ≡ with_more tail (line_in lines i)
line_more tail lines i enough =
    then_more tail (number_in i) (number_in (more tail i)) (rate_called lines i.place) (number_more tail i (omega arith))
    (λ speed behind e.
    let taken = (number_taken i speed behind e).few in
    then_more tail (number_in behind) (number_in (more tail behind)) (line_called lines i.place speed) (number_more tail behind (omega arith))
    (λ rate left f. called_more tail (add_answer lines speed rate) (lines_after lines speed rate) i.place left))

card_more : (tail : List ℕ) (i : Input) → 175 ≤ length i.bytes → card_in (more tail i) ≡ with_more tail (card_in i)
card_more tail i enough =
    then_more tail (number_in i) (number_in (more tail i)) (λ count. repeated count line_in []) (number_more tail i (omega arith))
    (λ count behind e.
    let taken = (number_taken i count behind e).few in
    let room = length behind.bytes in
    repeated_more line_in (LinesRoom room) (line_keeps room) tail
    (λ lines left kept. line_more tail lines left (let r = kept.room in let f = kept.few in omega arith))
    count [] behind (record { few = omega arith; room = omega arith }))

card_taken : (i : Input) (read : List Line) (left : Input) → card_in i ≡ Ok (read, left) → length i.bytes ≤ length left.bytes + 161
card_taken i read left e =
    let count = through (number_in i) (λ count. repeated count line_in []) (read, left) e in
    let room = length count.behind.bytes in
    let kept = repeated_keeps line_in (LinesRoom room) (line_keeps room) count.value [] count.behind read left (record { few = omega arith; room = omega arith }) count.further in
    let lines = lines_read count.value [] count.behind read left count.further in
    let many : length read ≡ count.value = ap length lines.lines_are ∙ lines.counts in
    let few = kept.few in
    let rest = kept.room in
    let one = (number_taken i count.value count.behind count.read).one_byte (omega arith) in
    omega arith

-- stages and tasks of a sheet: 5 bytes for each task count, and 3 for each work
record BookRoom (whole : ℕ) (book : Book) (left : Input) : Type 0 where
  few_stages : book.stages ≤ 16
  few_tasks : length book.tasks ≤ 256
  room : whole ≤ length left.bytes + 5 * book.stages + 3 * length book.tasks

task_keeps : (stage room : ℕ) (book : Book) (i : Input) (read : Book) (left : Input) → BookRoom room book i → task_in stage book i ≡ Ok (read, left) → BookRoom room read left
task_keeps stage room book i read left kept e =
    let work = through (number_in i) (λ work. called (answer book (NewTask stage work)) (step book (NewTask stage work)) i.place) (read, left) e in
    let call = was_obeyed book (NewTask stage work.value) i.place work.behind (read, left) work.further in
    let fits = task_fits book stage work.value call.checks in
    let sound = task_sound book stage work.value call.checks in
    let range = sound.2 in
    let three = (number_taken i work.value work.behind work.read).three_bytes (omega arith) in
    let longer : length read.tasks ≡ length book.tasks + 1 = ap (λ (b : Book). length b.tasks) call.made ∙ length-append book.tasks _ in
    let stages : read.stages ≡ book.stages = ap (λ (b : Book). b.stages) call.made in
    let rest : length left.bytes ≡ length work.behind.bytes = ap (λ (l : Input). length l.bytes) call.rest in
    let few = kept.few_stages in
    let was = kept.room in
    record { few_stages = omega arith; few_tasks = omega arith; room = omega arith }

task_more : (tail : List ℕ) (stage : ℕ) (book : Book) (i : Input) → 5 ≤ length i.bytes → task_in stage book (more tail i) ≡ with_more tail (task_in stage book i)
task_more tail stage book i enough =
    then_more tail (number_in i) (number_in (more tail i)) (λ work. called (answer book (NewTask stage work)) (step book (NewTask stage work)) i.place) (number_more tail i enough)
    (λ work left e. called_more tail (answer book (NewTask stage work)) (step book (NewTask stage work)) i.place left)

-- a stage that was opened behind its task count
stage_opened : (room : ℕ) (book : Book) (i : Input) (count : ℕ) (behind : Input) (read : Book) (left : Input) → BookRoom room book i → number_in i ≡ Ok (count, behind) → called (answer book Stage) (step book Stage) i.place behind ≡ Ok (read, left) → BookRoom room read left
stage_opened room book i count behind read left kept e f =
    let call = was_obeyed book Stage i.place behind (read, left) f in
    let fits = stage_fits book call.checks in
    let taken = (number_taken i count behind e).few in
    let tasks : length read.tasks ≡ length book.tasks = ap (λ (b : Book). length b.tasks) call.made in
    let stages : read.stages ≡ book.stages + 1 = ap (λ (b : Book). b.stages) call.made in
    let rest : length left.bytes ≡ length behind.bytes = ap (λ (l : Input). length l.bytes) call.rest in
    let few = kept.few_tasks in
    let was = kept.room in
    record { few_stages = omega arith; few_tasks = omega arith; room = omega arith }

stage_keeps : (room : ℕ) (book : Book) (i : Input) (read : Book) (left : Input) → BookRoom room book i → stage_in book i ≡ Ok (read, left) → BookRoom room read left
stage_keeps room book i read left kept e =
    let count = through (number_in i) (λ count left. then (called (answer book Stage) (step book Stage) i.place left) (repeated count (task_in book.stages))) (read, left) e in
    let opening = through (called (answer book Stage) (step book Stage) i.place count.behind) (repeated count.value (task_in book.stages)) (read, left) count.further in
    repeated_keeps (task_in book.stages) (BookRoom room) (task_keeps book.stages room) count.value opening.value opening.behind read left
    (stage_opened room book i count.value count.behind opening.value opening.behind kept count.read opening.read) opening.further

stage_more : (room : ℕ) → 853 ≤ room → (tail : List ℕ) (book : Book) (i : Input) → BookRoom room book i → stage_in book (more tail i) ≡ with_more tail (stage_in book i)
stage_more room enough tail book i kept =
    then_more tail (number_in i) (number_in (more tail i)) (λ count left. then (called (answer book Stage) (step book Stage) i.place left) (repeated count (task_in book.stages)))
    (number_more tail i (let f = kept.few_stages in let g = kept.few_tasks in let r = kept.room in omega arith))
    (λ count behind e.
    then_more tail (called (answer book Stage) (step book Stage) i.place behind) (called (answer book Stage) (step book Stage) i.place (more tail behind)) (repeated count (task_in book.stages))
    (called_more tail (answer book Stage) (step book Stage) i.place behind)
    (λ opened left f.
    repeated_more (task_in book.stages) (BookRoom room) (task_keeps book.stages room) tail
    (λ filled rest still. task_more tail book.stages filled rest (let f = still.few_stages in let g = still.few_tasks in let r = still.room in omega arith))
    count opened left (stage_opened room book i count behind opened left kept e f)))

sheet_more : (tail : List ℕ) (i : Input) → 858 ≤ length i.bytes → sheet_in (more tail i) ≡ with_more tail (sheet_in i)
sheet_more tail i enough =
    then_more tail (number_in i) (number_in (more tail i)) (λ count. repeated count stage_in opened) (number_more tail i (omega arith))
    (λ count behind e.
    let taken = (number_taken i count behind e).few in
    let room = length behind.bytes in
    repeated_more stage_in (BookRoom room) (stage_keeps room) tail (stage_more room (omega arith) tail)
    count opened behind (record { few_stages = omega arith; few_tasks = omega arith; room = omega arith }))

sheet_taken : (i : Input) (read : Book) (left : Input) → sheet_in i ≡ Ok (read, left) → length i.bytes ≤ length left.bytes + 849
sheet_taken i read left e =
    let count = through (number_in i) (λ count. repeated count stage_in opened) (read, left) e in
    let room = length count.behind.bytes in
    let kept = repeated_keeps stage_in (BookRoom room) (stage_keeps room) count.value opened count.behind read left (record { few_stages = omega arith; few_tasks = omega arith; room = omega arith }) count.further in
    let stages = stages_read count.value opened count.behind read left count.further in
    let many = stages.counts in
    let all = stages.stages in
    let few = kept.few_stages in
    let tasks = kept.few_tasks in
    let rest = kept.room in
    let one = (number_taken i count.value count.behind count.read).one_byte (omega arith) in
    omega arith

-- a card and a sheet
offer_more : (tail : List ℕ) (i : Input) → 1024 ≤ length i.bytes → offer_in (more tail i) ≡ with_more tail (offer_in i)
offer_more tail i enough =
    then_more tail (card_in i) (card_in (more tail i)) (λ lines behind. then (sheet_in behind) (λ book left. Ok (offer lines book, left))) (card_more tail i (omega arith))
    (λ lines behind e.
    let taken = card_taken i lines behind e in
    then_more tail (sheet_in behind) (sheet_in (more tail behind)) (λ book left. Ok (offer lines book, left)) (sheet_more tail behind (omega arith)) (λ book left f. refl))

offer_taken : (i : Input) (read : Offer) (left : Input) → offer_in i ≡ Ok (read, left) → length i.bytes ≤ length left.bytes + 1010
offer_taken i read left e =
    let card = through (card_in i) (λ lines behind. then (sheet_in behind) (λ book left. Ok (offer lines book, left))) (read, left) e in
    let sheet = through (sheet_in card.behind) (λ book left. Ok (offer card.value book, left)) (read, left) card.further in
    let lines = card_taken i card.value card.behind card.read in
    let works = sheet_taken card.behind sheet.value sheet.behind sheet.read in
    let rest : length sheet.behind.bytes ≡ length left.bytes = ap (λ (found : Offer × Input). length found.1.bytes) (same _ _ sheet.further) in
    omega arith

-- a question
limit_more : (tail : List ℕ) (ask : ℕ → Question) (i : Input) → 5 ≤ length i.bytes → limit_in ask (more tail i) ≡ with_more tail (limit_in ask i)
limit_more tail ask i enough = then_more tail (number_in i) (number_in (more tail i)) (λ limit left. Ok (ask limit, left)) (number_more tail i enough) (λ limit left e. refl)

limit_taken : (ask : ℕ → Question) (i : Input) (read : Question) (left : Input) → limit_in ask i ≡ Ok (read, left) → length i.bytes ≤ length left.bytes + 5
limit_taken ask i read left e =
    let number = through (number_in i) (λ limit left. Ok (ask limit, left)) (read, left) e in
    let taken = (number_taken i number.value number.behind number.read).few in
    let rest : length number.behind.bytes ≡ length left.bytes = ap (λ (found : Question × Input). length found.1.bytes) (same _ _ number.further) in
    omega arith

abbrev chosen : ℕ → Bool → Bool → Bool → Input → Reading Question
chosen place front budget deadline left =
    cond front (Ok (Front, left)) (cond budget (limit_in Budget left) (cond deadline (limit_in Deadline left) (Err (carrying 14 place))))

question_more : (tail : List ℕ) (i : Input) → 10 ≤ length i.bytes → question_in (more tail i) ≡ with_more tail (question_in i)
question_more tail i enough =
    then_more tail (number_in i) (number_in (more tail i)) (λ number left. chosen i.place (eqb number 0) (eqb number 1) (eqb number 2) left) (number_more tail i (omega arith))
    (λ number left e. let taken = (number_taken i number left e).few in by left (omega arith) (eqb number 0) (eqb number 1) (eqb number 2))
  where
    by : (left : Input) → 5 ≤ length left.bytes → (front budget deadline : Bool) → chosen i.place front budget deadline (more tail left) ≡ with_more tail (chosen i.place front budget deadline left)
    by left room true budget deadline = refl
    by left room false true deadline = limit_more tail Budget left room
    by left room false false true = limit_more tail Deadline left room
    by left room false false false = refl

question_taken : (i : Input) (read : Question) (left : Input) → question_in i ≡ Ok (read, left) → length i.bytes ≤ length left.bytes + 10
question_taken i read left e =
    let number = through (number_in i) (λ n left. chosen i.place (eqb n 0) (eqb n 1) (eqb n 2) left) (read, left) e in
    let taken = (number_taken i number.value number.behind number.read).few in
    let rest = by number.behind (eqb number.value 0) (eqb number.value 1) (eqb number.value 2) number.further in
    omega arith
  where
    by : (behind : Input) (front budget deadline : Bool) → chosen i.place front budget deadline behind ≡ Ok (read, left) → length behind.bytes ≤ length left.bytes + 5
    by behind true budget deadline h = let all : length behind.bytes ≡ length left.bytes = ap (λ (found : Question × Input). length found.1.bytes) (same _ _ h) in omega arith
    by behind false true deadline h = limit_taken Budget behind read left h
    by behind false false true h = limit_taken Deadline behind read left h
    by behind false false false h = cc

-- bytes behind the end, wherever they end themselves
ended_more : {A : Type 0} (tail : List ℕ) (made : A) (left : Input) → 1 ≤ length left.bytes → ended made (more tail left) ≡ with_more tail (ended made left)
ended_more tail made left some =
    ap (λ (extra : Bool). refused_at extra 13 left.place (Ok (made, more tail left))) (lt-ltb 0 (length (left.bytes ++ tail)) (let l = length-append left.bytes tail in omega arith))
    ∙ sym (ap (λ (extra : Bool). with_more tail (refused_at extra 13 left.place (Ok (made, left)))) (lt-ltb 0 (length left.bytes) (omega arith)))

batch_more : (tail bytes : List ℕ) → 1024 ≤ length bytes → batch_in (bytes ++ tail) ≡ with_more tail (batch_in bytes)
batch_more tail bytes enough =
    then_more tail (offer_in (input 0 bytes)) (offer_in (more tail (input 0 bytes))) ended (offer_more tail (input 0 bytes) enough)
    (λ read left e. let taken = offer_taken (input 0 bytes) read left e in ended_more tail read left (omega arith))

key_more : (tail bytes : List ℕ) → 1024 ≤ length bytes → key_in (bytes ++ tail) ≡ with_more tail (key_in bytes)
key_more tail bytes enough =
    then_more tail (offer_in (input 0 bytes)) (offer_in (more tail (input 0 bytes))) (λ offer behind. then (question_in behind) (λ question. ended (asked offer.lines offer.book question))) (offer_more tail (input 0 bytes) enough)
    (λ read behind e.
    let taken = offer_taken (input 0 bytes) read behind e in
    then_more tail (question_in behind) (question_in (more tail behind)) (λ question. ended (asked read.lines read.book question)) (question_more tail behind (omega arith))
    (λ question left f.
    let further = question_taken behind question left f in
    ended_more tail (asked read.lines read.book question) left (omega arith)))

decided : {A : Type 0} (reading : List ℕ → Reading A) → ((tail bytes : List ℕ) → 1024 ≤ length bytes → reading (bytes ++ tail) ≡ with_more tail (reading bytes)) → FirstBytesDecide reading
decided reading enough bytes =
    ⊎_elim
    (λ (short : length bytes < 1025). ap (λ (b : List ℕ). value_of (reading b)) (take_all deciding_bytes bytes (omega arith)))
    (λ (long : 1025 ≤ length bytes).
    let first = take deciding_bytes bytes in
    let count : length first ≡ 1024 = length-take-le deciding_bytes bytes (omega arith) in
    sym (
    ap (λ (b : List ℕ). value_of (reading b)) (sym (take-append-drop deciding_bytes bytes))
    ∙ ap value_of (enough (drop deciding_bytes bytes) first (omega arith))
    ∙ same_value (drop deciding_bytes bytes) (reading first)
    ))
    (cases_lt (length bytes) 1025)

pub first_bytes_decide_input : FirstBytesDecide key_in
first_bytes_decide_input = decided key_in key_more

pub first_bytes_decide_batch : FirstBytesDecide batch_in
first_bytes_decide_batch = decided batch_in batch_more
