-- What is written is read again, and what is read was so written
use Rattle.std.proofs.Common.{◌≡◌, ℕ, zero, suc, ◌+◌, ◌^◌, ◌<◌, ◌≤◌, Bool, true, false, ltb, List, [], ◌∷◌, ◌++◌, map, length, Ok, Err, Option, sym, refl, ap, ◌∙◌, subst, append_assoc, add-zero, arith, length-append}
use Rattle.std.specs.List.{range_with_len, flat_map as joined, AllByRecursion}
use Rattle.std.proofs.lemmas.List.FromFn.{length-map-range_with_len}
use Rattle.std.proofs.lemmas.List.{append-nil, length-map, nil_from_length}
use Rattle.std.proofs.lemmas.Bool.{ltb-false}
use Rattle.refusals.specs.Answer.{Answer}
use Rattle.numbers.specs.Input.{Input, input, Reading, then, value_of, refused_at}
use Rattle.numbers.specs.Number.{spelled, number_in}
use Rattle.numbers.specs.Spellings.{ByteString, SpelledAt}
use Rattle.numbers.proofs.OnSpellings.{spellings_are_read, only_spellings_are_read}
use Rattle.sheets.specs.Book.{Book, book, book_of, opened, accepted, checked, answer, number, obeyed, step}
use Rattle.sheets.specs.History.{after, book_after, Sound}
use Rattle.sheets.specs.Tasks.{new_task, max_stages, max_tasks}
use Rattle.sheets.specs.declared.call.Call.{Call}
use Rattle.sheets.specs.declared.call.Call.TheVariants.{Stage, Task as NewTask}
use Rattle.sheets.specs.declared.task.Task.{Task}
use Rattle.sheets.proofs.Books.{step_accepted}
use Rattle.sheets.proofs.Calls.{stage_accepted, task_accepted}
use Rattle.sheets.proofs.Histories.{after_append, sheet_sound}
use Rattle.keyfile.specs.Reading.{called, repeated, ended}
use Rattle.keyfile.specs.Sheet.{task_in, stage_in, sheet_in, file_in}
use Rattle.keyfile.specs.Works.{stage_works, works_by_stage, spelled_stage, spelled_sheet, calls_from, file_calls}
use Rattle.keyfile.specs.Files.{IsReadAgain, WhatIsWrittenIsReadAgain, WhatIsReadWasSoWritten, WhatIsReadIsKnown, AcceptedFilesAreAsWritten, EachSheetHasOneFile}
use Rattle.keyfile.proofs.Grouping.{tasks_from, grouped, total, counted, InRange, works_in_range}

-- the parts of a reading that gave something
pub record Through {A B : Type 0} (first : Reading A) (next : A → Input → Reading B) (found : B × Input) : Type 0 where
  pub value : A
  pub behind : Input
  pub read : first ≡ Ok (value, behind)
  pub further : next value behind ≡ Ok found

pub through : {A B : Type 0} (first : Reading A) (next : A → Input → Reading B) (found : B × Input) → then first next ≡ Ok found → Through first next found
through (Ok p) next found e = record { value = p.0; behind = p.1; read = refl; further = e }
through (Err refused) next found e = cc

pub same : {A : Type 0} (a b : A) → ◌≡◌ {A = Answer A} (Ok a) (Ok b) → a ≡ b
same a b e = cc

-- a call that was accepted between readings
pub record Obeyed (book : Book) (call : Call) (left : Input) (found : Book × Input) : Type 0 where
  pub checks : accepted ≡ checked book call
  pub made : found.0 ≡ obeyed book call
  pub rest : found.1 ≡ left
  pub stepped : found.0 ≡ step book call

pub was_obeyed : (book : Book) (call : Call) (place : ℕ) (left : Input) (found : Book × Input) → called (answer book call) (step book call) place left ≡ Ok found → Obeyed book call left found
was_obeyed book call place left found = by (checked book call) refl
  where
    by : (outcome : Answer (Unit {0})) → outcome ≡ checked book call → called (elim outcome as (λ _. Answer (Option ℕ)) [ Ok _ ↦ Ok (number book call) | Err refused ↦ Err refused ]) (elim outcome as (λ _. Book) [ Ok _ ↦ obeyed book call | Err refused ↦ book ]) place left ≡ Ok found → Obeyed book call left found
    by (Ok _) e h =
        let p = same _ _ h in
        let m : found.0 ≡ obeyed book call = ap (λ q. q.0) (sym p) in
        record { checks = e; made = m; rest = ap (λ q. q.1) (sym p); stepped = m ∙ sym (step_accepted book call e) }
    by (Err refused) e h = cc

pub string_behind : (bytes others : List ℕ) → ByteString (bytes ++ others) → ByteString others
string_behind [] others all = all
string_behind (byte ∷ bytes) others all = string_behind bytes others all.1

pub behind_spelled : (before : Input) (n : ℕ) (left : Input) → ByteString before.bytes → SpelledAt before n left → ByteString left.bytes
behind_spelled before n left strung spelt =
    let P : List ℕ → Type 0 = ByteString in string_behind (spelled n) left.bytes (subst P spelt.bytes strung)

-- the tasks of a stage that were read
pub record TasksRead (stage count : ℕ) (book : Book) (before : Input) (read : Book) (left : Input) : Type 0 where
  pub works : List ℕ
  pub counts : length works ≡ count
  pub known : read ≡ after book (map (NewTask stage) works)
  pub tasks : read.tasks ≡ book.tasks ++ map (new_task stage) works
  pub stages : read.stages ≡ book.stages
  pub spelt : ByteString before.bytes → before.bytes ≡ joined spelled works ++ left.bytes

pub tasks_read : (stage count : ℕ) (book : Book) (before : Input) (read : Book) (left : Input) → repeated count (task_in stage) book before ≡ Ok (read, left) → TasksRead stage count book before read left
tasks_read stage zero book before read left e =
    let p = same _ _ e in
    let b : book ≡ read = ap (λ q. q.0) p in
    let l : before ≡ left = ap (λ q. q.1) p in
    record {
      works = [];
      counts = refl;
      known = sym b;
      tasks = ap (λ (k : Book). k.tasks) (sym b) ∙ sym (append-nil book.tasks);
      stages = ap (λ (k : Book). k.stages) (sym b);
      spelt = λ _. ap (λ (i : Input). i.bytes) l;
    }
tasks_read stage (suc count) book before read left e =
    let one = through (task_in stage book before) (repeated count (task_in stage)) (read, left) e in
    let work = through (number_in before) (λ work. called (answer book (NewTask stage work)) (step book (NewTask stage work)) before.place) (one.value, one.behind) one.read in
    let call = was_obeyed book (NewTask stage work.value) before.place work.behind (one.value, one.behind) work.further in
    let rest = tasks_read stage count one.value one.behind read left one.further in
    record {
      works = work.value ∷ rest.works;
      counts = ap suc rest.counts;
      known = rest.known ∙ ap (λ (b : Book). after b (map (NewTask stage) rest.works)) call.stepped;
      tasks = rest.tasks ∙ ap (λ (b : Book). b.tasks ++ map (new_task stage) rest.works) call.made ∙ append_assoc book.tasks (new_task stage work.value ∷ []) (map (new_task stage) rest.works);
      stages = rest.stages ∙ ap (λ (b : Book). b.stages) call.made;
      spelt = λ strung.
          let number = only_spellings_are_read before work.value work.behind strung work.read in
          let same_left : one.behind.bytes ≡ work.behind.bytes = ap (λ (i : Input). i.bytes) call.rest in
          let P : List ℕ → Type 0 = ByteString in
          number.bytes ∙ ap (λ l. spelled work.value ++ l) (sym same_left ∙ rest.spelt (subst P (sym same_left) (behind_spelled before work.value work.behind strung number)))
          ∙ sym (append_assoc (spelled work.value) (joined spelled rest.works) left.bytes);
    }

-- the stages that were read
pub record StagesRead (count : ℕ) (book : Book) (before : Input) (read : Book) (left : Input) : Type 0 where
  pub works : List (List ℕ)
  pub counts : length works ≡ count
  pub known : read ≡ after book (calls_from book.stages works)
  pub tasks : read.tasks ≡ book.tasks ++ tasks_from book.stages works
  pub stages : read.stages ≡ book.stages + length works
  pub spelt : ByteString before.bytes → before.bytes ≡ joined spelled_stage works ++ left.bytes

pub stages_read : (count : ℕ) (book : Book) (before : Input) (read : Book) (left : Input) → repeated count stage_in book before ≡ Ok (read, left) → StagesRead count book before read left
stages_read zero book before read left e =
    let p = same _ _ e in
    let b : book ≡ read = ap (λ q. q.0) p in
    let l : before ≡ left = ap (λ q. q.1) p in
    record {
      works = [];
      counts = refl;
      known = sym b;
      tasks = ap (λ (k : Book). k.tasks) (sym b) ∙ sym (append-nil book.tasks);
      stages = ap (λ (k : Book). k.stages) (sym b) ∙ sym (add-zero book.stages);
      spelt = λ _. ap (λ (i : Input). i.bytes) l;
    }
stages_read (suc count) book before read left e =
    let one = through (stage_in book before) (repeated count stage_in) (read, left) e in
    let number = through (number_in before) (λ tasks left. then (called (answer book Stage) (step book Stage) before.place left) (repeated tasks (task_in book.stages))) (one.value, one.behind) one.read in
    let opening = through (called (answer book Stage) (step book Stage) before.place number.behind) (repeated number.value (task_in book.stages)) (one.value, one.behind) number.further in
    let call = was_obeyed book Stage before.place number.behind (opening.value, opening.behind) opening.read in
    let filled = tasks_read book.stages number.value opening.value opening.behind one.value one.behind opening.further in
    let rest = stages_read count one.value one.behind read left one.further in
    let stage : one.value.stages ≡ book.stages + 1 = filled.stages ∙ ap (λ (b : Book). b.stages) call.made in
    let tasks : one.value.tasks ≡ book.tasks ++ map (new_task book.stages) filled.works = filled.tasks ∙ ap (λ (b : Book). b.tasks ++ map (new_task book.stages) filled.works) call.made in
    record {
      works = filled.works ∷ rest.works;
      counts = ap suc rest.counts;
      known =
          rest.known
          ∙ ap (λ n. after one.value (calls_from n rest.works)) stage
          ∙ ap (λ (b : Book). after b (calls_from (book.stages + 1) rest.works)) (filled.known ∙ ap (λ (b : Book). after b (map (NewTask book.stages) filled.works)) call.stepped)
          ∙ sym (after_append (step book Stage) (map (NewTask book.stages) filled.works) (calls_from (book.stages + 1) rest.works));
      tasks =
          rest.tasks
          ∙ ap (λ n. one.value.tasks ++ tasks_from n rest.works) stage
          ∙ ap (λ (ts : List Task). ts ++ tasks_from (book.stages + 1) rest.works) tasks
          ∙ append_assoc book.tasks (map (new_task book.stages) filled.works) (tasks_from (book.stages + 1) rest.works);
      stages = let s = rest.stages in omega arith;
      spelt = λ strung.
          let count_bytes = only_spellings_are_read before number.value number.behind strung number.read in
          let same_left : opening.behind.bytes ≡ number.behind.bytes = ap (λ (i : Input). i.bytes) call.rest in
          let P : List ℕ → Type 0 = ByteString in
          let strung_tasks : ByteString opening.behind.bytes = subst P (sym same_left) (behind_spelled before number.value number.behind strung count_bytes) in
          let task_bytes = filled.spelt strung_tasks in
          let strung_rest : ByteString one.behind.bytes = string_behind (joined spelled filled.works) one.behind.bytes (subst P task_bytes strung_tasks) in
          count_bytes.bytes
          ∙ ap (λ n. spelled n ++ number.behind.bytes) (sym filled.counts)
          ∙ ap (λ l. spelled (length filled.works) ++ l) (sym same_left ∙ task_bytes ∙ ap (λ l. joined spelled filled.works ++ l) (rest.spelt strung_rest))
          ∙ sym (append_assoc (spelled (length filled.works)) (joined spelled filled.works) (joined spelled_stage rest.works ++ left.bytes))
          ∙ sym (append_assoc (spelled_stage filled.works) (joined spelled_stage rest.works) left.bytes);
    }

-- a sheet that was read, with its works
record SheetRead (before : Input) (read : Book) (left : Input) : Type 0 where
  works : List (List ℕ)
  grouping : works_by_stage read ≡ works
  known : read ≡ book_after (file_calls works)
  spelt : ByteString before.bytes → before.bytes ≡ spelled_sheet works ++ left.bytes

group : (stages : List (List ℕ)) (read : Book) → read.tasks ≡ tasks_from 0 stages → read.stages ≡ length stages → works_by_stage read ≡ stages
group stages read tasks count =
    ap (λ (ts : List Task). map (stage_works ts) (range_with_len 0 read.stages)) tasks
    ∙ ap (λ n. map (stage_works (tasks_from 0 stages)) (range_with_len 0 n)) count
    ∙ grouped [] 0 stages tt

sheet_read : (before : Input) (read : Book) (left : Input) → sheet_in before ≡ Ok (read, left) → SheetRead before read left
sheet_read before read left e =
    let number = through (number_in before) (λ count. repeated count stage_in opened) (read, left) e in
    let stages = stages_read number.value opened number.behind read left number.further in
    record {
      works = stages.works;
      grouping = group stages.works read stages.tasks (let s = stages.stages in omega arith);
      known = stages.known;
      spelt = λ strung.
          let count_bytes = only_spellings_are_read before number.value number.behind strung number.read in
          count_bytes.bytes
          ∙ ap (λ n. spelled n ++ number.behind.bytes) (sym stages.counts)
          ∙ ap (λ l. spelled (length stages.works) ++ l) (stages.spelt (behind_spelled before number.value number.behind strung count_bytes))
          ∙ sym (append_assoc (spelled (length stages.works)) (joined spelled_stage stages.works) left.bytes);
    }

pub what_is_read_was_so_written : WhatIsReadWasSoWritten
what_is_read_was_so_written before read left strung e =
    let sheet = sheet_read before read left e in
    sheet.spelt strung ∙ ap (λ (works : List (List ℕ)). spelled_sheet works ++ left.bytes) (sym sheet.grouping)

pub what_is_read_is_known : WhatIsReadIsKnown
what_is_read_is_known before read left e =
    let sheet = sheet_read before read left e in
    sheet.known ∙ ap (λ (works : List (List ℕ)). book_after (file_calls works)) (sym sheet.grouping)

-- a file's end
pub ended_all : {A : Type 0} (read : A) (left : Input) (found : A × Input) → ended read left ≡ Ok found → (read ≡ found.0) × (left.bytes ≡ [])
ended_all read left found e = by (ltb 0 (length left.bytes)) refl e
  where
    by : (some : Bool) → ltb 0 (length left.bytes) ≡ some → refused_at some 13 left.place (Ok (read, left)) ≡ Ok found → (read ≡ found.0) × (left.bytes ≡ [])
    by true s h = cc
    by false s h = (ap (λ q. q.0) (same _ _ h), nil_from_length left.bytes (omega (arith, ltb-false 0 (length left.bytes) s)))

pub accepted_files_are_as_written : AcceptedFilesAreAsWritten
accepted_files_are_as_written bytes read strung = by (file_in bytes) refl
  where
    by : (reading : Reading Book) → file_in bytes ≡ reading → value_of reading ≡ Ok read → bytes ≡ spelled_sheet (works_by_stage read)
    by (Err refused) r e = cc
    by (Ok found) r e =
        let parts = through (sheet_in (input 0 bytes)) ended found r in
        let end = ended_all parts.value parts.behind found parts.further in
        what_is_read_was_so_written (input 0 bytes) parts.value parts.behind strung parts.read
        ∙ ap (λ l. spelled_sheet (works_by_stage parts.value) ++ l) end.1
        ∙ append-nil (spelled_sheet (works_by_stage parts.value))
        ∙ ap (λ (b : Book). spelled_sheet (works_by_stage b)) (end.0 ∙ same _ _ e)

pub each_sheet_has_one_file : EachSheetHasOneFile
each_sheet_has_one_file bytes others read also_read strung also_strung e f works =
    accepted_files_are_as_written bytes read strung e
    ∙ ap (λ (stages : List (List ℕ)). spelled_sheet stages) works
    ∙ sym (accepted_files_are_as_written others also_read also_strung f)

-- a call that is accepted between readings
obeys : (book : Book) (call : Call) (place : ℕ) (left : Input) → accepted ≡ checked book call → called (answer book call) (step book call) place left ≡ Ok (obeyed book call, left)
obeys book call place left e =
    ap (λ (outcome : Answer (Unit {0})). called (elim outcome as (λ _. Answer (Option ℕ)) [ Ok _ ↦ Ok (number book call) | Err refused ↦ Err refused ]) (elim outcome as (λ _. Book) [ Ok _ ↦ obeyed book call | Err refused ↦ book ]) place left) (sym e)

pub number_then : {B : Type 0} (n place : ℕ) (rest : List ℕ) (next : ℕ → Input → Reading B) → n < 2 ^ 32 → then (number_in (input place (spelled n ++ rest))) next ≡ next n (input (place + length (spelled n)) rest)
number_then n place rest next h = ap (λ (r : Reading ℕ). then r next) (spellings_are_read n place rest h)

-- one place behind two pieces
pub along : (place : ℕ) (p q rest : List ℕ) → input (place + length p + length q) rest ≡ input (place + length (p ++ q)) rest
along place p q rest = let l = length-append p q in ap (λ n. input n rest) (omega arith)

tasks_written : (stage stages : ℕ) (works : List ℕ) (tasks : List Task) (place : ℕ) (rest : List ℕ) → stage < stages → length tasks + length works ≤ max_tasks → AllByRecursion InRange works → repeated (length works) (task_in stage) (book_of stages tasks) (input place (joined spelled works ++ rest)) ≡ Ok (book_of stages (tasks ++ map (new_task stage) works), input (place + length (joined spelled works)) rest)
tasks_written stage stages [] tasks place rest here room range =
    ap (λ (found : Book × Input). Ok found) (ap (λ (ts : List Task). (book_of stages ts, input place rest)) (sym (append-nil tasks)) ∙ ap (λ n. (book_of stages (tasks ++ []), input n rest)) (sym (add-zero place)))
tasks_written stage stages (work ∷ works) tasks place rest here room range =
    let again = repeated (length works) (task_in stage) in
    let calling = λ (w : ℕ) (left : Input). called (answer (book_of stages tasks) (NewTask stage w)) (step (book_of stages tasks) (NewTask stage w)) place left in
    let behind = input (place + length (spelled work)) (joined spelled works ++ rest) in
    let added = tasks ++ (new_task stage work ∷ []) in
    let longer = length-append tasks (new_task stage work ∷ []) in
    let read : task_in stage (book_of stages tasks) (input place ((spelled work ++ joined spelled works) ++ rest)) ≡ Ok (book_of stages added, behind) =
    ap (λ l. then (number_in (input place l)) calling) (append_assoc (spelled work) (joined spelled works) rest)
    ∙ number_then work place (joined spelled works ++ rest) calling (let r = range.0 in omega arith)
    ∙ obeys (book_of stages tasks) (NewTask stage work) place behind (task_accepted (book_of stages tasks) stage work (omega arith) (here, range.0.0, range.0.1)) in
    ap (λ (r : Reading Book). then r again) read
    ∙ tasks_written stage stages works added (place + length (spelled work)) rest here (omega arith) range.1
    ∙ ap (λ (ts : List Task). Ok (book_of stages ts, input (place + length (spelled work) + length (joined spelled works)) rest)) (append_assoc tasks (new_task stage work ∷ []) (map (new_task stage) works))
    ∙ ap (λ (i : Input). Ok (book_of stages (tasks ++ map (new_task stage) (work ∷ works)), i)) (along place (spelled work) (joined spelled works) rest)

stages_written : (stages : List (List ℕ)) (count : ℕ) (tasks : List Task) (place : ℕ) (rest : List ℕ) → count + length stages ≤ max_stages → length tasks + total stages ≤ max_tasks → AllByRecursion (AllByRecursion InRange) stages → repeated (length stages) stage_in (book_of count tasks) (input place (joined spelled_stage stages ++ rest)) ≡ Ok (book_of (count + length stages) (tasks ++ tasks_from count stages), input (place + length (joined spelled_stage stages)) rest)
stages_written [] count tasks place rest few room range =
    ap (λ (found : Book × Input). Ok found) (ap (λ (ts : List Task). (book_of count ts, input place rest)) (sym (append-nil tasks)) ∙ ap (λ n. (book_of n (tasks ++ []), input place rest)) (sym (add-zero count)) ∙ ap (λ n. (book_of (count + 0) (tasks ++ []), input n rest)) (sym (add-zero place)))
stages_written (works ∷ stages) count tasks place rest few room range =
    let again = repeated (length stages) stage_in in
    let book = book_of count tasks in
    let filling = λ (n : ℕ) (left : Input). then (called (answer book Stage) (step book Stage) place left) (repeated n (task_in count)) in
    let later = joined spelled_stage stages ++ rest in
    let added = tasks ++ map (new_task count) works in
    let longer = length-append tasks (map (new_task count) works) in
    let mapped = length-map works (new_task count) in
    let after_count = place + length (spelled (length works)) in
    let behind = input (place + length (spelled_stage works)) later in
    let read : stage_in book (input place (joined spelled_stage (works ∷ stages) ++ rest)) ≡ Ok (book_of (count + 1) added, behind) =
    ap (λ l. then (number_in (input place l)) filling) (append_assoc (spelled_stage works) (joined spelled_stage stages) rest ∙ append_assoc (spelled (length works)) (joined spelled works) later)
    ∙ number_then (length works) place (joined spelled works ++ later) filling (omega arith)
    ∙ ap (λ (r : Reading Book). then r (repeated (length works) (task_in count))) (obeys book Stage place (input after_count (joined spelled works ++ later)) (stage_accepted book (omega arith)))
    ∙ tasks_written count (count + 1) works tasks after_count later (omega arith) (omega arith) range.0
    ∙ ap (λ (i : Input). Ok (book_of (count + 1) added, i)) (along place (spelled (length works)) (joined spelled works) later) in
    ap (λ (r : Reading Book). then r again) read
    ∙ stages_written stages (count + 1) added (place + length (spelled_stage works)) rest (omega arith) (omega arith) range.1
    ∙ ap (λ n. Ok (book_of n (added ++ tasks_from (count + 1) stages), input (place + length (spelled_stage works) + length (joined spelled_stage stages)) rest)) (let e : count + 1 + length stages ≡ count + suc (length stages) = omega arith in e)
    ∙ ap (λ (ts : List Task). Ok (book_of (count + suc (length stages)) ts, input (place + length (spelled_stage works) + length (joined spelled_stage stages)) rest)) (append_assoc tasks (map (new_task count) works) (tasks_from (count + 1) stages))
    ∙ ap (λ (i : Input). Ok (book_of (count + suc (length stages)) (tasks ++ tasks_from count (works ∷ stages)), i)) (along place (spelled_stage works) (joined spelled_stage stages) rest)

written_again : (book : Book) → Sound book → IsReadAgain book
written_again book sound = record {
  read = read;
  same_works = group stages read refl (omega arith);
  alone =
      ap (λ l. value_of (file_in l)) (sym (append-nil (spelled_sheet stages)))
      ∙ ap (λ (r : Reading Book). value_of (then r ended)) (followed 0 []);
  followed = followed;
}
  where
    stages : List (List ℕ)
    stages = works_by_stage book

    read : Book
    read = book_of (0 + length stages) ([] ++ tasks_from 0 stages)

    followed : (place : ℕ) (rest : List ℕ) → sheet_in (input place (spelled_sheet stages ++ rest)) ≡ Ok (read, input (place + length (spelled_sheet stages)) rest)
    followed place rest =
        let count = length-map-range_with_len (stage_works book.tasks) 0 book.stages in
        let few_stages : length stages ≤ max_stages = let s = sound.few_stages in omega arith in
        let few_tasks : total stages ≤ max_tasks = let s = sound.few_tasks in let t = counted book.tasks 0 book.stages in omega arith in
        ap (λ l. then (number_in (input place l)) (λ n. repeated n stage_in opened)) (append_assoc (spelled (length stages)) (joined spelled_stage stages) rest)
        ∙ number_then (length stages) place (joined spelled_stage stages ++ rest) (λ n. repeated n stage_in opened) (omega arith)
        ∙ stages_written stages 0 [] (place + length (spelled (length stages))) rest (omega arith) (omega arith) (works_in_range book.stages book.tasks sound.tasks_sound 0 book.stages)
        ∙ ap (λ (i : Input). Ok (read, i)) (along place (spelled (length stages)) (joined spelled_stage stages) rest)

pub what_is_written_is_read_again : WhatIsWrittenIsReadAgain
what_is_written_is_read_again sheet = written_again (book sheet) (sheet_sound sheet)
