-- Cards that were read, with the bytes that spell them
use Rattle.std.proofs.Common.{◌≡◌, ℕ, zero, suc, ◌<◌, Bool, true, false, cond, not, leb, List, [], ◌∷◌, ◌++◌, length, is_ok, Ok, sym, refl, ap, ◌∙◌, subst, append_assoc, arith}
use Rattle.std.specs.List.{flat_map}
use Rattle.std.proofs.lemmas.List.{append-nil}
use Rattle.std.proofs.lemmas.Bool.{leb-true, leb-false, and_parts}
use Rattle.refusals.specs.Answer.{Answer, refused_if}
use Rattle.numbers.specs.Input.{Input, then}
use Rattle.numbers.specs.Number.{spelled, number_in}
use Rattle.numbers.specs.Spellings.{ByteString}
use Rattle.numbers.proofs.OnSpellings.{only_spellings_are_read}
use Rattle.tariffs.specs.declared.line.Line.{Line}
use Rattle.tariffs.specs.Card.{add_answer, lines_after}
use Rattle.tariffs.specs.Line.{line, line_in_range}
use Rattle.keyfile.specs.Card.{line_in, card_in}
use Rattle.keyfile.specs.Reading.{called, repeated}
use Rattle.keyfile.proofs.OnFiles.{through, same, behind_spelled}
use Rattle.keyinput.specs.Spelled.{spelled_line, spelled_card}

-- a line that was added between readings
pub record Added (lines : List Line) (speed rate : ℕ) (left : Input) (found : List Line × Input) : Type 0 where
  pub room : length lines < 32
  pub made : found.0 ≡ lines ++ (line speed rate ∷ [])
  pub rest : found.1 ≡ left
  pub in_range : line_in_range speed rate ≡ true

pub was_added : (lines : List Line) (speed rate place : ℕ) (left : Input) (found : List Line × Input) → called (add_answer lines speed rate) (lines_after lines speed rate) place left ≡ Ok found → Added lines speed rate left found
was_added lines speed rate place left found = by (leb 32 (length lines)) (line_in_range speed rate) refl refl
  where
    told : Bool → Bool → Answer ℕ
    told full good = refused_if full 4 (refused_if (not good) 5 (Ok (length lines)))

    by : (full good : Bool) → leb 32 (length lines) ≡ full → line_in_range speed rate ≡ good → called (told full good) (cond (is_ok (told full good)) (lines ++ (line speed rate ∷ [])) lines) place left ≡ Ok found → Added lines speed rate left found
    by true good f r e = cc
    by false false f r e = cc
    by false true f r e = let p = same _ _ e in record { room = leb-false 32 (length lines) f; made = ap (λ q. q.0) (sym p); rest = ap (λ q. q.1) (sym p); in_range = r }

-- a line in range keeps its numbers
line_spelled : (speed rate : ℕ) → line_in_range speed rate ≡ true → spelled_line (line speed rate) ≡ spelled speed ++ spelled rate
line_spelled speed rate e =
    let p = and_parts (leb 1 speed) _ e in
    let q = and_parts (leb speed 10000) (leb rate 1000000) p.1 in
    let least = leb-true 1 speed p.0 in
    let most = leb-true speed 10000 q.0 in
    let priced = leb-true rate 1000000 q.1 in
    let s : (line speed rate).speed ≡ speed = omega arith in
    let r : (line speed rate).rate ≡ rate = omega arith in
    ap (λ n. spelled n ++ spelled (line speed rate).rate) s ∙ ap (λ n. spelled speed ++ spelled n) r

pub record LinesRead (count : ℕ) (lines : List Line) (before : Input) (read : List Line) (left : Input) : Type 0 where
  pub added : List Line
  pub counts : length added ≡ count
  pub lines_are : read ≡ lines ++ added
  pub spelt : ByteString before.bytes → before.bytes ≡ flat_map spelled_line added ++ left.bytes

pub lines_read : (count : ℕ) (lines : List Line) (before : Input) (read : List Line) (left : Input) → repeated count line_in lines before ≡ Ok (read, left) → LinesRead count lines before read left
lines_read zero lines before read left e =
    let p = same _ _ e in
    record {
      added = [];
      counts = refl;
      lines_are = ap (λ q. q.0) (sym p) ∙ sym (append-nil lines);
      spelt = λ _. ap (λ (q : List Line × Input). q.1.bytes) p;
    }
lines_read (suc count) lines before read left e =
    let one = through (line_in lines before) (repeated count line_in) (read, left) e in
    let speed = through (number_in before) (λ speed behind. then (number_in behind) (λ rate left. called (add_answer lines speed rate) (lines_after lines speed rate) before.place left)) (one.value, one.behind) one.read in
    let rate = through (number_in speed.behind) (λ rate left. called (add_answer lines speed.value rate) (lines_after lines speed.value rate) before.place left) (one.value, one.behind) speed.further in
    let call = was_added lines speed.value rate.value before.place rate.behind (one.value, one.behind) rate.further in
    let rest = lines_read count one.value one.behind read left one.further in
    let new = line speed.value rate.value in
    record {
      added = new ∷ rest.added;
      counts = ap suc rest.counts;
      lines_are = rest.lines_are ∙ ap (λ l. l ++ rest.added) call.made ∙ append_assoc lines (new ∷ []) rest.added;
      spelt = λ strung.
          let P : List ℕ → Type 0 = ByteString in
          let speed_bytes = only_spellings_are_read before speed.value speed.behind strung speed.read in
          let strung_rate = behind_spelled before speed.value speed.behind strung speed_bytes in
          let rate_bytes = only_spellings_are_read speed.behind rate.value rate.behind strung_rate rate.read in
          let same_left : one.behind.bytes ≡ rate.behind.bytes = ap (λ (i : Input). i.bytes) call.rest in
          let strung_rest : ByteString one.behind.bytes = subst P (sym same_left) (behind_spelled speed.behind rate.value rate.behind strung_rate rate_bytes) in
          speed_bytes.bytes
          ∙ ap (λ l. spelled speed.value ++ l) (rate_bytes.bytes ∙ ap (λ l. spelled rate.value ++ l) (sym same_left ∙ rest.spelt strung_rest))
          ∙ sym (append_assoc (spelled speed.value) (spelled rate.value) (flat_map spelled_line rest.added ++ left.bytes))
          ∙ ap (λ l. l ++ (flat_map spelled_line rest.added ++ left.bytes)) (sym (line_spelled speed.value rate.value call.in_range))
          ∙ sym (append_assoc (spelled_line new) (flat_map spelled_line rest.added) left.bytes);
    }

pub card_read : (before : Input) (read : List Line) (left : Input) → ByteString before.bytes → card_in before ≡ Ok (read, left) → before.bytes ≡ spelled_card read ++ left.bytes
card_read before read left strung e =
    let number = through (number_in before) (λ count. repeated count line_in []) (read, left) e in
    let lines = lines_read number.value [] number.behind read left number.further in
    let count_bytes = only_spellings_are_read before number.value number.behind strung number.read in
    let strung_lines = behind_spelled before number.value number.behind strung count_bytes in
    let added : lines.added ≡ read = sym lines.lines_are in
    count_bytes.bytes
    ∙ ap (λ n. spelled n ++ number.behind.bytes) (sym lines.counts)
    ∙ ap (λ l. spelled (length lines.added) ++ l) (lines.spelt strung_lines)
    ∙ sym (append_assoc (spelled (length lines.added)) (flat_map spelled_line lines.added) left.bytes)
    ∙ ap (λ (ls : List Line). spelled_card ls ++ left.bytes) added
