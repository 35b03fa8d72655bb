use Rattle.std.proofs.Common.{◌≡◌, ℕ, List, take, Ok, Err, sym, refl, ap, ◌∙◌, arith, rules}
use Rattle.refusals.specs.Answer.{Answer}
use Rattle.numbers.specs.Input.{value_of}
use Rattle.texts.specs.Write.{write_answer, write_after, Writes}
use Rattle.keyfile.specs.Refusal.{file_told}
use Rattle.keyinput.specs.Deciding.{deciding_bytes, FirstBytesDecide}
use Rattle.keyinput.specs.Input.{Asked, asked_by, key_in}
use Rattle.keyanswer.specs.Answer.{answered, text_of, key_text}
use Rattle.keyanswer.proofs.Texts.{first_bytes}
use Rattle.keyanswer.proofs.Words.{text_tells, refusal_tells, told_written}
use Rattle.keyanswer.proofs.answer.answer_key.Goals as goal

-- what was read of the first bytes was read of all
of_all : FirstBytesDecide key_in → (input : List ℕ) (count : ℕ) (answer : Answer Asked) → take count input ≡ take deciding_bytes input → answer ≡ value_of (key_in (take count input)) → answer ≡ value_of (key_in input)
of_all decided input count answer first e = e ∙ ap (λ bytes. value_of (key_in bytes)) first ∙ decided input

pub returns-in-Ok : goal.returns-in-Ok
returns-in-Ok c =
    let input = c.args.input.now in
    let first = first_bytes input c.min-deciding.result deciding_bytes c.min-deciding.ensures in
    let read = of_all c.in-Ok.ensures.decided input c.min-deciding.result (Ok (asked_by c.in-Ok.key)) first c.in-Ok.ensures.answer in
    let same = ap (λ (a : Answer Asked). text_of (answered a)) read in
    let text : Writes (key_text input) c.args.text.now c.answer_question.new.text c.answer_question.result = record {
      answer = rw (← same) (search rules);
      after = rw (← same) (search rules);
    } in
    record {
      text = text;
      fits = c.answer_question.ensures.fits;
      words = told_written input (key_text input) _ _ _ text (text_tells input (key_text input) c.in-Ok.key (sym read) (sym same));
      decided = c.in-Ok.ensures.decided;
      sizes = (refl, refl);
    }

pub returns-in-Err : goal.returns-in-Err
returns-in-Err c =
    let input = c.args.input.now in
    let first = first_bytes input c.min-deciding.result deciding_bytes c.min-deciding.ensures in
    let read = of_all c.in-Err.ensures.decided input c.min-deciding.result (Err (file_told c.in-Err.refusal)) first c.in-Err.ensures.answer in
    let same = ap (λ (a : Answer Asked). text_of (answered a)) read in
    let text : Writes (key_text input) c.args.text.now c.write_refusal.new.memory c.write_refusal.result = record {
      answer = c.write_refusal.ensures.text.answer ∙ ap (λ text. write_answer text c.args.text.now) same;
      after = c.write_refusal.ensures.text.after ∙ ap (λ text. write_after text c.args.text.now) same;
    } in
    record {
      text = text;
      fits = λ room. c.write_refusal.ensures.fits (omega arith);
      words = told_written input (key_text input) _ _ _ text (refusal_tells input (key_text input) (file_told c.in-Err.refusal) (sym read) (sym same));
      decided = c.in-Err.ensures.decided;
      sizes = (refl, refl);
    }
