use Rattle.std.proofs.Common.{◌≡◌, length, Ok, ap, arith, rules}
use Rattle.refusals.specs.Answer.{Answer}
use Rattle.numbers.specs.Input.{value_of}
use Rattle.keyinput.specs.declared.input.KeyInput.{KeyInput}
use Rattle.keyinput.specs.Input.{Asked, asked_by, key_in}
use Rattle.numbers.proofs.OnSpellings.{byte_string}
use Rattle.keyinput.proofs.OnDeciding.{first_bytes_decide_input}
use Rattle.keyinput.proofs.OnInputs.{accepted_is_spelled}
use Rattle.keyinput.proofs.OnLengths.{input_bytes}
use Rattle.keyinput.proofs.OnSpelled.{spelled_inputs_are_read}
use Rattle.keyinput.proofs.input.read_input.Goals as goal

pub returns : goal.returns
returns c =
    let key : KeyInput = record { batch = c.in_ok-batch.batch; question = c.in_ok-question.question } in
    let answered : ◌≡◌ {A = Answer Asked} (Ok (asked_by key)) (value_of (key_in c.args.bytes.now)) = search rules in
    let spelt = accepted_is_spelled c.args.bytes.now (asked_by key) (byte_string c.args.bytes.now (λ i. (c.type_inv.bytes i).fits)) answered in
    let long = ap length spelt in
    let most = input_bytes key in
    record { answer = answered; spelt = spelt; short = omega arith; known = c.in_ok-batch.ensures.known; spelled_inputs_read = spelled_inputs_are_read; decided = first_bytes_decide_input }
