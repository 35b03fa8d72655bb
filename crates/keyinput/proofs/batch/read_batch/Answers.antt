use Rattle.std.proofs.Common.{◌≡◌, length, Ok, ap, arith, rules}
use Rattle.refusals.specs.Answer.{Answer}
use Rattle.numbers.specs.Input.{value_of}
use Rattle.numbers.proofs.OnSpellings.{byte_string}
use Rattle.keyinput.specs.Batch.{Offer, batch_of, batch_in}
use Rattle.keyinput.proofs.OnDeciding.{first_bytes_decide_batch}
use Rattle.keyinput.proofs.OnInputs.{accepted_batch_is_spelled}
use Rattle.keyinput.proofs.OnLengths.{batch_bytes}
use Rattle.keyinput.proofs.OnSpelled.{spelled_inputs_are_read}
use Rattle.keyinput.proofs.batch.read_batch.Goals as goal

pub returns : goal.returns
returns c =
    let batch = c.in_ok-batch.batch in
    let answered : ◌≡◌ {A = Answer Offer} (Ok (batch_of batch)) (value_of (batch_in c.args.bytes.now)) = search rules in
    let spelt = accepted_batch_is_spelled c.args.bytes.now (batch_of batch) (byte_string c.args.bytes.now (λ i. (c.type_inv.bytes i).fits)) answered in
    let long = ap length spelt in
    let most = batch_bytes batch in
    record { answer = answered; spelt = spelt; short = omega arith; known = c.in_ok-batch.ensures.known; spelled_inputs_read = spelled_inputs_are_read; decided = first_bytes_decide_batch }
