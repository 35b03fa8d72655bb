use Rattle.std.proofs.Common.{take}
use Rattle.keystreams.proofs.OnStreams.{answer_told}
use Rattle.keystreams.proofs.answers.write_answer.Goals as goal

pub returns : goal.returns
returns g c =
    let read = take c.in_ok-read.read c.read_deciding.new.buffer in
    answer_told c.write_all.result (g.R.Read.remaining c.args.reader) _ _ read _ _ c.answer_to-count.result c.in_ok-read.ensures.bytes
    c.answer_to-count.ensures.count c.answer_to-count.ensures.text c.write_all.ensures.bytes
