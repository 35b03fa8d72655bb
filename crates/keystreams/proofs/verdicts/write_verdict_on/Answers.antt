use Rattle.std.proofs.Common.{◌≡◌, take}
use Rattle.keyanswer.specs.Better.{better_heard, verdict_on}
use Rattle.keystreams.proofs.OnVerdicts.{line_written, status_returned}
use Rattle.keystreams.proofs.verdicts.write_verdict_on.Goals as goal

pub returns : goal.returns
returns g c =
    let first = g.R.Read.remaining c.args.first in
    let second = g.S.Read.remaining c.args.second in
    let first_read = take c.in_ok-first_count.first_count c.read_deciding.new.buffer in
    let second_read = take c.in_ok-second_count.second_count c.read_deciding-2.new.buffer in
    let first_known = c.in_ok-first_count.ensures.bytes in
    let second_known = c.in_ok-second_count.ensures.bytes in
    let told = better_heard c.in_ok-verdict.verdict in
    let judged : told ≡ verdict_on first_read second_read = c.in_ok-verdict.ensures in
    record {
      line = line_written first second first_read second_read told first_known second_known judged _ _ _ _
          c.verdict_to-count.result c.verdict_to-count.ensures.count c.verdict_to-count.ensures.text c.in_ok-write_all.ensures.bytes;
      status = status_returned first second first_read second_read told first_known second_known judged
          c.exit_status.result c.exit_status.ensures;
    }
