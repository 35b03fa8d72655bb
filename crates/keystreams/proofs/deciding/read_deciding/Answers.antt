use Rattle.std.proofs.Common.{arith, rules, ◌≡◌, ◌-◌, length, take, subst, length-take-le}
use Rattle.keystreams.proofs.OnStreams.{length_kept, more_consumed, deciding_ended, deciding_filled}
use Rattle.std.specs.Io.KnownBytes.{Consumes}
use borrow.Rule.Slice.PartMut.{put_mid}
use Rattle.keystreams.proofs.deciding.read_deciding.Goals as goal

pub loop-count-preserved : goal.loop-count-preserved
loop-count-preserved g c =
    let at = c.loop-count.count in
    let old = c.loop-count.buffer in
    let new = c.read_some.new.buffer in
    let invariant = c.loop-count.invariant in
    let long : length new ≡ 1024 - at = search rules in
    let kept = length_kept at old new (omega arith) (omega arith) in
    let same = subst (λ n. length (put_mid at (n - at) old new) ≡ n) invariant.0 kept in
    let fits = c.in_ok-more.ensures.bound.0 in
    (same, omega (arith, fits), more_consumed _ _ _ at (1024 - at) c.in_ok-more.more old new (omega arith) invariant.2 c.in_ok-more.ensures.bytes.0 fits)

pub returns : goal.returns
returns g c =
    let read = take 1024 c.loop-count.buffer in
    let long : length read ≡ 1024 = omega (arith, length-take-le 1024 c.loop-count.buffer) in
    let full : c.loop-count.count ≡ 1024 = omega arith in
    let consumed = subst (λ count. Consumes (g.R.Read.remaining c.args.reader.now) (g.R.Read.remaining c.loop-count.reader) (take count c.loop-count.buffer)) full c.loop-count.invariant.2 in
    record { most = omega arith; bytes = deciding_filled _ _ read long consumed; no_others = consumed }

pub returns-then-more-eq0-clause-bytes : goal.returns-then-more-eq0-clause-bytes
returns-then-more-eq0-clause-bytes g c =
    let at = c.loop-count.count in
    let new = c.read_some.new.buffer in
    let long : length new ≡ 1024 - at = search rules in
    let end = c.in_ok-more.ensures.bytes.1 c.if-more-eq0.true (omega arith) in
    deciding_ended _ _ _ at (1024 - at) c.in_ok-more.more c.loop-count.buffer new (omega arith) c.loop-count.invariant.2 c.in_ok-more.ensures.bytes.0 c.if-more-eq0.true end (omega arith)
