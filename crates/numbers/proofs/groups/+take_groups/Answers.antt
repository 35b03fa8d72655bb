use Rattle.std.proofs.Common.{◌≡◌, ◌<◌, get_or, sym, arith, ltb-false, leb-false, leb-true}
use Rattle.std.proofs.lemmas.Slice.{first_rest}
use Rattle.numbers.proofs.OnGroups.{last_group, last_length, further_group, further_length, below_25}
use Rattle.numbers.proofs.groups.+take_groups.Goals as goal
use Rattle.numbers.proofs.groups.+take_groups.Goals.{else-more-eq0-via-then-more-eq0+else-first-gt-MAX_FIFTH, else-more-eq0-via-else-more-eq0, then-more-eq0-2-via-then-more-eq0-2, then-more-eq0-2-via-else-more-eq0-2+then-not-continues}

pub returns-then-more-eq0-2 : goal.returns-then-more-eq0-2
returns-then-more-eq0-2 t c =
    let bytes = c.args.reader.rest.now in
    let first = get_or bytes 0 0 in
    let parted = first_rest bytes 0 (omega (arith, ltb-false)) in
    let few : c.args.more ≡ 0 → first < 16 = elim c.else-more-eq0.branch [
      | else-more-eq0-via-then-more-eq0+else-first-gt-MAX_FIFTH w ↦ λ z. omega arith
      | else-more-eq0-via-else-more-eq0 w ↦ λ z. absurd (w.if-more-eq0.false z)
    ] in
    let small : first < 128 = elim c.then-more-eq0-2.branch [
      | then-more-eq0-2-via-then-more-eq0-2 w ↦ let f = few w.if-more-eq0-2.true in omega arith
      | then-more-eq0-2-via-else-more-eq0-2+then-not-continues w ↦ leb-false 128 first (sym w.if-not-continues.ensures)
    ] in
    let last = last_group bytes first _ parted c.args.more few small in
    rw c.from.ensures (record { fits = last.0; bytes = last.1; place = omega (arith, last_length c.args.more first small) })

pub joined-requires : goal.joined-requires
joined-requires t c = below_25 c.args.more _ c.requires c.if-more-eq0-2.false c.in_ok-high.ensures.fits

pub returns : goal.returns
returns t c =
    let bytes = c.args.reader.rest.now in
    let first = get_or bytes 0 0 in
    let parted = first_rest bytes 0 (omega (arith, ltb-false)) in
    let goes_on = leb-true 128 first (sym c.if-not-continues.ensures) in
    let taken = c.in_ok-high.ensures in
    let further = further_group bytes first _ parted goes_on c.args.more c.in_ok-high.high _ c.if-more-eq0-2.false (omega arith) (omega arith) (taken.fits, taken.bytes) in
    let longer = further_length first goes_on c.args.more c.in_ok-high.high c.if-more-eq0-2.false (omega arith) (omega arith) in
    simp c.joined.ensures (record { fits = further.0; bytes = further.1; place = omega arith })
