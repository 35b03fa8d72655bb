use Rattle.std.proofs.Common.{sym, arith}
use Rattle.std.proofs.lemmas.Fmt.{decimal_digit, decimal_step}
use Rattle.texts.proofs.OnDigits.{length_one_digit, length_more_digits}
use Rattle.texts.proofs.Puts.{put_same, put_then}
use Rattle.texts.proofs.digits.+put_digits.Goals as goal

pub put_byte-requires : goal.put_byte-requires
put_byte-requires t c = omega (arith, length_one_digit c.args.n c.if-n-lt10.true)

pub returns-then-n-lt10 : goal.returns-then-n-lt10
returns-then-n-lt10 t c =
    put_same _ _ _ _ _ _ (sym (decimal_digit c.args.n c.if-n-lt10.true)) c.put_byte.ensures

pub put_digits-end-requires : goal.put_digits-end-requires
put_digits-end-requires t c =
    (omega arith, omega (arith, length_more_digits c.args.n c.if-n-lt10.false (omega arith)))

pub put_byte-requires-2 : goal.put_byte-requires-2
put_byte-requires-2 t c =
    let put = c.put_digits-end.ensures in
    omega (arith, length_more_digits c.args.n c.if-n-lt10.false (omega arith))

pub returns : goal.returns
returns t c =
    put_same _ _ _ _ _ _ (sym (decimal_step c.args.n c.if-n-lt10.false (omega arith)))
    (put_then _ _ _ _ _ _ _ _ c.put_digits-end.ensures c.put_byte-2.ensures)
