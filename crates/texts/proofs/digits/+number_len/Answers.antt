use Rattle.std.proofs.Common.{sym, arith}
use Rattle.std.proofs.lemmas.Fmt.{length-decimal-le}
use Rattle.texts.proofs.OnDigits.{length_one_digit, length_more_digits}
use Rattle.texts.proofs.digits.+number_len.Goals as goal

pub returns-then-n-lt10 : goal.returns-then-n-lt10
returns-then-n-lt10 t c = record {
  value = sym (length_one_digit c.args.n c.if-n-lt10.true);
  few = omega arith;
}

pub returns-else-n-lt10 : goal.returns-else-n-lt10
returns-else-n-lt10 t c =
    let more = length_more_digits c.args.n c.if-n-lt10.false (omega arith) in
    let front = c.number_len.ensures.value in
    let most = length-decimal-le 20 c.args.n (omega arith) (omega arith) (omega arith) in
    record { value = omega arith; few = omega arith }
