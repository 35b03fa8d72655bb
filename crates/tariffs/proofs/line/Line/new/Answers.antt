use Rattle.std.proofs.Common.{◌≡◌, true, Some, None, sym, ap, ◌∙◌, arith}
use Rattle.std.proofs.lemmas.Bool.{cond-true}
use Rattle.std.proofs.lemmas.Bool.Decides.{nat_tests}
use Rattle.tariffs.specs.Line.{line, line_in_range}
use Rattle.tariffs.proofs.RoundedUps.{times_are_least}
use Rattle.tariffs.specs.Same.{same_line}
use Rattle.tariffs.proofs.line.Line.new.Goals as goal

pub returns : goal.returns
returns c =
    let fine : line_in_range c.args.speed c.args.rate ≡ true = grind (arith, nat_tests) in
    record {
      value = ap Some (same_line _ (line c.args.speed c.args.rate) (omega arith) (omega arith)) ∙ sym (cond-true (line_in_range c.args.speed c.args.rate) (Some (line c.args.speed c.args.rate)) None fine);
      times_least = times_are_least;
    }
