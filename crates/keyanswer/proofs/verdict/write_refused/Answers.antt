use Rattle.std.proofs.Common.{arith}
use Rattle.keyanswer.proofs.verdict.write_refused.Goals as goal

pub returns-in-Memory-clause-fits : goal.returns-in-Memory-clause-fits
returns-in-Memory-clause-fits c = λ room. c.write_refusal.ensures.fits (omega arith)
