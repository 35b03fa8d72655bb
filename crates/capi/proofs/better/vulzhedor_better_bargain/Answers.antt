use Rattle.capi.proofs.OnBetter.{rightly_told}
use Rattle.capi.proofs.better.vulzhedor_better_bargain.Goals as goal

pub returns-in-Ok-clause-words : goal.returns-in-Ok-clause-words
returns-in-Ok-clause-words c =
    rightly_told c.args.first.now c.args.second.now c.in-Ok.verdict _ _ _ c.args.length.now c.args.cost.now
    c.tell.ensures.better c.tell.ensures.length c.tell.ensures.cost c.in-Ok.ensures.words
