use Rattle.std.proofs.Common.{ap}
use Rattle.numbers.specs.Number.{spelled}
use Rattle.texts.proofs.Puts.{put_same}
use Rattle.texts.proofs.Pieces.{puts_then}
use Rattle.keyfile.proofs.writing.put_stage.Goals as goal

pub returns : goal.returns
returns c =
    let put = c.in_ok-end.ensures.put in
    puts_then _ _ _ _ _ _ _ _ (put_same _ _ _ _ _ _ (ap spelled c.standing_count.ensures.value) put) c.put_works.ensures
