use Rattle.std.proofs.Common.{length, arith}
use Rattle.texts.proofs.Puts.{put_part}
use Rattle.texts.proofs.line.put_text.Goals as goal

pub returns : goal.returns
returns c = rw c.copy_from_slice.ensures.after (put_part c.args.memory.now c.args.text.now c.args.«at» (length c.args.text.now) (omega arith) (omega arith))
