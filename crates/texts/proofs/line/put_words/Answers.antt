use Rattle.std.proofs.Common.{[], ◌∷◌, ap}
use Rattle.texts.specs.declared.word.Word.TheVariants.{Number}
use Rattle.texts.proofs.Puts.{put_same}
use Rattle.texts.proofs.Lines.{begun_more}
use Rattle.texts.proofs.line.put_words.Goals as goal

pub loop-place-preserved : goal.loop-place-preserved
loop-place-preserved c =
    begun_more _ _ _ _ _ _ _ _ _ (Number 0) c.loop-place-test.true c.loop-place.invariant c.put_word-behind.ensures
    (put_same _ _ _ _ _ _ (ap (λ byte. byte ∷ []) c.separator_behind.ensures) c.put_byte-end.ensures)
