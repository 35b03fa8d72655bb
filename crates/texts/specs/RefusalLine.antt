-- The words of a refusal's line
use Rattle.std.specs.Prelude.{List, [], ◌∷◌, Some, None}
use Rattle.refusals.specs.Answer.{Refused}
use Rattle.texts.specs.declared.word.Word.{Word}
use Rattle.texts.specs.declared.word.Word.TheVariants as word

-- a refusal's number, and the value that it carries, if any
abbrev pub number_words : Refused → List Word
number_words r = word.Number r.number ∷ elim r.carried [ Some value ↦ word.Number value ∷ [] | None ↦ [] ]

-- `refused` before them
abbrev pub refusal_words : Refused → List Word
refusal_words r = word.Refused ∷ number_words r
