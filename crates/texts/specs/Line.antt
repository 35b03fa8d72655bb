-- Lines of words
use Rattle.std.specs.Prelude.{ℕ, List, [], ◌∷◌, ◌++◌, codes, decimal}
use Rattle.texts.specs.declared.word.Word.{Word}
use Rattle.texts.specs.declared.word.Word.TheVariants.{Number, NoQuote, Refused, Same, First, Second}

abbrev pub word_text : Word → List ℕ
word_text (Number n) = decimal n
word_text NoQuote = codes "none"
word_text Refused = codes "refused"
word_text Same = codes "same"
word_text First = codes "first"
word_text Second = codes "second"

-- what stands behind a word: a space where words follow, else the line's end
abbrev pub separator : List Word → ℕ
separator [] = 10
separator (w ∷ ws) = 32

-- the words parted by single spaces and ended by byte 0x0A; no words make no line
abbrev pub line : List Word → List ℕ
line [] = []
line (w ∷ ws) = word_text w ++ (separator ws ∷ line ws)
