-- A line taken word by word
use Rattle.std.proofs.Common.{◌≡◌, ℕ, ◌+◌, ◌<◌, List, [], ◌∷◌, ◌++◌, length, get_or, drop, sym, ap, ◌∙◌, append_assoc}
use Rattle.std.proofs.lemmas.List.{at_drop_more}
use Rattle.texts.specs.declared.word.Word.{Word}
use Rattle.texts.specs.Line.{word_text, separator, line}
use Rattle.texts.specs.Put.{Put}
use Rattle.texts.proofs.Puts.{put_then}

pub separator_within : (words : List Word) (i : ℕ) (d : Word) → i < length words → separator (drop i words) ≡ 32
separator_within words i d h = at_drop_more separator words i d h

module _ (words : List Word) (i : ℕ) (d : Word) (h : i < length words) where
  pub line_more : line (drop i words) ≡ word_text (get_or words i d) ++ (separator (drop (i + 1) words) ∷ line (drop (i + 1) words))
  line_more = at_drop_more line words i d h

-- memory that holds the words before a place as far as they have come
pub record Begun (words : List Word) (was memory : List ℕ) (i end : ℕ) : Type 0 where
  pub front : List ℕ
  pub put : Put was 0 front memory end
  pub left : front ++ line (drop i words) ≡ line words

pub begun_more : (words : List Word) (was memory next last : List ℕ) (i end behind after : ℕ) (d : Word) → i < length words → Begun words was memory i end → Put memory end (word_text (get_or words i d)) next behind → Put next behind (separator (drop (i + 1) words) ∷ []) last after → Begun words was last (i + 1) after
begun_more words was memory next last i end behind after d h begun word separated = record {
  front = (begun.front ++ word_text (get_or words i d)) ++ (separator (drop (i + 1) words) ∷ []);
  put = put_then _ _ _ _ _ _ _ _ (put_then _ _ _ _ _ _ _ _ begun.put word) separated;
  left =
      append_assoc (begun.front ++ word_text (get_or words i d)) (separator (drop (i + 1) words) ∷ []) _
      ∙ append_assoc begun.front (word_text (get_or words i d)) _
      ∙ ap (λ l. begun.front ++ l) (sym (line_more words i d h))
      ∙ begun.left;
}
