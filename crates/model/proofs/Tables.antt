-- Cells at their places in the table
use Rattle.std.proofs.Common.{◌≡◌, ℕ, zero, suc, ◌+◌, ◌*◌, ◌/◌, ◌%◌, ◌<◌, ◌≤◌, List, ◌++◌, length, get_or, take, drop, sym, ap, ◌∙◌, ap₂, suc-mul, zero-add, zero-mul, arith}
use Rattle.std.specs.List.{range_with_len, flat_map as concatenated}
use Rattle.std.proofs.lemmas.List.{length-append, length-take-le, get_or-take, get_or_default, get_or_append_left, get_or-append-add, same_lists, take-append-drop}
use Rattle.std.proofs.lemmas.List.FromFn.{length-map-range_with_len, get_or-map-range_with_len}
use Rattle.std.proofs.lemmas.Nat.{div-add-mod', div_below, mod_below}
use Rattle.costs.specs.Kind.{Kind}
use Rattle.tariffs.specs.Meaning.{Meaning}
use Rattle.sheets.specs.Book.{Book}
use Rattle.model.specs.declared.cell.Cell.{Cell}
use Rattle.model.specs.Cell.{width, place, cells_needed, cell, row, table, LaidOut, CellsStandAtTheirPlaces}

-- rows of one length, one after another
module _ {A : Type 0} (rows : ℕ → List A) (w : ℕ) (even : (j : ℕ) → length (rows j) ≡ w) where
  length_rows : (a n : ℕ) → length (concatenated rows (range_with_len a n)) ≡ n * w
  length_rows a zero = sym (zero-mul w)
  length_rows a (suc n) = length-append (rows a) _ ∙ ap₂ (λ (x y : ℕ). x + y) (even a) (length_rows (a + 1) n) ∙ omega (arith, suc-mul n w)

  get_or_rows : (a n j t : ℕ) (d : A) → j < n → t < w → get_or (concatenated rows (range_with_len a n)) (j * w + t) d ≡ get_or (rows (a + j)) t d
  get_or_rows a zero j t d l m = absurd (omega arith)
  get_or_rows a (suc n) zero t d l m = ap (λ (i : ℕ). get_or (rows a ++ concatenated rows (range_with_len (a + 1) n)) i d) (let e : 0 * w + t ≡ t = omega (arith, zero-mul w) in e) ∙ get_or_append_left (rows a) _ d t (omega (arith, even a)) ∙ ap (λ (i : ℕ). get_or (rows i) t d) (let e : a ≡ a + 0 = omega arith in e)
  get_or_rows a (suc n) (suc j) t d l m =
      ap (λ (i : ℕ). get_or (rows a ++ concatenated rows (range_with_len (a + 1) n)) i d) (let e : suc j * w + t ≡ length (rows a) + (j * w + t) = omega (arith, suc-mul j w, even a) in e)
      ∙ get_or-append-add (rows a) (concatenated rows (range_with_len (a + 1) n)) (j * w + t) d
      ∙ get_or_rows (a + 1) n j t d (omega arith) m
      ∙ ap (λ (i : ℕ). get_or (rows i) t d) (let e : a + 1 + j ≡ a + suc j = omega arith in e)

module _ {C : Type 0} (K : Kind C) (T : Meaning C) (book : Book) where
  pub length_row : (j : ℕ) → length (row K T book j) ≡ width T book
  length_row j = length-map-range_with_len (cell K T book j) 0 (width T book)

  pub get_or_row : (j t : ℕ) (d : Cell C) → t < width T book → get_or (row K T book j) t d ≡ cell K T book j t
  get_or_row j t d l = get_or-map-range_with_len (cell K T book j) 0 (width T book) t t d l (omega arith)

  pub laid_out : LaidOut K T book
  laid_out = record {
    size = length_rows (row K T book) (width T book) length_row 0 (book.stages + 1);
    at_place = λ j t d l m. get_or_rows (row K T book) (width T book) length_row 0 (book.stages + 1) j t d (omega arith) m ∙ ap (λ (i : ℕ). get_or (row K T book i) t d) (zero-add j) ∙ get_or_row j t d m;
  }

  -- cells that hold the right cell at each place are the table
  pub filled_by_places : (before after : List (Cell C)) (d : Cell C) → cells_needed T book ≤ length after
      → ((j t : ℕ) → j ≤ book.stages → t < width T book → get_or after (place T book j t) d ≡ cell K T book j t)
      → drop (cells_needed T book) after ≡ drop (cells_needed T book) before
      → after ≡ table K T book ++ drop (cells_needed T book) before
  filled_by_places before after d long each rest =
      sym (take-append-drop (cells_needed T book) after) ∙ ap₂ (λ (xs ys : List (Cell C)). xs ++ ys) front rest
    where
      n : ℕ
      n = cells_needed T book

      w : ℕ
      w = width T book

      size : length (take n after) ≡ n
      size = length-take-le n after long

      at : (i : ℕ) (e : Cell C) → i < length (take n after) → get_or (take n after) i e ≡ get_or (table K T book) i e
      at i e l =
          let inside : i < n = omega (arith, size) in
          let j : ℕ = i / w in
          let t : ℕ = i % w in
          let whole : j * w + t ≡ i = div-add-mod' i w in
          let row_of : j < book.stages + 1 = div_below i w (book.stages + 1) (omega arith) inside in
          let column : t < w = mod_below i w (omega arith) in
          get_or-take n after i e inside
          ∙ get_or_default after i e d (omega (arith, inside))
          ∙ ap (λ (k : ℕ). get_or after k d) (sym whole)
          ∙ each j t (omega arith) column
          ∙ sym (laid_out.at_place j t e (omega arith) column)
          ∙ ap (λ (k : ℕ). get_or (table K T book) k e) whole

      front : take n after ≡ table K T book
      front = same_lists (take n after) (table K T book) (size ∙ sym laid_out.size) at

pub cells_stand_at_their_places : {C : Type 0} (K : Kind C) → CellsStandAtTheirPlaces K
cells_stand_at_their_places K T book = laid_out K T book
