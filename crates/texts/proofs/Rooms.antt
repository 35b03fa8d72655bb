-- The room that a text leaves, from its length
use Rattle.std.proofs.Common.{◌≡◌, ℕ, ◌+◌, ◌-◌, ◌<◌, ◌≤◌, true, ltb, List, ◌++◌, length, is_some, Some, None, Option, sym, refl, ap, ◌∙◌, ⊎_elim, arith, length-append}
use Rattle.std.proofs.lemmas.Bool.{cases_lt, le-ltb, lt-ltb, ltb-false, cond_both, false≢true}
use Rattle.texts.specs.Room.{room_behind}

module _ (text : List ℕ) (room : ℕ) where
  pub room_left : (left : ℕ) → left + length text ≡ room → ◌≡◌ {A = Option ℕ} (Some left) (room_behind text room)
  room_left left e =
      let fits : length text ≤ room = omega arith in
      let l : left ≡ room - length text = omega arith in
      rw (le-ltb room (length text) fits) (ap Some l)

  pub room_short : room < length text → ◌≡◌ {A = Option ℕ} None (room_behind text room)
  room_short h = rw (lt-ltb room (length text) h) refl

  -- a room that leaves something, be it nothing, holds the text
  pub room_enough : is_some (room_behind text room) ≡ true → length text ≤ room
  room_enough =
      cond_both (ltb room (length text)) None (Some (room - length text)) (λ r. is_some r ≡ true → length text ≤ room)
      (λ short e. absurd (false≢true e))
      (λ fits e. ltb-false room (length text) fits)

-- the room behind one text and another behind it
module _ (p q : List ℕ) (room : ℕ) where
  pub room_then : (left : ℕ) → room_behind p room ≡ Some left → room_behind (p ++ q) room ≡ room_behind q left
  room_then left e =
      ⊎_elim
      (λ short. let none = room_short p room short in cc)
      (λ fits.
      let some = room_left p room (room - length p) (omega arith) in
      let left_is : left ≡ room - length p = cc in
      let long = length-append p q in
      ⊎_elim
      (λ short. sym (room_short (p ++ q) room (omega arith)) ∙ room_short q left short)
      (λ fits_too. sym (room_left (p ++ q) room (left - length q) (omega arith)) ∙ room_left q left (left - length q) (omega arith))
      (cases_lt left (length q)))
      (cases_lt room (length p))
