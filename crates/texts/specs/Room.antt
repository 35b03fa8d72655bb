-- How much of a room a text leaves
use Rattle.std.specs.Prelude.{ℕ, ◌-◌, cond, List, length, Some, None, Option, nat_lt}

-- none where the text is longer than the room
abbrev pub room_behind : List ℕ → ℕ → Option ℕ
room_behind text room = cond (nat_lt room (length text)) None (Some (room - length text))
