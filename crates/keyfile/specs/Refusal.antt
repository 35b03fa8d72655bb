-- The refusals of a file by number and place, and the layers that they come from
use Rattle.std.specs.Prelude.{ℕ, ◌≤◌}
use Rattle.refusals.specs.Answer.{Refused, carrying}
use Rattle.numbers.specs.Refusal.{number_told}
use Rattle.sheets.specs.Refusals.{sheet_told}
use Rattle.tariffs.specs.Refusal.{card_told}
use Rattle.keyfile.specs.declared.refusal.FileRefusal.{FileRefusal}
use Rattle.keyfile.specs.declared.refusal.FileRefusal.TheVariants.{Number, Card, Sheet, Extra, Question}
use Rattle.keyfile.specs.declared.refusal.Layer.{Layer}
use Rattle.keyfile.specs.declared.refusal.Layer.TheVariants as layer

abbrev pub file_told : FileRefusal → Refused
file_told (Number refusal) = number_told refusal
file_told (Card refusal place) = carrying (card_told refusal).number place
file_told (Sheet refusal place) = carrying (sheet_told refusal).number place
file_told (Extra place) = carrying 13 place
file_told (Question place) = carrying 14 place

abbrev pub layer_of : FileRefusal → Layer
layer_of (Number refusal) = layer.Number
layer_of (Card refusal place) = layer.Card
layer_of (Sheet refusal place) = layer.Sheet
layer_of (Extra place) = layer.File
layer_of (Question place) = layer.File

-- the numbers of a layer's refusals: 1 to 3 of the sheet, 4 and 5 of the card, 11 and 12 of numbers, 13 and 14 of the file
abbrev pub IsNumberOf : Layer → ℕ → Type 0
IsNumberOf layer.Sheet number = (1 ≤ number) × (number ≤ 3)
IsNumberOf layer.Card number = (4 ≤ number) × (number ≤ 5)
IsNumberOf layer.Number number = (11 ≤ number) × (number ≤ 12)
IsNumberOf layer.File number = (13 ≤ number) × (number ≤ 14)
