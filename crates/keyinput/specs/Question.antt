-- A question in a file: 0 for the front, 1 for a budget and 2 for a deadline, each of these with its limit
use Rattle.std.specs.Prelude.{ℕ, cond, Ok, Err, ◌==◌}
use Rattle.refusals.specs.Answer.{carrying}
use Rattle.numbers.specs.Input.{Input, Reading, then}
use Rattle.numbers.specs.Number.{number_in}
use Rattle.keyinput.specs.declared.question.Question.{Question}
use Rattle.keyinput.specs.declared.question.Question.TheVariants.{Front, Budget, Deadline}

abbrev pub limit_in : (ℕ → Question) → Input → Reading Question
limit_in ask input = then (number_in input) (λ limit left. Ok (ask limit, left))

-- another number is refused with 14 and its place
abbrev pub question_in : Input → Reading Question
question_in input =
    then (number_in input) (λ number left.
    cond (number == 0) (Ok (Front, left))
    (cond (number == 1) (limit_in Budget left)
    (cond (number == 2) (limit_in Deadline left)
    (Err (carrying 14 input.place)))))
