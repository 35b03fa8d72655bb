use Rattle.std.proofs.Common.{◌≡◌, length, ◌∙◌, arith, rules}
use Rattle.keystreams.proofs.verdicts.judge.Goals as goal

pub returns : goal.returns
returns c =
    let cells : length c.as_mut_slice.result.now ≡ 391697 = search rules in
    let first : length c.as_mut_slice-2.result.now ≡ 23041 = search rules in
    let second : length c.as_mut_slice-3.result.now ≡ 23041 = search rules in
    c.better_batch.ensures.answer
    ∙ c.better_batch.ensures.enough (record { cells_enough = omega arith; first_enough = omega arith; second_enough = omega arith })
