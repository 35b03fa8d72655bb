use Rattle.std.proofs.Common.{◌≤◌, length, filter, ap, arith, length-append}
use Rattle.std.specs.List.{flat_map}
use Rattle.std.proofs.lemmas.List.{length-map}
use Rattle.std.proofs.lemmas.List.Sums.{sum_by-le}
use Rattle.sheets.specs.Book.{book}
use Rattle.sheets.specs.Tasks.{stands_in}
use Rattle.sheets.specs.declared.task.Task.{Task}
use Rattle.numbers.specs.Number.{spelled}
use Rattle.keyfile.specs.Works.{stage_works}
use Rattle.keyfile.proofs.OnNumbers.{five_bytes}
use Rattle.keyfile.proofs.OnWorks.{pieces_len}
use Rattle.keyfile.proofs.writing.stage_len.Goals as goal

most : (c : goal.After-works_len) → c.works_len.result ≤ 1280
most c =
    let standing = filter (stands_in c.args.stage) (book c.args.sheet.now).tasks in
    let each = sum_by-le (λ (task : Task). length (spelled task.work)) 5 standing (λ i d h. five_bytes _) in
    let count = length-map standing (λ (task : Task). task.work) in
    omega arith

pub overflow_add-result : goal.overflow_add-result
overflow_add-result c = let m = most c in omega arith

pub returns : goal.returns
returns c =
    let standing = filter (stands_in c.args.stage) (book c.args.sheet.now).tasks in
    let works = stage_works (book c.args.sheet.now).tasks c.args.stage in
    let count = ap (λ n. length (spelled n)) c.standing_count.ensures.value in
    let parts = length-append (spelled (length works)) (flat_map spelled works) in
    let sum = pieces_len spelled (λ (task : Task). task.work) standing in
    let m = most c in
    record { value = omega arith; few = omega arith }
