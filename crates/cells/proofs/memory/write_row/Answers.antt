use Rattle.std.proofs.Common.{arith}
use Rattle.cells.specs.Memory.{cell_at, up_to}
use Rattle.cells.proofs.Rows.{written_as, written_more}
use Rattle.cells.proofs.UpTo.{up_to_before, up_to_from}
use Rattle.cells.proofs.memory.write_row.Goals as goal

pub loop-minutes-preserved : goal.loop-minutes-preserved
loop-minutes-preserved g c =
    let old = cell_at g.C.Cost.kind c.args.layout c.args.cells.now c.args.stage in
    let new = up_to c.args.start old (λ _. c.args.cell) in
    rw c.place.ensures.value (written_more new c.loop-minutes.minutes c.loop-minutes.invariant c.args.cell c.requires.known c.loop-minutes-test.true (omega arith) (up_to_from old (λ _. c.args.cell) c.args.start c.loop-minutes.minutes (omega arith)))

pub returns : goal.returns
returns g c =
    let old = cell_at g.C.Cost.kind c.args.layout c.args.cells.now c.args.stage in
    let new = up_to c.args.start old (λ _. c.args.cell) in
    written_as c.loop-minutes.invariant (λ t l. up_to_before new old c.loop-minutes.minutes t (omega arith))
