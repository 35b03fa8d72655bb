use Rattle.std.proofs.Common.{◌<◌, ◌++◌, length, take, sym, ap, ◌∙◌, arith, rules}
use Rattle.std.proofs.lemmas.Iterator.{YieldsList-from_slice, YieldsList-from_zip}
use Rattle.std.proofs.lemmas.Iterator.Consumers.{YieldsList-from_enumerate, YieldsList-turn, YieldsList-end}
use Rattle.std.proofs.lemmas.List.{at_drop_all, append-nil, length-take, length_push}
use Rattle.keylines.proofs.Machines.{numbered, machines_in, machines_numbered, numbered_few, list_kept, list_more}
use Rattle.keylines.proofs.plan.list_machines.Goals as goal

pub loop-number-init : goal.loop-number-init
loop-number-init c = (search rules, search rules, machines_numbered 0 c.args.tasks.now c.args.plan.now, omega arith)

pub loop-number-preserved-then-not-task : goal.loop-number-preserved-then-not-task
loop-number-preserved-then-not-task c =
    let all = numbered c.args.tasks.now c.args.plan.now in
    let road = YieldsList-from_enumerate {s = c.into_iter-number-iterator.result} (YieldsList-from_zip (YieldsList-from_slice c.args.tasks.now cc) (YieldsList-from_slice c.args.plan.now cc)) cc in
    let turn = YieldsList-turn road c.loop-number.yielded c.loop-number.number-iterator c.loop-number.yielded_by c.next.result c.next.new.self (c.in-Some.number, (c.in-Some.task, c.in-Some.machine)) c.in-Some.is c.next.ensures.steps in
    let few = numbered_few 0 c.args.tasks.now c.args.plan.now in
    let long = length_push c.loop-number.yielded (c.in-Some.number, (c.in-Some.task, c.in-Some.machine)) in
    let room : c.loop-number.count < length c.loop-number.list = omega (arith, turn.0) in
    let more = list_more all (length c.loop-number.yielded) _ turn.0 turn.1 c.loop-number.list c.loop-number.count c.if-not-task.true room in
    (search rules, search rules, rw long (more ∙ c.loop-number.invariant.2), omega arith)

pub loop-number-preserved : goal.loop-number-preserved
loop-number-preserved c =
    let all = numbered c.args.tasks.now c.args.plan.now in
    let road = YieldsList-from_enumerate {s = c.into_iter-number-iterator.result} (YieldsList-from_zip (YieldsList-from_slice c.args.tasks.now cc) (YieldsList-from_slice c.args.plan.now cc)) cc in
    let turn = YieldsList-turn road c.loop-number.yielded c.loop-number.number-iterator c.loop-number.yielded_by c.next.result c.next.new.self (c.in-Some.number, (c.in-Some.task, c.in-Some.machine)) c.in-Some.is c.next.ensures.steps in
    let long = length_push c.loop-number.yielded (c.in-Some.number, (c.in-Some.task, c.in-Some.machine)) in
    let kept = list_kept all (length c.loop-number.yielded) _ turn.0 turn.1 c.loop-number.list c.loop-number.count c.if-not-task.false in
    (search rules, search rules, rw long (kept ∙ c.loop-number.invariant.2), omega arith)

pub slice_bounds-result-end : goal.slice_bounds-result-end
slice_bounds-result-end c =
    let road = YieldsList-from_enumerate {s = c.into_iter-number-iterator.result} (YieldsList-from_zip (YieldsList-from_slice c.args.tasks.now cc) (YieldsList-from_slice c.args.plan.now cc)) cc in
    let end = YieldsList-end road c.loop-number.yielded c.loop-number.number-iterator c.loop-number.yielded_by c.next.result c.next.new.self c.in-None.is c.next.ensures.steps in
    let few = numbered_few 0 c.args.tasks.now c.args.plan.now in
    simp length-take (omega (arith, end.1))

pub returns : goal.returns
returns c =
    let all = numbered c.args.tasks.now c.args.plan.now in
    let road = YieldsList-from_enumerate {s = c.into_iter-number-iterator.result} (YieldsList-from_zip (YieldsList-from_slice c.args.tasks.now cc) (YieldsList-from_slice c.args.plan.now cc)) cc in
    let end = YieldsList-end road c.loop-number.yielded c.loop-number.number-iterator c.loop-number.yielded_by c.next.result c.next.new.self c.in-None.is c.next.ensures.steps in
    let none = at_drop_all machines_in all (length c.loop-number.yielded) (omega (arith, end.1)) in
    sym (append-nil (take c.loop-number.count c.loop-number.list))
    ∙ ap (λ l. take c.loop-number.count c.loop-number.list ++ l) (sym none)
    ∙ c.loop-number.invariant.2
