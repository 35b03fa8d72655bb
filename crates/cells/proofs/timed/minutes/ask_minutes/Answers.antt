use Rattle.std.proofs.Common.{◌≡◌, ◌<◌, length, refl, ◌∙◌, ap, sym, arith}
use Rattle.std.proofs.lemmas.List.{length-set}
use Rattle.model.specs.Assignment.{quote_of, minutes_of}
use Rattle.cells.proofs.UpTo.{up_to_none, up_to_all, up_to_more}
use Rattle.cells.proofs.timed.minutes.ask_minutes.Goals as goal

pub loop-machine-init : goal.loop-machine-init
loop-machine-init g c = (refl, up_to_none (λ m. minutes_of (quote_of (g.T.Tariff.meaning c.args.tariff.now) c.args.task.now m)) 32 0)

pub loop-machine-preserved : goal.loop-machine-preserved
loop-machine-preserved g c =
    let T = g.T.Tariff.meaning c.args.tariff.now in
    let F = g.T.Tariff.ranged c.args.tariff.now in
    let machine = c.loop-machine.machine in
    let inside : c.loop-machine.machine < length c.loop-machine.minutes = omega (arith, F.few, c.loop-machine.invariant.0) in
    let asked : c.minutes_of.result ≡ minutes_of (quote_of T c.args.task.now machine) = c.minutes_of.ensures ∙ ap (λ o. minutes_of o) c.quote_of.ensures in (
      length-set c.loop-machine.minutes machine c.minutes_of.result ∙ c.loop-machine.invariant.0,
      up_to_more (λ m. minutes_of (quote_of T c.args.task.now m)) (λ _. 0) c.loop-machine.minutes machine c.minutes_of.result 0 inside c.loop-machine.invariant.1 asked,
    )

pub returns : goal.returns
returns g c =
    let T = g.T.Tariff.meaning c.args.tariff.now in
    let F = g.T.Tariff.ranged c.args.tariff.now in
    λ machine. c.loop-machine.invariant.1 machine ∙ up_to_all (λ m. minutes_of (quote_of T c.args.task.now m)) (λ _. 0) c.loop-machine.machine (λ m l. sym (ap (λ o. minutes_of o) (F.listed m c.args.task.now.work (omega arith)))) machine
