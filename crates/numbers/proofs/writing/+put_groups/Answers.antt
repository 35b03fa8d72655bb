use Rattle.std.proofs.Common.{◌-◌, ◌/◌, ◌<◌, ◌∷◌, length, sym, ap, ◌∙◌, inl, inr, ⊎_elim, arith, length-set}
use Rattle.numbers.specs.Number.{groups}
use Rattle.texts.proofs.Puts.{put_one, put_then, put_same}
use Rattle.numbers.proofs.OnGroups.{one_group, more_groups, some_group, limit_behind}
use Rattle.numbers.proofs.writing.+put_groups.Goals as goal

pub returns-then-more-eq0 : goal.returns-then-more-eq0
returns-then-more-eq0 t c =
    let spelt = one_group c.args.more c.args.n (⊎_elim (λ a. inl a) (λ p. inr (omega arith)) c.then-more-eq0.either) in
    let room : c.args.at < length c.args.memory.now = omega (arith, some_group c.args.more c.args.n) in
    put_same _ _ _ _ _ _ (sym spelt) (put_one c.args.memory.now c.args.at c.args.n room)

pub put_groups-requires : goal.put_groups-requires
put_groups-requires t c =
    let spelt = ap length (more_groups c.args.more c.args.n c.if-more-eq0.false (omega arith)) in
    (omega arith, (omega arith, limit_behind c.args.more c.args.n c.if-more-eq0.false c.requires.1, simp length-set (omega arith)))

pub returns : goal.returns
returns t c =
    let spelt = more_groups c.args.more c.args.n c.if-more-eq0.false (omega arith) in
    let room : c.args.at < length c.args.memory.now = omega (arith, some_group c.args.more c.args.n) in
    put_same _ _ _ _ _ _ (sym (spelt ∙ ap (λ b. b ∷ groups (c.args.more - 1) (c.args.n / 128)) (sym c.low_group.ensures)))
    (put_then _ _ _ _ _ _ _ _ (put_one c.args.memory.now c.args.at c.low_group.result room) c.put_groups.ensures)
