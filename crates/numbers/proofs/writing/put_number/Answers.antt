use Rattle.std.proofs.Common.{◌≡◌, ◌-◌, ◌≤◌, length, arith, rules}
use Rattle.numbers.specs.Number.{spelled}
use Rattle.numbers.proofs.writing.put_number.Goals as goal

pub put_groups-requires : goal.put_groups-requires
unfolding spelled
put_groups-requires c =
    let memory = c.args.memory.now in
    let room : (c.args.at ≤ length memory) × (c.in_ok-room.room ≡ length memory - c.args.at) = search rules in
    (omega arith, omega arith, omega arith)

pub returns : goal.returns
unfolding spelled
returns c = record { put = c.put_groups.ensures; refused_alters_nothing = search rules }
