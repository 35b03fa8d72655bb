use Rattle.numbers.proofs.groups.+take_groups.Given as goal

abbrev pub decreases-take_groups : goal.decreases-take_groups
decreases-take_groups l = l.more
