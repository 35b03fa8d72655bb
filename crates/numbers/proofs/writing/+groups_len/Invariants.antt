use Rattle.numbers.proofs.writing.+groups_len.Given as goal

abbrev pub decreases-groups_len : goal.decreases-groups_len
decreases-groups_len l = l.more
