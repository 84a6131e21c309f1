use Rattle.ninja_write.proofs.parts.+parts.Given as goal

abbrev pub decreases-print_behind : goal.decreases-print_behind
decreases-print_behind g l = l.workers

abbrev pub decreases-first : goal.decreases-first
decreases-first g l = l.others
