use Rattle.std.proofs.Common.{◌+◌, ◌*◌}
use Rattle.bp_load.proofs.evaluating.+evaluating.Given as goal

abbrev pub decreases-evaluate_below : goal.decreases-evaluate_below
decreases-evaluate_below g l = 3 * l.workers + 1

abbrev pub decreases-evaluate_branches : goal.decreases-evaluate_branches
decreases-evaluate_branches g l = 3 * l.workers

abbrev pub decreases-evaluate_branches-evaluate_front : goal.decreases-evaluate_branches-evaluate_front
decreases-evaluate_branches-evaluate_front g l = 3 * l.some + 2

abbrev pub decreases-evaluate_branches-evaluate_back : goal.decreases-evaluate_branches-evaluate_back
decreases-evaluate_branches-evaluate_back g l = 3 * l.others + 2
