use Rattle.std.proofs.Common.{◌+◌, ◌*◌}
use Rattle.bp_load.proofs.typing.+typing.Given as goal

abbrev pub decreases-type_by : goal.decreases-type_by
decreases-type_by g l = 2 * l.workers

abbrev pub decreases-type_front : goal.decreases-type_front
decreases-type_front g l = 2 * l.some + 1

abbrev pub decreases-type_back : goal.decreases-type_back
decreases-type_back g l = 2 * l.others + 1
