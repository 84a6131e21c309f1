use Rattle.std.proofs.Common.{◌+◌, ◌*◌}
use Rattle.bp_load.proofs.parsing.+parsing.Given as goal

abbrev pub decreases-parsed_by : goal.decreases-parsed_by
decreases-parsed_by g l = 2 * l.workers

abbrev pub decreases-parse_front : goal.decreases-parse_front
decreases-parse_front g l = 2 * l.some + 1

abbrev pub decreases-parse_back : goal.decreases-parse_back
decreases-parse_back g l = 2 * l.others + 1
