use Rattle.std.proofs.Common.{◌≤◌, length}
use Rattle.bp_ports.proofs.real_list.read_entries.Given as goal

abbrev pub invariant-loop-entry : goal.invariant-loop-entry
invariant-loop-entry g l = length l.entries.items ≤ l.limit
