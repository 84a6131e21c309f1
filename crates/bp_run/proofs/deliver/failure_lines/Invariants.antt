use Rattle.std.proofs.Common.{◌≡◌, map, take}
use Rattle.bp_run.specs.End.{failure_line}
use Rattle.bp_run.proofs.deliver.failure_lines.Given as goal

abbrev pub invariant-loop-put : goal.invariant-loop-put
invariant-loop-put l = l.lines.items ≡ map failure_line (take l.put-index l.puts)
