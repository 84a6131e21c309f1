use Rattle.std.proofs.Common.{◌≡◌, drop}
use Rattle.bp_faults.proofs.Lists.{behind}
use Rattle.reverse_deps.specs.Applied.{found_for}
use Rattle.reverse_deps.proofs.applied.find_all.Given as goal

-- what is found, and then the rest
abbrev pub invariant-loop-request : goal.invariant-loop-request
invariant-loop-request g l =
    behind l.found.items (found_for l.mods l.g.nodes (drop l.request-index l.asked))
    ≡ found_for l.mods l.g.nodes l.asked
