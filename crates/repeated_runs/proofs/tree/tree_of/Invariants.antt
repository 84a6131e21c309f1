use Rattle.std.proofs.Common.{◌≡◌, ◌≤◌, map, length}
use Rattle.std.specs.List.{All}
use Rattle.bp_faults.specs.declared.limits.TheConstants.{LARGEST_FILE}
use Rattle.bp_load.specs.Trees.{sources_given}
use Rattle.repeated_runs.proofs.tree.tree_of.Given as goal

abbrev pub invariant-loop-path : goal.invariant-loop-path
invariant-loop-path l =
    (map (λ f. f.0) (sources_given l.files.items) ≡ map (λ f. f.0) (sources_given l.yielded)) ×
    All (λ f. length f.1 ≤ LARGEST_FILE) (sources_given l.files.items)
