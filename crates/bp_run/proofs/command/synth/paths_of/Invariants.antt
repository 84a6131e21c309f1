use Rattle.std.proofs.Common.{◌≡◌, map, take}
use Rattle.bp_load.specs.Trees.{sources_given}
use Rattle.bp_run.proofs.command.synth.paths_of.Given as goal

abbrev pub invariant-loop-path : goal.invariant-loop-path
invariant-loop-path l = l.paths.items ≡ map (λ f. f.0) (sources_given (take l.path-index l.files))
