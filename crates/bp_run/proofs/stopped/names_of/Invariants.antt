use Rattle.std.proofs.Common.{◌≡◌, ◌∷◌, take}
use Rattle.bp_run.proofs.stopped.names_of.Given as goal

abbrev pub invariant-loop-path : goal.invariant-loop-path
invariant-loop-path l = l.texts.items ≡ l.first ∷ take l.path-index l.paths
