use Rattle.std.proofs.Common.{◌≡◌, take}
use Rattle.bp_pipeline.specs.Shown.{module_names}
use Rattle.bp_pipeline.proofs.shown.module_names.Given as goal

abbrev pub invariant-loop-node : goal.invariant-loop-node
invariant-loop-node g l = l.names.items ≡ module_names l.mods (take l.node-index l.g.nodes)
