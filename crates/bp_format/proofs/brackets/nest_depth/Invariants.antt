use Rattle.std.proofs.Common.{◌≡◌, take}
use Rattle.bp_format.specs.Layout.{nest_depth}
use Rattle.bp_format.proofs.brackets.nest_depth.Given as goal

abbrev pub invariant-loop-kind : goal.invariant-loop-kind
invariant-loop-kind l = l.depth ≡ nest_depth (take l.kind-index l.nest)
