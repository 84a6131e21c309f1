use Rattle.pass_ways.specs.Stretches.{AddsEdges}
use Rattle.pass_ways.proofs.stretches.push_edges.Given as goal

abbrev pub invariant-loop-from : goal.invariant-loop-from
invariant-loop-from l = AddsEdges l.marks l.to l.from l.initial.edges.items l.edges.items
