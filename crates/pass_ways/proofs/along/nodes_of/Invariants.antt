use Rattle.std.proofs.Common.{◌≡◌, ◌≤◌, length}
use Rattle.pass_ways.specs.Visits.{visits}
use Rattle.pass_ways.specs.OrderFiles.{Say}
use Rattle.pass_ways.proofs.along.nodes_of.Given as goal

abbrev pub invariant-loop-line : goal.invariant-loop-line
invariant-loop-line l = Say l.lines (visits l.pass l.order.items) × (length l.order.items ≡ l.line-index) ×
    (l.line-index ≤ l.most)
