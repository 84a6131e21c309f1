use Rattle.std.proofs.Common.{◌≡◌, length, map}
use Rattle.std.specs.Arc.{arc_value}
use Rattle.variant_graphs.specs.Payloads.{with_payloads}
use Rattle.variant_graphs.proofs.payloads.renew_nodes.Given as goal

abbrev pub invariant-loop-out : goal.invariant-loop-out
invariant-loop-out g l =
    (l.nodes.items ≡ with_payloads l.fn.nodes.items (map arc_value l.yielded)) × (l.n ≡ length l.yielded)
