use Rattle.std.proofs.Common.{◌∙◌, ap, map}
use Rattle.bp_faults.specs.declared.ids.NodeId.{NodeId}
use Rattle.graph_nodes.specs.declared.graph.EdgeKind.{EdgeKind}
use Rattle.mutator_rules.specs.Inside.{pieces}
use Rattle.mutator_rules.proofs.Placed.{cut_map}
use Rattle.mutator_rules.proofs.arriving.kinds_of.Goals as goal

pub returns : goal.returns
returns c =
    ap (pieces c.arrivals.inside.starts.items) (c.in_ok-items.ensures ∙ ap (map (λ
    (a : NodeId × EdgeKind). a.1)) c.deref.ensures.value)
    ∙ cut_map (λ (a : NodeId × EdgeKind). a.1) c.arrivals.inside.items.items c.arrivals.inside.starts.items
    ∙ ap (map (map (λ (a : NodeId × EdgeKind). a.1))) c.arrivals.view_is
