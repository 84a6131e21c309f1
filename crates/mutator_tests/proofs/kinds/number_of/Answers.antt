use Rattle.std.proofs.Common.{◌∙◌, ap, get_or, sym}
use Rattle.bp_faults.specs.declared.ids.NodeId.{NodeId}
use Rattle.graph_nodes.specs.declared.graph.Node.{Node}
use Rattle.mutator_tests.proofs.Tested.{number_is}
use Rattle.mutator_tests.proofs.kinds.number_of.Goals as goal

pub returns : goal.returns
returns c =
    ap (λ (x : Node NodeId). x.payload.0) (sym c.index-as_slice-n.is)
    ∙ number_is c.args.g.now.nodes c.args.n.0 c.index-as_slice-n.result c.requires
    (c.index-as_slice-n.is ∙ ap (λ l. get_or l c.args.n.0 c.index-as_slice-n.result) c.as_slice.ensures)
