use Rattle.mutator_kinds.proofs.Arriving.{kinds_of_all}
use Rattle.mutator_kinds.proofs.Lasting.{if_ok_same}
use Rattle.mutator_kinds.specs.Inside.{all_kinds}
use Rattle.mutator_kinds.proofs.downward.kinds_by_node.Goals as goal

pub returns : goal.returns
returns g c =
    if_ok_same c.kinds_of.result _ (all_kinds c.args.g.now.nodes)
    (kinds_of_all c.args.g.now.nodes c.in_ok-arrivals.arrivals c.in_ok-arrivals.ensures) c.kinds_of.ensures
