use Rattle.graph_picture.proofs.Clustered.{AreGrouped}
use Rattle.graph_picture.proofs.clusters.clusters_of.Given as goal

abbrev pub invariant-loop-n : goal.invariant-loop-n
invariant-loop-n l = AreGrouped l.variants l.numbers l.n-index l.table l.clusters.items
