use Rattle.std.proofs.Common.{◌≡◌, ◌++◌, take}
use Rattle.graph_nodes.specs.Numbered.{by_number}
use Rattle.graph_picture.specs.Drawing.{cluster_drawn}
use Rattle.graph_picture.proofs.draw.put_clusters.Given as goal

abbrev pub invariant-loop-m : goal.invariant-loop-m
invariant-loop-m l = l.text.items ≡ l.fn.text.items ++ by_number (cluster_drawn l.variants) 0 (take l.m l.clusters)
