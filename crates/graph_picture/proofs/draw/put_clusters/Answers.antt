use Rattle.std.proofs.Common.{◌∙◌, ◌++◌, ℕ, List, ap, sym, take}
use Rattle.graph_nodes.specs.Numbered.{by_number}
use Rattle.graph_picture.specs.Drawing.{cluster_drawn}
use Rattle.graph_picture.proofs.Chains.{behind}
use Rattle.graph_picture.proofs.Numbered.{by_number_taken}
use Rattle.graph_picture.proofs.draw.put_clusters.Goals as goal

pub loop-m-preserved : goal.loop-m-preserved
loop-m-preserved c =
    let old = c.args.text.now.items in
    let f = cluster_drawn c.args.variants.now in
    let clusters = c.args.clusters.now in
    let m = c.loop-m.m in
    let cluster = c.index-clusters-m.result in
    behind old c.loop-m.text.items c.put_cluster.new.text.items (by_number f 0 (take m clusters)) (f m cluster)
    c.loop-m.invariant c.in_ok-put_cluster.ensures
    ∙ ap (λ (l : List ℕ). old ++ l)
    (sym (by_number_taken f clusters m cluster c.loop-m-test.true c.index-clusters-m.is))
