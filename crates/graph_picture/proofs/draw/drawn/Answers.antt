use Rattle.std.proofs.Common.{◌∙◌, ◌++◌, ℕ, List, [], length, ap, arith}
use Rattle.graph_nodes.specs.Numbered.{by_number}
use Rattle.graph_picture.specs.declared.clusters.Cluster.{Cluster}
use Rattle.graph_picture.specs.declared.style.TheConstants.{HEAD}
use Rattle.graph_picture.specs.Drawing.{cluster_drawn, clusters_behind, picture_of}
use Rattle.graph_picture.proofs.Chains.{four}
use Rattle.graph_picture.proofs.Drawings.{marked_few}
use Rattle.graph_picture.proofs.draw.drawn.Goals as goal

pub clusters_of-requires : goal.clusters_of-requires
clusters_of-requires c =
    omega (arith, marked_few c.args.marks.now, ap length (c.deref.ensures.value ∙ c.in_ok-numbers.ensures), c.requires)

pub returns : goal.returns
unfolding picture_of
returns c =
    let variants = c.args.variants.now in
    let clusters_are =
    c.deref-2.ensures.value ∙ c.in_ok-clusters.ensures
    ∙ ap (clusters_behind variants []) (c.deref.ensures.value ∙ c.in_ok-numbers.ensures) in
    four [] c.put.new.text.items c.put_clusters.new.text.items c.put_all_arrows.new.text.items c.put-2.new.text.items
    _ _ _ _ (c.in_ok-put.ensures ∙ ap (λ (l : List ℕ). l ++ HEAD.now) c.new-text.ensures.items)
    (c.in_ok-put_clusters.ensures
    ∙ ap (λ (l : List Cluster). c.put.new.text.items ++ by_number (cluster_drawn variants) 0 l) clusters_are)
    c.in_ok-put_all_arrows.ensures c.in_ok-put-2.ensures
