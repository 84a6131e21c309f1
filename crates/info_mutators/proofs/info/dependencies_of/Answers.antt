use Rattle.std.proofs.Common.{ap, sym, ◌∙◌, map, ◌<◌, ◌++◌, ◌∷◌, [], get_or, length, take, List}
use Rattle.std.specs.Arc.{arc_value}
use Rattle.std.proofs.lemmas.List.{length-map}
use Rattle.std.proofs.lemmas.List.Elements.{All-from_recursion}
use Rattle.graph_nodes.specs.declared.graph.Edge.{Edge}
use Rattle.mutator_rules.specs.declared.split.Split.{Split}
use Rattle.bp_props.specs.declared.props.Props.{Props}
use Rattle.info_mutators.specs.Dependencies.{Dependency, dependency_along, dependencies_of}
use Rattle.info_mutators.proofs.Read.{depends_more, depends_is, get_mapped, named, no_edge}
use Rattle.info_mutators.proofs.info.dependencies_of.Goals as goal

pub loop-index-preserved : goal.loop-index-preserved
loop-index-preserved c =
    let mods = c.args.mods.now in
    let nodes = c.args.g.now.nodes in
    let edges = c.args.edges.now in
    let made = map arc_value c.args.made.now in
    let index = c.loop-index.index in
    let arc = c.index-made-index.result in
    let node = c.index-as_slice-edge.result in
    let first = get_or edges index no_edge in
    let is_node = c.index-as_slice-edge.is ∙ ap (λ l. get_or l first.to.0 node) c.as_slice.ensures in
    let inside = All-from_recursion (λ (e : Edge). e.to.0 < length nodes) edges c.requires.ends index no_edge
    c.loop-index-test.true in
    let is = depends_is mods nodes first
    (arc_value arc) node c.index-mods-node.result c.requires.may.accepted inside is_node c.index-mods-node.is in
    let arcs = get_mapped arc_value c.args.made.now index arc ∙ ap arc_value (sym c.index-made-index.is) in
    c.in_ok-push.ensures.items
    ∙ ap (λ (l : List Dependency). l ++ c.new.result ∷ []) c.loop-index.invariant
    ∙ ap (λ (d : Dependency). dependencies_of mods nodes (take index edges) made ++ d ∷ [])
    (c.new.ensures
    ∙ ap (λ m. named first m (get_or mods node.module.0 c.index-mods-node.result).name) c.deref.ensures
    ∙ is
    ∙ ap (λ (m : Split Props). dependency_along mods nodes (first, m)) (sym arcs))
    ∙ sym (depends_more mods nodes edges made index no_edge (arc_value arc) c.loop-index-test.true
    (length-map c.args.made.now arc_value ∙ c.requires.each))
