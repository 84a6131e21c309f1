use Rattle.std.proofs.Common.{◌≡◌, [], length, ℕ, ◌<◌, List, ◌∷◌, zero, suc, get_or, ap, sym, ◌∙◌, arith}
use Rattle.std.proofs.lemmas.List.{length-map}
use Rattle.bp_props.specs.declared.props.Props.{Props}
use Rattle.graph_nodes.specs.declared.graph.Edge.{Edge}
use Rattle.graph_nodes.specs.declared.graph.Node.{Node}
use Rattle.graph_nodes.specs.Nodes.{targets}
use Rattle.writing_tests.proofs.actions.visited.Goals as goal

targets_counted : (nodes : List (Node Props)) (n : ℕ) (d x : Node Props) → n < length nodes → x ≡ get_or nodes n d
    → length (targets nodes n) ≡ length x.edges
targets_counted [] n d x lt read = absurd (omega arith)
targets_counted (y ∷ ys) zero d x lt read =
    length-map y.edges (λ (e : Edge). e.to.0) ∙ ap (λ (z : Node Props). length z.edges) (sym read)
targets_counted (y ∷ ys) (suc n) d x lt read = targets_counted ys n d x (omega arith) read

pub visit-requires : goal.visit-requires
visit-requires c =
    let found = c.in-Some.ensures.lookup.3 in
    let same = ap length c.as_slice-2.ensures in
    let many = c.if-as_slice-ins.false in
    let all : c.new.result.graph.now.nodes ≡ c.as_slice.result.now =
    ap (λ g. g.nodes) c.new.ensures.graph ∙ sym c.as_slice.ensures in
    rw all
    (let counted = targets_counted c.as_slice.result.now c.args.n c.in-Some.node.now c.in-Some.node.now found.0
    (found.1 c.in-Some.node.now) in
    (found.0, omega (arith, same, many, counted)))
