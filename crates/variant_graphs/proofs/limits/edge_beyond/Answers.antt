use Rattle.std.proofs.Common.{◌≡◌, ◌∙◌, ◌<◌, ◌+◌, ◌-◌, ap, get_or, length, arith, sym, slice_get, take}
use Rattle.bp_faults.specs.declared.limits.TheConstants.{MOST_EDGES}
use Rattle.graph_nodes.specs.declared.graph.Node.{Node}
use Rattle.variant_graphs.specs.Inside.{copies_of, kept_places, new_places}
use Rattle.variant_graphs.proofs.Beyond.{places_more, place_beyond, length-repeated_more, beyond_is}
use Rattle.variant_graphs.proofs.limits.edge_beyond.Goals as goal

pub returns-then-kept-total : goal.returns-then-kept-total
returns-then-kept-total g c =
    let counts = c.args.counts.now in
    let nodes = c.args.g.now.nodes in
    let n = c.loop-n.n in
    let x = c.node-item.result in
    let edges_are : c.as_slice-edges.result.now ≡ (get_or nodes n x).edges =
    c.as_slice-edges.ensures
    ∙ ap (λ (y : Node _). y.edges) c.node-item.is
    ∙ ap (λ l. (get_or l n x).edges) c.as_slice-node-items.ensures in
    let kept_are : kept_places counts c.as_slice-edges.result.now ≡ kept_places counts (get_or nodes n x).edges =
    ap (kept_places counts) edges_are in
    let front = length (new_places counts (take n nodes)) in
    let times = length (copies_of c.loop-copy._copy (kept_places counts (get_or nodes n x).edges)) in
    let total : c.loop-copy.total ≡ front + times =
    c.loop-copy.invariant.0 ∙ ap (λ l. front + length (copies_of c.loop-copy._copy l)) kept_are in
    let many : c.count_kept-kept.result ≡ length (kept_places counts (get_or nodes n x).edges) =
    c.count_kept-kept.ensures ∙ ap length kept_are in
    let few = c.loop-copy.invariant.1 in
    let within : MOST_EDGES - c.loop-copy.total < length (kept_places counts (get_or nodes n x).edges) = omega arith in
    let same : (front + times) + (MOST_EDGES - c.loop-copy.total) ≡ MOST_EDGES = omega arith in
    let e = ap length c.as_slice-node-items.ensures in
    let lt : n < length nodes = omega arith in
    beyond_is counts nodes (kept_places counts (get_or nodes n x).edges) (MOST_EDGES - c.loop-copy.total)
    c.kept_at.result (c.kept_at.ensures ∙ ap (λ l. slice_get l (MOST_EDGES - c.loop-copy.total)) kept_are) within
    (ap (slice_get (new_places counts nodes)) (sym same)
    ∙ place_beyond counts nodes n x c.loop-copy._copy (MOST_EDGES - c.loop-copy.total) lt (omega arith) within)

pub loop-copy-preserved : goal.loop-copy-preserved
loop-copy-preserved g c =
    let more = length-repeated_more c.loop-copy._copy (kept_places c.args.counts.now c.as_slice-edges.result.now) in
    let total = c.loop-copy.invariant.0 in
    let kept = c.count_kept-kept.ensures in
    (omega arith, omega arith)

pub loop-n-preserved : goal.loop-n-preserved
loop-n-preserved g c =
    let counts = c.args.counts.now in
    let nodes = c.args.g.now.nodes in
    let n = c.loop-n.n in
    let x = c.node-item.result in
    let edges_are : c.as_slice-edges.result.now ≡ (get_or nodes n x).edges =
    c.as_slice-edges.ensures
    ∙ ap (λ (y : Node _). y.edges) c.node-item.is
    ∙ ap (λ l. (get_or l n x).edges) c.as_slice-node-items.ensures in
    let front = length (new_places counts (take n nodes)) in
    let e = ap length c.as_slice-node-items.ensures in
    let lt : n < length nodes = omega arith in
    let whole : c.loop-copy._copy ≡ get_or counts n 0 = omega arith in
    let more = places_more counts nodes n x lt in
    let total : c.loop-copy.total
    ≡ front + length (copies_of (get_or counts n 0) (kept_places counts (get_or nodes n x).edges)) =
    c.loop-copy.invariant.0
    ∙ ap (λ l. front + length (copies_of c.loop-copy._copy (kept_places counts l))) edges_are
    ∙ ap (λ k. front + length (copies_of k (kept_places counts (get_or nodes n x).edges))) whole in
    (total ∙ sym more, c.loop-copy.invariant.1)
