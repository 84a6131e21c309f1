-- The graphs of the tests, node by node.
use Rattle.std.proofs.Common.{◌≡◌, ◌∙◌, ◌+◌, ◌<◌, ◌≤◌, ◌^◌, ℕ, Bool, List, length, map, get_or, take, ap, sym}
use Rattle.std.proofs.Common.{subst, arith}
use Rattle.std.specs.List.{AllByRecursion}
use Rattle.std.proofs.lemmas.List.{length-append, length-map}
use Rattle.bp_faults.proofs.Lists.{all_pushed, take-more, take-past}
use Rattle.graph_nodes.specs.declared.graph.Edge.{Edge}
use Rattle.graph_nodes.specs.declared.graph.Node.{Node}
use Rattle.module_graph.specs.Graphs.{outward, edges_of, IsNumbered}
use Rattle.module_graph.specs.Laws.{OneMoreNode}

-- the nodes so far
pub record IsNumberedSoFar (nodes : List (Node Bool)) (count many : ℕ) : Type 0 where
  pub ends : AllByRecursion (λ (x : Node Bool). AllByRecursion (λ (e : Edge). e.to.0 < count) x.edges) nodes
  pub counted : many ≡ length (edges_of nodes)
  pub few : many < 2 ^ 32

pub so_far_more : OneMoreNode Bool → (nodes : List (Node Bool)) (i many : ℕ) (x : Node Bool) (es : List Edge)
    → i < length nodes → x ≡ get_or nodes i x → es ≡ x.edges → IsNumberedSoFar (take i nodes) (length nodes) many
    → AllByRecursion (λ (e : Edge). e.to.0 < length nodes) es → many + length es < 2 ^ 32
    → IsNumberedSoFar (take (i + 1) nodes) (length nodes) (many + length es)
so_far_more one nodes i many x es lt read of so_far inside few =
    let more = take-more nodes i x lt read in
    let edges : length (edges_of (take (i + 1) nodes)) ≡ length (edges_of (take i nodes)) + length x.edges =
    ap (λ (l : List (Node Bool)). length (edges_of l)) more
    ∙ ap length (one (take i nodes) x)
    ∙ length-append (edges_of (take i nodes)) (map (outward (length (take i nodes))) x.edges)
    ∙ ap (λ n. length (edges_of (take i nodes)) + n) (length-map x.edges (outward (length (take i nodes)))) in
    let same = ap length of in
    let old = so_far.counted in
    record {
      ends =
          subst (λ (l : List (Node Bool)).
          AllByRecursion (λ (y : Node Bool). AllByRecursion (λ (e : Edge). e.to.0 < length nodes) y.edges) l) (sym more)
          (all_pushed (λ (y : Node Bool). AllByRecursion (λ (e : Edge). e.to.0 < length nodes) y.edges)
          (take i nodes) x so_far.ends
          (subst (λ (l : List Edge). AllByRecursion (λ (e : Edge). e.to.0 < length nodes) l) of inside));
      counted = omega (arith, edges, same, old);
      few = few;
    }

pub all_numbered : (nodes : List (Node Bool)) (i many : ℕ) → length nodes ≤ i
    → IsNumberedSoFar (take i nodes) (length nodes) many → length nodes < 2 ^ 32 → IsNumbered nodes
all_numbered nodes i many le so_far few =
    let whole = take-past i nodes le in
    let edges = ap (λ (l : List (Node Bool)). length (edges_of l)) whole in
    let count = so_far.counted in
    let lt = so_far.few in
    record {
      few_nodes = few;
      few_edges = omega (arith, edges, count, lt);
      ends =
          subst (λ (l : List (Node Bool)). AllByRecursion (λ (x : Node Bool).
          AllByRecursion (λ (e : Edge). e.to.0 < length nodes) x.edges) l) whole so_far.ends;
    }
