-- The first edge beyond a limit.
use Rattle.std.proofs.Common.{◌≡◌, ◌<◌, ◌≤◌, ◌+◌, ◌-◌, ◌++◌, ℕ, List, Option, Some, length, drop, get_or, sym, ap, ◌∙◌}
use Rattle.std.specs.Prelude.{slice_get}
use Rattle.std.specs.Option.{option_map}
use Rattle.std.proofs.lemmas.List.{drop_more}
use Rattle.bp_faults.specs.declared.limits.TheConstants.{MOST_EDGES}
use Rattle.bp_faults.proofs.Lists.{slice_get-append, slice_get-append_past}
use Rattle.graph_nodes.specs.declared.graph.Edge.{Edge}
use Rattle.graph_nodes.specs.declared.graph.Node.{Node}
use Rattle.graph_nodes.specs.Nodes.{all_edges}

module _ {P : Type 0} (nodes : List (Node P)) (k left : ℕ) (x : Node P) (edges : List Edge) (lt : k < length nodes)
    (x_is : x ≡ get_or nodes k x) (edges_are : edges ≡ x.edges) where
  -- the edges that are left begin with those of the next node
  next_edges : all_edges (drop k nodes) ≡ edges ++ all_edges (drop (k + 1) nodes)
  next_edges =
      ap all_edges (drop_more nodes k x lt)
      ∙ ap (λ (y : Node P). y.edges ++ all_edges (drop (k + 1) nodes)) (sym x_is)
      ∙ ap (λ es. es ++ all_edges (drop (k + 1) nodes)) (sym edges_are)

  next_get : slice_get (all_edges (drop k nodes)) left ≡ slice_get (edges ++ all_edges (drop (k + 1) nodes)) left
  next_get = ap (λ es. slice_get es left) next_edges

  -- what stands beyond the limit stands behind the next node's edges, where these are within it
  pub behind_edges : (meant : Option Edge) → length edges ≤ left → slice_get (all_edges (drop k nodes)) left ≡ meant
      → slice_get (all_edges (drop (k + 1) nodes)) (left - length edges) ≡ meant
  behind_edges meant within is =
      sym (next_get ∙ slice_get-append_past edges (all_edges (drop (k + 1) nodes)) left within) ∙ is

  -- else it is one of them
  pub counted_beyond : (e : Edge) → left < length edges → e ≡ get_or edges left e
      → slice_get (all_edges (drop k nodes)) left ≡ slice_get (all_edges nodes) MOST_EDGES
      → Some e.at ≡ option_map (λ (y : Edge). y.at) (slice_get (all_edges nodes) MOST_EDGES)
  counted_beyond e beyond e_is is =
      ap (option_map (λ (y : Edge). y.at)) (sym (sym is ∙ next_get
      ∙ slice_get-append edges (all_edges (drop (k + 1) nodes)) left e beyond ∙ ap Some (sym e_is)))
