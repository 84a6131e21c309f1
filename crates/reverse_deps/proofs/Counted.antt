-- How many edges a graph has.
use Rattle.std.proofs.Common.{◌≡◌, ◌<◌, ◌≤◌, ◌+◌, ◌-◌, ◌++◌, ℕ, List, Option, Some, None, Result, Ok, Err, length, drop}
use Rattle.std.proofs.Common.{get_or, refl, sym, ap, ◌∙◌}
use Rattle.std.specs.Prelude.{slice_get}
use Rattle.std.specs.Option.{option_map_or}
use Rattle.std.proofs.lemmas.List.{drop_more}
use Rattle.bp_faults.specs.declared.fault.Fault.{Fault}
use Rattle.bp_faults.specs.declared.limits.TheConstants.{MOST_EDGES}
use Rattle.bp_faults.proofs.Lists.{slice_get-append, slice_get-append_past, none_there}
use Rattle.graph_nodes.specs.declared.graph.Edge.{Edge}
use Rattle.graph_nodes.specs.declared.graph.Node.{Node}
use Rattle.reverse_deps.specs.Applied.{too_many, edges_counted}
use Rattle.graph_nodes.specs.Nodes.{all_edges}

module _ {P : Type 0} (nodes : List (Node P)) (k left : ℕ) (x : Node P) (edges : List Edge) (lt : k < length nodes)
    (x_is : x ≡ get_or nodes k x) (edges_are : edges ≡ x.edges) where
  -- the edges that are left begin with those of the next node
  next_edges : all_edges (drop k nodes) ≡ edges ++ all_edges (drop (k + 1) nodes)
  next_edges =
      ap all_edges (drop_more nodes k x lt)
      ∙ ap (λ (y : Node P). y.edges ++ all_edges (drop (k + 1) nodes)) (sym x_is)
      ∙ ap (λ es. es ++ all_edges (drop (k + 1) nodes)) (sym edges_are)

  next_get : slice_get (all_edges (drop k nodes)) left ≡ slice_get (edges ++ all_edges (drop (k + 1) nodes)) left
  next_get = ap (λ es. slice_get es left) next_edges

  -- what stands beyond the limit stands behind the next node's edges, where these are within it
  pub behind_edges : (meant : Option Edge) → length edges ≤ left → slice_get (all_edges (drop k nodes)) left ≡ meant
      → slice_get (all_edges (drop (k + 1) nodes)) (left - length edges) ≡ meant
  behind_edges meant within is =
      sym (next_get ∙ slice_get-append_past edges (all_edges (drop (k + 1) nodes)) left within) ∙ is

  -- else it is one of them
  pub counted_beyond : (e : Edge) → left < length edges → e ≡ get_or edges left e
      → slice_get (all_edges (drop k nodes)) left ≡ slice_get (all_edges nodes) MOST_EDGES
      → edges_counted nodes ≡ Err (too_many e)
  counted_beyond e beyond e_is is =
      ap (λ o. option_map_or (λ (y : Edge). Err (too_many y)) o (Ok tt))
      (sym is ∙ next_get ∙ slice_get-append edges (all_edges (drop (k + 1) nodes)) left e beyond ∙ ap Some (sym e_is))

-- where they are counted there are no more than the limit
pub few_edges : {P : Type 0} (nodes : List (Node P)) → edges_counted nodes ≡ Ok tt
    → length (all_edges nodes) ≤ MOST_EDGES
few_edges nodes counted = by (slice_get (all_edges nodes) MOST_EDGES) refl counted
  where
    by : (o : Option Edge) → slice_get (all_edges nodes) MOST_EDGES ≡ o
        → option_map_or {U = Result (Unit {0}) Fault} (λ (e : Edge). Err (too_many e)) o (Ok tt) ≡ Ok tt
        → length (all_edges nodes) ≤ MOST_EDGES
    by None is ok = none_there (all_edges nodes) MOST_EDGES is
    by (Some e) is ok = cc
