-- A graph is within the limits, or something in it is the first beyond.
use Rattle.std.proofs.Common.{◌≡◌, ◌≤◌, ◌⊎◌, inl, inr, List, Option, Some, None, length}
use Rattle.std.proofs.Common.{refl, ap}
use Rattle.std.specs.Prelude.{slice_get}
use Rattle.std.specs.Option.{option_map}
use Rattle.bp_faults.specs.declared.ids.ModuleId.{ModuleId}
use Rattle.bp_faults.specs.declared.limits.TheConstants.{MOST_EDGES, MOST_NODES}
use Rattle.bp_faults.specs.declared.place.Place.{Place}
use Rattle.bp_faults.proofs.Lists.{none_there}
use Rattle.graph_nodes.specs.declared.graph.Edge.{Edge}
use Rattle.graph_nodes.specs.declared.graph.Node.{Node}
use Rattle.variant_graphs.specs.Laws.{LimitsTell}
use Rattle.variant_graphs.specs.Limits.{IsWithinLimits, IsFirstNodeBeyond, IsFirstEdgeBeyond}
use Rattle.graph_nodes.specs.Nodes.{all_edges}

module _ {P : Type 0} (nodes : List (Node P)) where
  abbrev Told : Type 0
  Told =
      IsWithinLimits nodes
      ⊎ (((m : ModuleId) × IsFirstNodeBeyond nodes m) ⊎ ((p : Place) × IsFirstEdgeBeyond nodes p))

  by_edge : length nodes ≤ MOST_NODES → (o : Option Edge) → slice_get (all_edges nodes) MOST_EDGES ≡ o → Told
  by_edge few None is = inl (record { few_nodes = few; few_edges = none_there (all_edges nodes) MOST_EDGES is })
  by_edge few (Some e) is =
      inr (inr (e.at, record { few_nodes = few; beyond = ap (option_map (λ (x : Edge). x.at)) is }))

  by_node : (o : Option (Node P)) → slice_get nodes MOST_NODES ≡ o → Told
  by_node None is = by_edge (none_there nodes MOST_NODES is) (slice_get (all_edges nodes) MOST_EDGES) refl
  by_node (Some x) is = inr (inl (x.«module», ap (option_map (λ (y : Node P). y.«module»)) is))

  pub told : Told
  told = by_node (slice_get nodes MOST_NODES) refl

pub limits_tell : {P : Type 0} → LimitsTell P
limits_tell nodes = told nodes
