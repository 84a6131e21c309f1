-- What is answered where all requests are resolved and the edges are counted.
use Rattle.std.proofs.Common.{◌≡◌, ◌<◌, ◌≤◌, List, [], Option, Ok, Err, Result, length, map, ap, refl, sym, ◌∙◌, subst}
use Rattle.std.specs.Option.{option_map_or}
use Rattle.std.proofs.lemmas.Option.{slice_get_past}
use Rattle.std.specs.List.{AllByRecursion}
use Rattle.bp_faults.specs.declared.fault.Fault.{Fault}
use Rattle.bp_faults.specs.declared.ids.NodeId.{NodeId}
use Rattle.bp_faults.specs.declared.limits.TheConstants.{MOST_EDGES}
use Rattle.bp_faults.specs.Phases.{GoesOn}
use Rattle.bp_props.specs.declared.module.Module.{Module}
use Rattle.graph_nodes.specs.declared.graph.Node.{Node}
use Rattle.graph_nodes.specs.declared.graph.Edge.{Edge}
use Rattle.graph_nodes.specs.Nodes.{all_edges}
use Rattle.module_graph.specs.Graphs.{edges_of, IsValid}
use Rattle.module_graph.specs.Walks.{NoneReturns}
use Rattle.mutator_rules.specs.Conditions.{MayRun, indices_in}
use Rattle.mutator_rules.specs.declared.request.Request.{Request}
use Rattle.reverse_deps.specs.Applied.{AskInside, too_many, edges_counted, found_for, AcyclicMeans, CountedMeans}
use Rattle.reverse_deps.specs.Applied.{ApplyMeans}
use Rattle.reverse_deps.specs.Linked.{without_edges, links, linked_nodes}
use Rattle.reverse_deps.specs.Resolved.{resolved_node}
use Rattle.reverse_deps.proofs.Each.{all_made, as_many}
use Rattle.reverse_deps.proofs.Gained.{bare_linked, no_links}
use Rattle.reverse_deps.proofs.Inside.{LinksInside, links_inside, node_inside}
use Rattle.reverse_deps.proofs.Made.{may_linked, valid_linked}

module _ {P : Type 0} (mods : List Module) (nodes : List (Node P)) (asked : List (NodeId × Request))
    (found : List NodeId) (found_is : found_for mods nodes asked ≡ Ok found) where
  pub many_found : length found ≡ length asked
  many_found = as_many (λ (a : NodeId × Request). resolved_node mods nodes a.1) asked found found_is

  pub found_inside : AllByRecursion (λ (n : NodeId). n.0 < length nodes) found
  found_inside =
      all_made (λ (a : NodeId × Request). resolved_node mods nodes a.1) (λ (n : NodeId). n.0 < length nodes)
      (λ a n is. node_inside mods nodes a.1 n is) asked found found_is

  module _ (asking : AskInside (length nodes) asked) (made : List (Node P))
      (made_is : made ≡ linked_nodes nodes (links asked found)) where
    inside : AllByRecursion (LinksInside (length nodes)) (links asked found)
    inside = links_inside (length nodes) asked found asking found_inside

    pub bare_made : map without_edges made ≡ map without_edges nodes
    bare_made = ap (map without_edges) made_is ∙ bare_linked nodes (links asked found)

    module _ (counted : edges_counted made ≡ Ok tt) where
      as_linked : edges_counted (linked_nodes nodes (links asked found)) ≡ Ok tt
      as_linked = subst (λ (xs : List (Node P)). edges_counted xs ≡ Ok tt) made_is counted

      pub may_made : MayRun (indices_in (length mods)) nodes → MayRun (indices_in (length mods)) made
      may_made may =
          subst (MayRun (indices_in (length mods))) (sym made_is)
          (may_linked (indices_in (length mods)) nodes (links asked found) may inside as_linked)

      module _ (acyclic : NoneReturns (edges_of made)) where
        linked_acyclic : NoneReturns (edges_of (linked_nodes nodes (links asked found)))
        linked_acyclic = subst (λ (xs : List (Node P)). NoneReturns (edges_of xs)) made_is acyclic

        pub valid_made : IsValid nodes → IsValid made
        valid_made valid =
            subst IsValid (sym made_is) (valid_linked nodes (links asked found) valid inside linked_acyclic)

        pub means_made : ApplyMeans mods nodes asked (Ok made)
        means_made =
            subst (λ (r : Result (List NodeId) Fault).
            GoesOn r (λ found. CountedMeans mods (linked_nodes nodes (links asked found))) (Ok made)) (sym found_is)
            (subst (λ (r : Result (Unit {0}) Fault). GoesOn r (AcyclicMeans mods
            (linked_nodes nodes (links asked found))) (Ok made)) (sym as_linked) (made_is, linked_acyclic))

-- where nothing is asked, a valid graph with few edges stays as it is
few_counted : {P : Type 0} (nodes : List (Node P)) → length (all_edges nodes) ≤ MOST_EDGES
    → edges_counted nodes ≡ Ok tt
few_counted nodes few =
    ap (λ (o : Option Edge). option_map_or (λ (e : Edge). Err (too_many e)) o (Ok tt))
    (slice_get_past (all_edges nodes) MOST_EDGES few)

pub nothing_asked : {P : Type 0} (mods : List Module) (nodes : List (Node P)) → IsValid nodes
    → length (all_edges nodes) ≤ MOST_EDGES → ApplyMeans mods nodes [] (Ok nodes)
nothing_asked mods nodes valid few =
    means_made mods nodes [] [] refl tt nodes (sym (no_links nodes)) (few_counted nodes few) valid.acyclic
