-- The graph with the edges that are asked for is valid and numbered, where the graph before was.
use Rattle.std.proofs.Common.{◌≡◌, ◌<◌, ◌≤◌, ◌+◌, ℕ, zero, suc, Bool, true, false, cond, List, [], ◌∷◌, Option, Some}
use Rattle.std.proofs.Common.{None, Result, Ok, Err, length, map, nat_eq, refl, sym, ap, ◌∙◌, subst, arith}
use Rattle.std.specs.Prelude.{zip, ok_or, slice_get, slice_index_or}
use Rattle.std.specs.Option.{option_map, option_map_or}
use Rattle.std.specs.List.{AllByRecursion, position_from, cons_option}
use Rattle.std.proofs.lemmas.List.{length-map, length-append}
use Rattle.bp_faults.specs.declared.fault.Fault.{Fault}
use Rattle.bp_faults.specs.declared.ids.NodeId.{NodeId}
use Rattle.bp_faults.specs.declared.limits.TheConstants.{MOST_EDGES}
use Rattle.bp_faults.specs.Answers.{then_do}
use Rattle.bp_faults.specs.Phases.{GoesOn}
use Rattle.bp_faults.proofs.Lists.{all_append, none_there, found_inside}
use Rattle.bp_props.specs.declared.module.Module.{Module}
use Rattle.bp_props.specs.declared.props.Props.{Props}
use Rattle.graph_nodes.specs.declared.graph.Edge.{Edge}
use Rattle.graph_nodes.specs.declared.graph.Node.{Node}
use Rattle.graph_nodes.specs.declared.variations.Axis.{Axis}
use Rattle.graph_nodes.specs.Nodes.{NameNodes, all_edges}
use Rattle.graph_nodes.specs.Numbered.{by_number}
use Rattle.module_graph.specs.Graphs.{outward, edges_of, IsNumbered, IsValid}
use Rattle.module_graph.specs.Walks.{NoneReturns}
use Rattle.mutator_rules.specs.declared.request.Request.{Request}
use Rattle.reverse_deps.specs.Applied.{edges_counted, too_many, AcyclicMeans, CountedMeans, found_for, ApplyMeans}
use Rattle.reverse_deps.specs.Applied.{AskInside}
use Rattle.reverse_deps.specs.Linked.{Link, edge_for, link_of, links_in, links, same_way, gained_edges, linked_from}
use Rattle.reverse_deps.specs.Linked.{linked_nodes}
use Rattle.reverse_deps.specs.Resolved.{module_for, missing_variant, is_for, node_for, resolved_node}
use Rattle.variant_graphs.specs.Splitting.{HasFreeAxis}
use Rattle.output_forms.proofs.Outs.{IfResult}

-- Both ends of a link are below a number.
abbrev LinksBelow : ℕ → Link → Type 0
LinksBelow count l = (l.0.0 < count) × (l.1.to.0 < count)

-- An edge leads below a number.
abbrev LeadsBelow : ℕ → Edge → Type 0
LeadsBelow count e = e.to.0 < count

-- Each edge of a node does.
abbrev NodeLeadsBelow : ℕ → Node Props → Type 0
NodeLeadsBelow count x = AllByRecursion (LeadsBelow count) x.edges

-- the node that is found

found_below : (count : ℕ) (o : Option ℕ) (fault : Fault) → ((k : ℕ) → o ≡ Some k → k < count)
    → IfResult (λ (n : NodeId). n.0 < count) (ok_or (option_map (λ k. record { 0 = k }) o) fault)
found_below count None fault below = tt
found_below count (Some k) fault below = below k refl

resolved_below : (mods : List Module) (nodes : List (Node Props)) (r : Request)
    → IfResult (λ (n : NodeId). n.0 < length nodes) (resolved_node mods nodes r)
resolved_below mods nodes r = by (module_for mods r)
  where
    by : (o : Result ℕ Fault)
        → IfResult (λ (n : NodeId). n.0 < length nodes)
        (then_do o (λ m. ok_or (node_for nodes m r.want) (missing_variant r)))
    by (Ok m) =
        found_below (length nodes) (position_from (is_for m r.want) 0 nodes) (missing_variant r)
        (λ k is. let lt = found_inside (is_for m r.want) 0 nodes k is in omega (arith, lt))
    by (Err fault) = tt

all_below : (mods : List Module) (nodes : List (Node Props)) (asked : List (NodeId × Request))
    → IfResult (AllByRecursion (λ (n : NodeId). n.0 < length nodes)) (found_for mods nodes asked)
all_below mods nodes [] = tt
all_below mods nodes (a ∷ asked) =
    by (resolved_node mods nodes a.1) (resolved_below mods nodes a.1) (found_for mods nodes asked)
    (all_below mods nodes asked)
  where
    by : (r : Result NodeId Fault) → IfResult (λ (n : NodeId). n.0 < length nodes) r
        → (rs : Result (List NodeId) Fault) → IfResult (AllByRecursion (λ (n : NodeId). n.0 < length nodes)) rs
        → IfResult (AllByRecursion (λ (n : NodeId). n.0 < length nodes))
        (then_do r (λ y. then_do rs (λ ys. Ok (y ∷ ys))))
    by (Ok n) h (Ok ns) k = (h, k)
    by (Ok n) h (Err fault) k = tt
    by (Err fault) h rs k = tt

-- links

link_below : (count : ℕ) (a : NodeId × Request) (f : NodeId) → a.0.0 < count → f.0 < count
    → LinksBelow count (link_of (a, f))
link_below count a f asker found = by a.1.reverse
  where
    by : (b : Bool) → LinksBelow count (cond b (f, edge_for a.1 a.0) (a.0, edge_for a.1 f))
    by true = (found, asker)
    by false = (asker, found)

way_below : (count : ℕ) (way : Bool) (asked : List (NodeId × Request)) (found : List NodeId) → AskInside count asked
    → AllByRecursion (λ (n : NodeId). n.0 < count) found
    → AllByRecursion (LinksBelow count) (links_in way (zip asked found))
way_below count way [] found asking within = tt
way_below count way (a ∷ asked) [] asking within = tt
way_below count way (a ∷ asked) (f ∷ found) asking within =
    by (same_way way a.1.reverse) (way_below count way asked found asking.1 within.1)
  where
    by : (b : Bool) → AllByRecursion (LinksBelow count) (links_in way (zip asked found))
        → AllByRecursion (LinksBelow count)
        (cons_option (cond b (Some (link_of (a, f))) None) (links_in way (zip asked found)))
    by true rest = (link_below count a f asking.0 within.0, rest)
    by false rest = rest

links_below : (count : ℕ) (asked : List (NodeId × Request)) (found : List NodeId) → AskInside count asked
    → AllByRecursion (λ (n : NodeId). n.0 < count) found → AllByRecursion (LinksBelow count) (links asked found)
links_below count asked found asking within =
    all_append (LinksBelow count) (links_in false (zip asked found)) (links_in true (zip asked found))
    (way_below count false asked found asking within) (way_below count true asked found asking within)

gained_below : (count n : ℕ) (ls : List Link) → AllByRecursion (LinksBelow count) ls
    → AllByRecursion (LeadsBelow count) (gained_edges n ls)
gained_below count n [] all = tt
gained_below count n (l ∷ ls) all = by (nat_eq l.0.0 n) (gained_below count n ls all.1)
  where
    by : (b : Bool) → AllByRecursion (LeadsBelow count) (gained_edges n ls)
        → AllByRecursion (LeadsBelow count) (cons_option (cond b (Some l.1) None) (gained_edges n ls))
    by true rest = (all.0.1, rest)
    by false rest = rest

-- the graph

ends_from : (count k : ℕ) (xs : List (Node Props)) (ls : List Link) → AllByRecursion (LinksBelow count) ls
    → AllByRecursion (NodeLeadsBelow count) xs → AllByRecursion (NodeLeadsBelow count) (linked_from k xs ls)
ends_from count k [] ls below ends = tt
ends_from count k (x ∷ xs) ls below ends = (
  all_append (LeadsBelow count) x.edges (gained_edges k ls) ends.0 (gained_below count k ls below),
  ends_from count (k + 1) xs ls below ends.1,
)

many_from : (k : ℕ) (xs : List (Node Props)) (ls : List Link) → length (linked_from k xs ls) ≡ length xs
many_from k [] ls = refl
many_from k (x ∷ xs) ls = ap suc (many_from (k + 1) xs ls)

many_edges : (k : ℕ) (xs : List (Node Props))
    → length (by_number (λ n (x : Node Props). map (outward n) x.edges) k xs) ≡ length (all_edges xs)
many_edges k [] = refl
many_edges k (x ∷ xs) =
    length-append (map (outward k) x.edges) (by_number (λ n (y : Node Props). map (outward n) y.edges) (k + 1) xs)
    ∙ (λ i. length-map x.edges (outward k) i + many_edges (k + 1) xs i)
    ∙ sym (length-append x.edges (all_edges xs))

few_edges : (nodes : List (Node Props)) (done : Unit {0}) → edges_counted nodes ≡ Ok done
    → length (all_edges nodes) ≤ MOST_EDGES
few_edges nodes done is = by (slice_get (all_edges nodes) MOST_EDGES) refl is
  where
    by : (o : Option Edge) → slice_get (all_edges nodes) MOST_EDGES ≡ o
        → option_map_or {U = Result (Unit {0}) Fault} (λ (e : Edge). Err (too_many e)) o (Ok tt) ≡ Ok done
        → length (all_edges nodes) ≤ MOST_EDGES
    by None found h = none_there (all_edges nodes) MOST_EDGES found
    by (Some e) found h = absurd (cc)

-- each linked node stands for its old one
same_at : (k : ℕ) (xs : List (Node Props)) (ls : List Link) (i : ℕ) (d : Node Props) → i < length xs
    → ((slice_index_or (linked_from k xs ls) i d).«module» ≡ (slice_index_or xs i d).«module»)
    × ((slice_index_or (linked_from k xs ls) i d).vars ≡ (slice_index_or xs i d).vars)
same_at k [] ls i d lt = absurd (omega (arith, lt))
same_at k (x ∷ xs) ls zero d lt = (refl, refl)
same_at k (x ∷ xs) ls (suc i) d lt = same_at (k + 1) xs ls i d (omega (arith, lt))

free_from : (axis : Axis) (k : ℕ) (xs : List (Node Props)) (ls : List Link) → HasFreeAxis axis xs
    → HasFreeAxis axis (linked_from k xs ls)
free_from axis k [] ls free = tt
free_from axis k (x ∷ xs) ls free = (free.0, free_from axis (k + 1) xs ls free.1)

-- A graph is valid and numbered, and has the axes of another free.
pub record Follows (old new : List (Node Props)) : Type 0 where
  pub valid : IsValid new
  pub numbered : IsNumbered new
  pub free : (axis : Axis) → HasFreeAxis axis old → HasFreeAxis axis new

linked_follows : (nodes : List (Node Props)) (ls : List Link) → IsValid nodes → IsNumbered nodes
    → AllByRecursion (LinksBelow (length nodes)) ls → (done : Unit {0})
    → edges_counted (linked_nodes nodes ls) ≡ Ok done
    → NoneReturns (edges_of (linked_nodes nodes ls)) → Follows nodes (linked_nodes nodes ls)
linked_follows nodes ls valid numbered below done counted acyclic =
    let many = many_from 0 nodes ls in
    let as_many = many_edges 0 (linked_nodes nodes ls) in
    let few = few_edges (linked_nodes nodes ls) done counted in
    let few_nodes = numbered.few_nodes in
    let ends : NameNodes (linked_nodes nodes ls) =
    subst (λ count. AllByRecursion (NodeLeadsBelow count) (linked_nodes nodes ls)) (sym many)
    (ends_from (length nodes) 0 nodes ls below valid.ends) in
    record {
      valid = record {
        ends = ends;
        distinct = λ i j d ij jl same vars.
            let within : j < length nodes = omega (arith, many, jl) in
            let first = same_at 0 nodes ls i d (omega (arith, ij, within)) in
            let second = same_at 0 nodes ls j d within in
            valid.distinct i j d ij within (sym first.0 ∙ same ∙ second.0) (sym first.1 ∙ vars ∙ second.1);
        acyclic = acyclic;
      };
      numbered = record {
        few_nodes = omega (arith, many, few_nodes);
        few_edges = omega (arith, as_many, few);
        ends = ends;
      };
      free = λ axis free. free_from axis 0 nodes ls free;
    }

-- what requests make of a graph
pub applied_follows : (mods : List Module) (nodes : List (Node Props)) (asked : List (NodeId × Request))
    → IsValid nodes → IsNumbered nodes → AskInside (length nodes) asked → (new : List (Node Props))
    → ApplyMeans mods nodes asked (Ok new) → Follows nodes new
applied_follows mods nodes asked valid numbered asking new is =
    by (found_for mods nodes asked) (all_below mods nodes asked) is
  where
    counted : (ls : List Link) → AllByRecursion (LinksBelow (length nodes)) ls → (r : Result (Unit {0}) Fault)
        → edges_counted (linked_nodes nodes ls) ≡ r → (GoesOn r (AcyclicMeans mods (linked_nodes nodes ls)) (Ok new))
        → Follows nodes new
    counted ls below (Ok done) fine h =
        subst (Follows nodes) (sym h.0) (linked_follows nodes ls valid numbered below done fine h.1)
    counted ls below (Err fault) fine h = absurd (cc)

    by : (r : Result (List NodeId) Fault) → IfResult (AllByRecursion (λ (n : NodeId). n.0 < length nodes)) r
        → GoesOn r (λ found. CountedMeans mods (linked_nodes nodes (links asked found))) (Ok new) → Follows nodes new
    by (Ok found) below h =
        counted (links asked found) (links_below (length nodes) asked found asking below)
        (edges_counted (linked_nodes nodes (links asked found))) refl h
    by (Err fault) below h = absurd (cc)
