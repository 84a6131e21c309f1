-- The ends of links, and the nodes that requests are for, are nodes.
use Rattle.std.proofs.Common.{◌≡◌, ◌<◌, ◌+◌, ℕ, suc, Bool, true, false, cond, List, [], ◌∷◌, Option, Some, None, Result}
use Rattle.std.proofs.Common.{Ok, Err, length, refl, subst, arith}
use Rattle.std.specs.Prelude.{zip, ok_or, slice_get, if◌then◌else◌}
use Rattle.std.specs.Option.{option_map, option_map_or, option_and_then}
use Rattle.std.specs.List.{AllByRecursion, position_from, cons_option}
use Rattle.std.specs.Str.{bytes_eq}
use Rattle.std.proofs.lemmas.List.{length-map}
use Rattle.bp_faults.specs.Answers.{then_do}
use Rattle.bp_faults.specs.declared.fault.Fault.{Fault}
use Rattle.bp_faults.specs.declared.ids.NodeId.{NodeId}
use Rattle.bp_faults.specs.declared.kind.FaultKind.{FaultKind}
use Rattle.bp_faults.specs.declared.kind.FaultKind.TheVariants.{MissingModule}
use Rattle.bp_faults.proofs.Lists.{all_append, found_inside}
use Rattle.bp_names.specs.Meaning.{first_number_from}
use Rattle.bp_props.specs.declared.module.Module.{Module}
use Rattle.graph_nodes.specs.declared.graph.Node.{Node}
use Rattle.mutator_rules.specs.declared.request.Request.{Request}
use Rattle.reverse_deps.specs.Linked.{Link, link_of, links_in, links, same_way, edge_for}
use Rattle.reverse_deps.specs.Resolved.{names_by_number, module_named, wrong_kind, request_fault, missing_variant}
use Rattle.reverse_deps.specs.Resolved.{fitting, module_for, is_for, node_for, resolved_node}

-- the number of a name is one of the list
number_inside_names : (k : ℕ) (names : List (List ℕ)) (name : List ℕ) (n : ℕ) → first_number_from k names name ≡ Some n
    → n < k + length names
number_inside_names k [] name n is = cc
number_inside_names k (first ∷ names) name n is =
    by (bytes_eq name first) (number_inside_names (k + 1) names name n) is
  where
    by : (b : Bool) → (first_number_from (k + 1) names name ≡ Some n → n < (k + 1) + length names)
        → (if b then Some k else first_number_from (k + 1) names name) ≡ Some n → n < k + suc (length names)
    by true rest h = let same : k ≡ n = cc in omega arith
    by false rest h = let r = rest h in omega arith

named_inside : (mods : List Module) (name : List ℕ) (n : ℕ) → module_named mods name ≡ Some n → n < length mods
named_inside mods name n is =
    let inside = number_inside_names 0 (names_by_number mods) name n is in
    let many : length (names_by_number mods) ≡ length mods = length-map mods (λ (it : Module). it.name) in
    omega arith

fitting_same : (mods : List Module) (r : Request) (n m : ℕ) → fitting mods r n ≡ Ok m → n ≡ m
fitting_same mods r n m is = by (option_and_then (λ (it : Module). wrong_kind r.kind it.kind) (slice_get mods n)) is
  where
    by : (o : Option FaultKind)
        → option_map_or {U = Result ℕ Fault} (λ kind. Err (request_fault kind r)) o (Ok n) ≡ Ok m → n ≡ m
    by None h = cc
    by (Some kind) h = cc

-- the module of a request is one of the modules
pub module_inside : (mods : List Module) (r : Request) (m : ℕ) → module_for mods r ≡ Ok m → m < length mods
module_inside mods r m is = by (module_named mods r.name) refl is
  where
    by : (o : Option ℕ) → module_named mods r.name ≡ o
        → then_do (ok_or o (request_fault MissingModule r)) (fitting mods r) ≡ Ok m → m < length mods
    by None n_is h = cc
    by (Some n) n_is h =
        let same = fitting_same mods r n m h in let inside = named_inside mods r.name n n_is in omega arith

module _ {P : Type 0} where
  number_inside : (nodes : List (Node P)) (o : Option ℕ) (fault : Fault) (n : NodeId)
      → ((k : ℕ) → o ≡ Some k → k < length nodes) → ok_or (option_map (λ k. record { 0 = k }) o) fault ≡ Ok n
      → n.0 < length nodes
  number_inside nodes None fault n inside is = cc
  number_inside nodes (Some k) fault n inside is =
      let same : record { 0 = k } ≡ n = cc in subst (λ (x : NodeId). x.0 < length nodes) same (inside k refl)

  -- the node of a request is one of the nodes
  pub node_inside : (mods : List Module) (nodes : List (Node P)) (r : Request) (n : NodeId)
      → resolved_node mods nodes r ≡ Ok n → n.0 < length nodes
  node_inside mods nodes r n is = by (module_for mods r) is
    where
      by : (o : Result ℕ Fault) → then_do o (λ m. ok_or (node_for nodes m r.want) (missing_variant r)) ≡ Ok n
          → n.0 < length nodes
      by (Ok m) h =
          number_inside nodes (position_from (is_for m r.want) 0 nodes) (missing_variant r) n
          (λ k k_is. let lt = found_inside (is_for m r.want) 0 nodes k k_is in omega arith) h
      by (Err fault) h = cc

module _ (count : ℕ) where
  -- both ends of a link are nodes
  abbrev pub LinksInside : Link → Type 0
  LinksInside l = (l.0.0 < count) × (l.1.to.0 < count)

  link_inside : (a : NodeId × Request) (f : NodeId) → a.0.0 < count → f.0 < count → LinksInside (link_of (a, f))
  link_inside a f asker found = by a.1.reverse
    where
      by : (b : Bool) → LinksInside (cond b (f, edge_for a.1 a.0) (a.0, edge_for a.1 f))
      by true = (found, asker)
      by false = (asker, found)

  way_inside : (way : Bool) (asked : List (NodeId × Request)) (found : List NodeId)
      → AllByRecursion (λ (a : NodeId × Request). a.0.0 < count) asked
      → AllByRecursion (λ (n : NodeId). n.0 < count) found
      → AllByRecursion LinksInside (links_in way (zip asked found))
  way_inside way [] found asking within = tt
  way_inside way (a ∷ asked) [] asking within = tt
  way_inside way (a ∷ asked) (f ∷ found) asking within =
      by (same_way way a.1.reverse) (way_inside way asked found asking.1 within.1)
    where
      by : (b : Bool) → AllByRecursion LinksInside (links_in way (zip asked found)) → AllByRecursion LinksInside
          (cons_option (cond b (Some (link_of (a, f))) None) (links_in way (zip asked found)))
      by true rest = (link_inside a f asking.0 within.0, rest)
      by false rest = rest

  pub links_inside : (asked : List (NodeId × Request)) (found : List NodeId)
      → AllByRecursion (λ (a : NodeId × Request). a.0.0 < count) asked
      → AllByRecursion (λ (n : NodeId). n.0 < count) found
      → AllByRecursion LinksInside (links asked found)
  links_inside asked found asking within =
      all_append LinksInside (links_in false (zip asked found)) (links_in true (zip asked found))
      (way_inside false asked found asking within) (way_inside true asked found asking within)
