-- Requests make something of a graph, and a graph that they make of a valid one is fit for the next mutator.
use Rattle.std.proofs.Common.{◌≡◌, List, Result, Ok, Err, length, refl, sym, subst}
use Rattle.bp_faults.specs.declared.fault.Fault.{Fault}
use Rattle.bp_faults.specs.declared.ids.NodeId.{NodeId}
use Rattle.bp_faults.specs.Phases.{GoesOn, HasOutcome}
use Rattle.bp_props.specs.declared.module.Module.{Module}
use Rattle.graph_nodes.specs.declared.graph.Node.{Node}
use Rattle.graph_nodes.specs.Nodes.{NameNodes}
use Rattle.module_graph.specs.Cycles.{CycleMeans}
use Rattle.module_graph.specs.Graphs.{IsValid}
use Rattle.module_graph.specs.Laws.{OneCycleMeaning}
use Rattle.mutator_rules.specs.declared.request.Request.{Request}
use Rattle.mutator_rules.specs.Conditions.{MayRun, indices_in}
use Rattle.reverse_deps.specs.Applied.{AskInside, labels_of, edges_counted, AcyclicMeans, CountedMeans, found_for}
use Rattle.reverse_deps.specs.Applied.{ApplyMeans}
use Rattle.reverse_deps.specs.Laws.{IsFitStill}
use Rattle.reverse_deps.specs.Linked.{links, linked_nodes}
use Rattle.reverse_deps.proofs.Inside.{links_inside}
use Rattle.reverse_deps.proofs.Made.{ends_linked}
use Rattle.reverse_deps.proofs.Whole.{found_inside, bare_made, may_made, valid_made}

-- What goes on from a result has some outcome, where the next meaning has one for this result.
goes_on_from : {A B : Type 0} (first : Result A Fault) (Next : A → Result B Fault → Type 0)
    → ((value : A) → first ≡ Ok value → HasOutcome (Next value)) → HasOutcome (GoesOn first Next)
goes_on_from (Ok value) Next some = some value refl
goes_on_from (Err fault) Next some = (Err fault, refl)

-- What a whole outcome goes on from is a value.
came_from : {A B : Type 0} (first : Result A Fault) (Next : A → Result B Fault → Type 0) (made : B)
    → GoesOn first Next (Ok made) → (value : A) × (first ≡ Ok value) × Next value (Ok made)
came_from (Ok value) Next made h = (value, refl, h)
came_from (Err fault) Next made h = cc

module _ {P : Type 0} (mods : List Module) where
  module _ (one : OneCycleMeaning P) where
    some_acyclic : (new : List (Node P)) (counted : Unit {0}) → NameNodes new
        → HasOutcome (AcyclicMeans mods new counted)
    some_acyclic new counted ends = let said = one new (labels_of mods new) ends in by said.0 said.1
      where
        by : (said : Result (Unit {0}) Fault) → CycleMeans new (labels_of mods new) said
            → HasOutcome (AcyclicMeans mods new counted)
        by (Ok done) means = (Ok new, (refl, means))
        by (Err fault) means = (Err fault, means)

    some_counted : (new : List (Node P)) → NameNodes new → HasOutcome (CountedMeans mods new)
    some_counted new ends =
        goes_on_from (edges_counted new) (AcyclicMeans mods new) (λ counted is. some_acyclic new counted ends)

    pub some_outcome : (nodes : List (Node P)) (asked : List (NodeId × Request)) → NameNodes nodes
        → AskInside (length nodes) asked → HasOutcome (ApplyMeans mods nodes asked)
    some_outcome nodes asked ends asking =
        goes_on_from (found_for mods nodes asked) (λ found. CountedMeans mods (linked_nodes nodes (links asked found)))
        (λ found is. some_counted (linked_nodes nodes (links asked found))
        (ends_linked nodes (links asked found)
        (links_inside (length nodes) asked found asking (found_inside mods nodes asked found is)) ends))

  pub applied_keeps : (nodes : List (Node P)) (asked : List (NodeId × Request)) (new : List (Node P))
      → IsValid nodes → MayRun (indices_in (length mods)) nodes → AskInside (length nodes) asked
      → ApplyMeans mods nodes asked (Ok new) → IsFitStill (length mods) nodes new
  applied_keeps nodes asked new valid may asking applied =
      let (found, found_is, rest) =
      came_from (found_for mods nodes asked)
      (λ found. CountedMeans mods (linked_nodes nodes (links asked found))) new applied in
      let graph : List (Node P) = linked_nodes nodes (links asked found) in
      let (counted, counted_is, acyclic) = came_from (edges_counted graph) (AcyclicMeans mods graph) new rest in
      subst (IsFitStill (length mods) nodes) (sym acyclic.0) (record {
        valid = valid_made mods nodes asked found found_is asking graph refl counted_is acyclic.1 valid;
        may = may_made mods nodes asked found found_is asking graph refl counted_is may;
        same = bare_made mods nodes asked found found_is asking graph refl;
      })
