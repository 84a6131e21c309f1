-- Requests make one thing of a graph.
use Rattle.std.proofs.Common.{◌≡◌, ◌∙◌, List, Result, Ok, Err, ap, sym}
use Rattle.bp_faults.specs.declared.fault.Fault.{Fault}
use Rattle.bp_faults.specs.declared.ids.NodeId.{NodeId}
use Rattle.bp_faults.specs.Phases.{IsOnce}
use Rattle.bp_faults.proofs.Phases.{goes_on_once}
use Rattle.bp_props.specs.declared.module.Module.{Module}
use Rattle.graph_nodes.specs.declared.graph.Node.{Node}
use Rattle.module_graph.specs.Laws.{AtMostOneCycleMeaning}
use Rattle.mutator_rules.specs.declared.request.Request.{Request}
use Rattle.reverse_deps.specs.Applied.{labels_of, edges_counted, AcyclicMeans, CountedMeans, found_for, ApplyMeans}
use Rattle.reverse_deps.specs.Linked.{links, linked_nodes}

abbrev done : Result (Unit {0}) Fault
done = Ok tt

abbrev faulty : Fault → Result (Unit {0}) Fault
faulty fault = Err fault

done_or_faulty : (fault : Fault) → done ≡ faulty fault → ⊥
done_or_faulty fault is = cc

same_fault : (fault other : Fault) → faulty fault ≡ faulty other → fault ≡ other
same_fault fault other is = cc

module _ {P : Type 0} (one : AtMostOneCycleMeaning P) (mods : List Module) where
  acyclic_once : (new : List (Node P)) (counted : Unit {0}) → IsOnce (AcyclicMeans mods new counted)
  acyclic_once new counted (Ok made) (Ok other) x y = ap Ok (x.0 ∙ sym y.0)
  acyclic_once new counted (Ok made) (Err fault) x y =
      absurd (done_or_faulty fault (one new (labels_of mods new) done (faulty fault) x.1 y))
  acyclic_once new counted (Err fault) (Ok made) x y =
      absurd (done_or_faulty fault (one new (labels_of mods new) done (faulty fault) y.1 x))
  acyclic_once new counted (Err fault) (Err other) x y =
      ap Err (same_fault fault other (one new (labels_of mods new) (faulty fault) (faulty other) x y))

  pub applied_once : (nodes : List (Node P)) (asked : List (NodeId × Request)) → IsOnce (ApplyMeans mods nodes asked)
  applied_once nodes asked =
      goes_on_once (found_for mods nodes asked) (λ found. CountedMeans mods (linked_nodes nodes (links asked found)))
      (λ found. goes_on_once (edges_counted (linked_nodes nodes (links asked found)))
      (AcyclicMeans mods (linked_nodes nodes (links asked found)))
      (λ counted. acyclic_once (linked_nodes nodes (links asked found)) counted))
