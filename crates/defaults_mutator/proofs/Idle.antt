-- Nodes that the two rules leave as they are.
use Rattle.std.proofs.Common.{◌≡◌, ap, length, true, List, [], ◌∷◌, Result, Ok}
use Rattle.std.specs.List.{AllByRecursion, list_all}
use Rattle.std.proofs.lemmas.Bool.{and_parts, eqb-true}
use Rattle.std.proofs.lemmas.List.{nil_from_length}
use Rattle.bp_faults.specs.declared.fault.Fault.{Fault}
use Rattle.bp_faults.specs.declared.place.Item.{Item}
use Rattle.bp_props.specs.declared.props.Props.{Props}
use Rattle.graph_nodes.specs.declared.graph.Edge.{Edge}
use Rattle.graph_nodes.specs.declared.graph.EdgeKind.TheVariants.{Defaults}
use Rattle.graph_nodes.specs.declared.graph.Node.{Node}
use Rattle.mutator_rules.specs.declared.split.Split.{Split}
use Rattle.module_rules.specs.Asking.{requests, no_variations}
use Rattle.module_rules.specs.Idle.{LeavesNode}
use Rattle.module_rules.specs.Results.{one_variant}
use Rattle.defaults_mutator.specs.Asked.{defaults_asked}
use Rattle.defaults_mutator.specs.Idle.{has_no_edges, names_no_defaults}
use Rattle.defaults_mutator.specs.Merged.{defaults_given, defaults_merged, over_defaults, records_followed}

abbrev answered : Split Props → Result (Split Props) Fault
answered made = Ok made

pub leave_asked : (nodes : List (Node Props)) → list_all names_no_defaults nodes ≡ true
    → AllByRecursion (LeavesNode (λ m x ins. Ok (one_variant x.payload (defaults_asked m x)))) nodes
leave_asked [] is = tt
leave_asked (x ∷ nodes) is =
    let parts = and_parts (names_no_defaults x) (list_all names_no_defaults nodes) is in
    let none = nil_from_length x.payload.defaults.items (eqb-true (length x.payload.defaults.items) 0 parts.0) in (
      λ m ins.
          ap (λ (items : List Item). answered (one_variant x.payload (requests Defaults no_variations items))) none,
      leave_asked nodes parts.1,
    )

pub leave_merged : (nodes : List (Node Props)) → list_all has_no_edges nodes ≡ true
    → AllByRecursion (LeavesNode (λ m x ins. Ok (one_variant (defaults_merged m x ins) []))) nodes
leave_merged [] is = tt
leave_merged (x ∷ nodes) is =
    let parts = and_parts (has_no_edges x) (list_all has_no_edges nodes) is in
    let none = nil_from_length x.edges (eqb-true (length x.edges) 0 parts.0) in (
      λ m ins. ap (λ (edges : List Edge). answered (one_variant
          (over_defaults m.kind x.payload (records_followed (defaults_given edges ins))) [])) none,
      leave_merged nodes parts.1,
    )
