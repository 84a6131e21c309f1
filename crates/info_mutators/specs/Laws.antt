-- What holds of every answer of the rules.
use Rattle.std.specs.Prelude.{◌≡◌, ◌≢◌, ◌<◌, ℕ, true, List, Ok, length}
use Rattle.std.specs.List.{AllByRecursion, AllPairs, list_any}
use Rattle.std.specs.Str.{bytes_eq}
use Rattle.bp_faults.specs.declared.ids.NodeId.{NodeId}
use Rattle.bp_props.specs.declared.module.Module.{Module}
use Rattle.bp_props.specs.declared.props.Props.{Props}
use Rattle.graph_nodes.specs.declared.graph.Node.{Node}
use Rattle.graph_nodes.specs.declared.variation.Variation.{Variation}
use Rattle.graph_nodes.specs.Nodes.{NameNodes}
use Rattle.module_rules.specs.Laws.{VariationsDiffer}
use Rattle.mutator_rules.specs.declared.split.Split.{Split}
use Rattle.info_mutators.specs.Dependencies.{Dependency, record_made}
use Rattle.info_mutators.specs.Info.{info_meant, exports_of, includes_of}
use Rattle.info_mutators.specs.Sanitize.{sanitize_meant}

-- The variations differ of what `info` answers, since there is one.
abbrev pub InfoDoesNotSplit : Type 0
InfoDoesNotSplit = (mods : List Module) (nodes : List (Node Props)) → VariationsDiffer (info_meant mods) nodes

-- The variations that a node has by itself under `sanitize` differ.
abbrev pub OwnVariationsDiffer : Type 0
OwnVariationsDiffer =
    (nodes : List (Node Props)) (n : ℕ) (own : List Variation)
    → n < length nodes → sanitize_meant.split nodes n ≡ Ok own → AllPairs (λ a b. a ≢ b) own

-- The lists of nodes of a record hold nodes below a number.
pub record HoldsNodes (count : ℕ) (props : Props) : Type 0 where
  pub line : AllByRecursion (λ (n : NodeId). n.0 < count) props.line
  pub slibs : AllByRecursion (λ (n : NodeId). n.0 < count) props.slibs

-- Where the records of a node's dependencies hold nodes of the graph, so does its own.
abbrev pub InfoHoldsNodes : Type 0
InfoHoldsNodes =
    (mods : List Module) (nodes : List (Node Props)) (n : ℕ) (ins : List (Split Props)) (made : Split Props)
    → NameNodes nodes
    → AllByRecursion (λ (one : Split Props). HoldsNodes (length nodes) (record_made one)) ins
    → info_meant mods nodes n ins ≡ Ok made → HoldsNodes (length nodes) (record_made made)

-- Each directory that a module exports is one that its sources are compiled with. So what it exports needs no limit.
abbrev pub ExportsAreIncluded : Type 0
ExportsAreIncluded =
    (own : Props) (ds : List Dependency) (path : List ℕ)
    → list_any (bytes_eq path) (exports_of own ds) ≡ true → list_any (bytes_eq path) (includes_of own ds) ≡ true
