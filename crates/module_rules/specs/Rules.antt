-- The forms of rules from the bottom up, each by what it makes of a node: requests, a record, or variants.
use Rattle.std.specs.Prelude.{ℕ, List, [], Result, Ok}
use Rattle.bp_faults.specs.declared.fault.Fault.{Fault}
use Rattle.bp_props.specs.declared.module.Module.{Module}
use Rattle.bp_props.specs.declared.props.Props.{Props}
use Rattle.graph_nodes.specs.declared.graph.Node.{Node}
use Rattle.graph_nodes.specs.declared.variation.Variation.{Variation}
use Rattle.mutator_rules.specs.declared.request.Request.{Request}
use Rattle.mutator_rules.specs.declared.split.Split.{Split}
use Rattle.module_rules.specs.Results.{one_variant}
use Rattle.module_rules.specs.Seen.{at_node}

-- What a rule answers over some modules at any node of any graph.
abbrev pub Rule : Type 0
Rule = List Module → List (Node Props) → ℕ → List (Split Props) → Result (Split Props) Fault

-- A rule that asks: the record stays.
abbrev pub asks : (Module → Node Props → List Request) → Rule
asks asked = at_node (λ m x ins. Ok (one_variant x.payload (asked m x)))

-- A rule that makes a new record of a node's own and of its targets' results.
abbrev pub renews : (Module → Node Props → List (Split Props) → Props) → Rule
renews made = at_node (λ m x ins. Ok (one_variant (made m x ins) []))

-- A rule that splits.
abbrev pub splits : (Module → Node Props → List (Variation × Props)) → Rule
splits variants = at_node (λ m x ins. Ok (record { variants = variants m x; requests = [] }))
