-- What holds of every rule of a form: the variations of a result differ.
use Rattle.std.specs.Prelude.{◌≡◌, ◌≢◌, ◌<◌, ℕ, List, length, None, Result, Ok}
use Rattle.std.specs.List.{AllPairs}
use Rattle.bp_faults.specs.declared.fault.Fault.{Fault}
use Rattle.bp_props.specs.declared.module.Module.{Module}
use Rattle.bp_props.specs.declared.props.Props.{Props}
use Rattle.graph_nodes.specs.declared.graph.Node.{Node}
use Rattle.graph_nodes.specs.declared.variation.Variation.{Variation}
use Rattle.mutator_rules.specs.declared.request.Request.{Request}
use Rattle.mutator_rules.specs.declared.split.Split.{Split}
use Rattle.mutator_rules.specs.Shapes.{AreShaped}
use Rattle.module_rules.specs.Rules.{asks, renews, splits}

-- Of some variants no two have one variation.
abbrev pub VariantsDiffer : List (Variation × Props) → Type 0
VariantsDiffer variants = AllPairs (λ (b c : Variation × Props). b.0 ≢ c.0) variants

-- The variations of each result at a node differ.
abbrev pub VariationsDiffer : (List (Node Props) → ℕ → List (Split Props) → Result (Split Props) Fault)
    → List (Node Props) → Type 0
VariationsDiffer mean nodes =
    (n : ℕ) (ins : List (Split Props)) (made : Split Props)
    → n < length nodes → mean nodes n ins ≡ Ok made → VariantsDiffer made.variants

-- They differ where a rule has no axis, since there is one.
abbrev pub UnsplitResultsDiffer : Type 0
UnsplitResultsDiffer =
    (mean : List (Node Props) → ℕ → List (Split Props) → Result (Split Props) Fault) (nodes : List (Node Props))
    → AreShaped None mean → VariationsDiffer mean nodes

-- So they do where a rule asks.
abbrev pub AskersDoNotSplit : Type 0
AskersDoNotSplit =
    (asked : Module → Node Props → List Request) (mods : List Module) (nodes : List (Node Props))
    → VariationsDiffer (asks asked mods) nodes

-- So they do where a rule makes a new record.
abbrev pub RenewalsDoNotSplit : Type 0
RenewalsDoNotSplit =
    (record_of : Module → Node Props → List (Split Props) → Props) (mods : List Module) (nodes : List (Node Props))
    → VariationsDiffer (renews record_of mods) nodes

-- They differ where a rule splits, and the variants that it makes of any node differ.
abbrev pub SplitResultsDiffer : Type 0
SplitResultsDiffer =
    (variants : Module → Node Props → List (Variation × Props)) (mods : List Module) (nodes : List (Node Props))
    → ((m : Module) (x : Node Props) → VariantsDiffer (variants m x))
    → VariationsDiffer (splits variants mods) nodes
