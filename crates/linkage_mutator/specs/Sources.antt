-- A test that is built for each of its sources.
use Rattle.std.specs.Prelude.{Bool, true, false, ◌∷◌, ℕ, List, [], Option}
use Rattle.bp_props.specs.declared.given.Given.{Given}
use Rattle.bp_props.specs.declared.kind.ModuleKind.{ModuleKind}
use Rattle.bp_props.specs.declared.kind.ModuleKind.TheVariants.{Test}
use Rattle.bp_props.specs.declared.module.Module.{Module}
use Rattle.bp_props.specs.declared.props.Props.{Props}
use Rattle.bp_props.specs.declared.source.Source.{Source}
use Rattle.graph_nodes.specs.declared.graph.Node.{Node}
use Rattle.graph_nodes.specs.declared.variation.Variation.{Variation}
use Rattle.graph_nodes.specs.declared.variation.Variation.TheVariants.{Empty, PerSource}
use Rattle.graph_nodes.specs.Numbered.{by_number}
use Rattle.module_rules.specs.Flags.{is_true_or}

-- A record with other sources. The list's place stays.
abbrev pub with_sources : Props → List Source → Props
with_sources p sources = record p { base = record p.base { srcs = record p.base.srcs { items = sources } } }

-- The variant of source k, counted from 1: it has that source alone.
abbrev pub variant_of_source : Props → ℕ → Source → List (Variation × Props)
variant_of_source p k s = (PerSource k, with_sources p (s ∷ [])) ∷ []

-- A record that is split has one variant a source, where there are sources. Else it has one in all.
abbrev pub each_source : Bool → Props → List Source → List (Variation × Props)
each_source true p (s ∷ sources) = by_number (variant_of_source p) 1 (s ∷ sources)
each_source split p sources = (Empty, p) ∷ []

-- A test is split where its `test_per_src` is true, and no other module is.
abbrev pub is_split : ModuleKind → Option (Given Bool) → Bool
is_split Test flag = is_true_or false flag
is_split kind flag = false

-- The variants of a node by source.
abbrev pub source_variants : Module → Node Props → List (Variation × Props)
source_variants m x = each_source (is_split m.kind x.payload.test_per_src) x.payload x.payload.base.srcs.items
