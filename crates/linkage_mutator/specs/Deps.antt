-- Which modules a node depends on.
use Rattle.std.specs.Prelude.{◌++◌, List, map, filter}
use Rattle.bp_faults.specs.declared.place.Item.{Item}
use Rattle.bp_props.specs.declared.kind.ModuleKind.{ModuleKind}
use Rattle.bp_props.specs.declared.kind.ModuleKind.TheVariants.{Filegroup}
use Rattle.bp_props.specs.declared.module.Module.{Module}
use Rattle.bp_props.specs.declared.props.Props.{Props}
use Rattle.bp_props.specs.declared.source.Source.{Source}
use Rattle.bp_props.specs.Meaning.{names_module}
use Rattle.graph_nodes.specs.declared.graph.EdgeKind.TheVariants.{Whole, Static, Shared, Header, DataBin, Sources}
use Rattle.graph_nodes.specs.declared.graph.Node.{Node}
use Rattle.graph_nodes.specs.declared.variation.Variation.{Variation}
use Rattle.graph_nodes.specs.declared.variation.Variation.TheVariants.{Empty, Static as OfStatic, Shared as OfShared}
use Rattle.mutator_rules.specs.declared.request.Request.{Request}
use Rattle.module_rules.specs.Asking.{requests, common}
use Rattle.linkage_mutator.specs.Wanting.{own_with}

-- The items of some sources that name modules.
abbrev pub named_items : List Source → List Item
named_items sources = map (λ (s : Source). s.item) (filter names_module sources)

-- A node asks for the libraries and binaries of its own target and image, kind by kind.
abbrev pub libraries_asked : List Variation → Props → List Request
libraries_asked vars p =
    requests Whole (own_with vars OfStatic) p.base.whole_static_libs.items
    ++ requests Static (own_with vars OfStatic) p.base.static_libs.items
    ++ requests Shared (own_with vars OfShared) p.base.shared_libs.items
    ++ requests Header (own_with vars Empty) p.base.header_libs.items
    ++ requests DataBin (own_with vars Empty) p.data_bins.items

-- It asks for the modules that its sources name.
abbrev pub sources_asked : Props → List Request
sources_asked p = requests Sources common (named_items p.base.srcs.items)

-- A `filegroup` asks for these alone.
abbrev pub deps_of : ModuleKind → List Variation → Props → List Request
deps_of Filegroup vars p = sources_asked p
deps_of kind vars p = libraries_asked vars p ++ sources_asked p

-- What a node asks for, by its module's kind.
abbrev pub deps_asked : Module → Node Props → List Request
deps_asked m x = deps_of m.kind x.vars x.payload
