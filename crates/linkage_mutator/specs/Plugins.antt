-- Which modules a node is a plugin of.
use Rattle.std.specs.Prelude.{Bool, true, false, ℕ, List, [], map, cond, Option, Some, ⊤, None}
use Rattle.std.specs.Option.{option_map}
use Rattle.std.specs.List.{find}
use Rattle.std.specs.Str.{bytes_eq}
use Rattle.bp_faults.specs.declared.place.Item.{Item}
use Rattle.bp_names.specs.Meaning.{NumbersFirst}
use Rattle.bp_props.specs.declared.kind.ModuleKind.{ModuleKind}
use Rattle.bp_props.specs.declared.kind.ModuleKind.TheVariants.{Binary, Test}
use Rattle.bp_props.specs.declared.module.Module.{Module}
use Rattle.bp_props.specs.declared.props.Props.{Props}
use Rattle.graph_nodes.specs.declared.graph.EdgeKind.TheVariants.{Shared}
use Rattle.graph_nodes.specs.declared.graph.Node.{Node}
use Rattle.graph_nodes.specs.declared.variation.Variation.{Variation}
use Rattle.graph_nodes.specs.declared.variation.Variation.TheVariants.{Empty, Shared as OfShared}
use Rattle.graph_nodes.specs.declared.variations.Axis.TheVariants.{Link}
use Rattle.mutator_rules.specs.declared.request.Request.{Request}
use Rattle.module_rules.specs.Asking.{request, variation_on}
use Rattle.linkage_mutator.specs.Wanting.{own_with}

-- The kind of the first module of a name.
abbrev pub kind_named : List Module → List ℕ → Option ModuleKind
kind_named mods name = option_map (λ (m : Module). m.kind) (find (λ (m : Module). bytes_eq name m.name) mods)

-- A binary or a test has no link, and what takes a plugin in else is shared.
abbrev pub link_of_host : Option ModuleKind → Variation
link_of_host (Some Binary) = Empty
link_of_host (Some Test) = Empty
link_of_host kind = OfShared

-- A request in reverse: the module that is named gets the edge.
abbrev pub in_reverse : Request → Request
in_reverse r = record r { reverse = true }

-- A plugin asks, in reverse, for the variant of the named module that takes it in.
abbrev pub plugin_request : List Module → List Variation → Item → Request
plugin_request mods vars item =
    in_reverse (request Shared (own_with vars (link_of_host (kind_named mods item.text))) item)

-- A variation is that of what is linked shared.
abbrev pub is_shared : Variation → Bool
is_shared OfShared = true
is_shared link = false

-- A node that is linked shared asks, in reverse, for each module that its `plugin_of` names.
abbrev pub plugins_asked : List Module → Module → Node Props → List Request
plugins_asked mods m x =
    cond (is_shared (variation_on Link x.vars)) (map (plugin_request mods x.vars) x.payload.plugin_of.items) []

-- A table has the number of the first module of each name.
abbrev pub IsNameTable : List Module → List (List ℕ × ℕ) → Type 0
IsNameTable mods table = NumbersFirst (map (λ (m : Module). m.name) mods) table

-- A table is such a one, if it is there.
abbrev pub IsNameTableIfSome : List Module → Option (List (List ℕ × ℕ)) → Type 0
IsNameTableIfSome mods None = ⊤
IsNameTableIfSome mods (Some table) = IsNameTable mods table
