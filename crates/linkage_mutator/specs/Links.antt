-- How a module is linked.
use Rattle.std.specs.Prelude.{Bool, true, false, ◌++◌, List, [], ◌∷◌, map, cond}
use Rattle.bp_props.specs.declared.group_id.GroupId.TheVariants as G
use Rattle.bp_props.specs.declared.kind.ModuleKind.{ModuleKind}
use Rattle.bp_props.specs.declared.kind.ModuleKind.TheVariants.{Library, LibraryStatic, LibraryShared}
use Rattle.bp_props.specs.declared.module.Module.{Module}
use Rattle.bp_props.specs.declared.props.Props.{Props}
use Rattle.graph_nodes.specs.declared.graph.Node.{Node}
use Rattle.graph_nodes.specs.declared.variation.Variation.{Variation}
use Rattle.graph_nodes.specs.declared.variation.Variation.TheVariants.{Empty, Static, Shared}
use Rattle.module_rules.specs.Found.{with_pic}
use Rattle.module_rules.specs.Groups.{with_group}
use Rattle.module_rules.specs.Variants.{if_enabled}

-- A `cc_library` is linked static and shared. Each of the two has the group of its name appended, and is dropped where
-- it isn't enabled then. The others are linked as their kind says.
abbrev pub links_of : ModuleKind → Props → List (Variation × Props)
links_of Library p = if_enabled Static (with_group p G.Static) ++ if_enabled Shared (with_group p G.Shared)
links_of LibraryStatic p = (Static, p) ∷ []
links_of LibraryShared p = (Shared, p) ∷ []
links_of kind p = (Empty, p) ∷ []

-- What is linked static or shared has a link.
abbrev pub has_link : Variation → Bool
has_link Static = true
has_link Shared = true
has_link variation = false

-- A variant with a link gets the flag.
abbrev pub pic_if_linked : Variation × Props → Variation × Props
pic_if_linked variant = (variant.0, cond (has_link variant.0) (with_pic variant.1) variant.1)

-- The variants of a node by link: first they are made, and then those with a link get the flag.
abbrev pub link_variants : Module → Node Props → List (Variation × Props)
link_variants m x = map pic_if_linked (links_of m.kind x.payload)
