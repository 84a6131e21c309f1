-- Where the outputs of nodes stand, and which nodes have one.
use Rattle.std.specs.Prelude.{ℕ, List, [], ◌++◌, Option, Some, None, codes, slice_get, slice_index_or}
use Rattle.std.specs.Option.{option_map_or}
use Rattle.graph_nodes.specs.Axes.{axis_index}
use Rattle.graph_nodes.specs.declared.variations.Axis.TheVariants.{Link}
use Rattle.graph_nodes.specs.declared.graph.Node.{Node}
use Rattle.graph_nodes.specs.declared.variation.Variation.{Variation}
use Rattle.graph_nodes.specs.declared.variation.Variation.TheVariants.{Empty, Static, Shared}
use Rattle.graph_nodes.specs.Names.{variant_name_of}
use Rattle.bp_props.specs.declared.module.Module.{Module}
use Rattle.bp_props.specs.declared.kind.ModuleKind.{ModuleKind}
use Rattle.bp_props.specs.declared.kind.ModuleKind.TheVariants.{LibraryHeaders, Defaults, Filegroup}
use Rattle.bp_props.specs.declared.props.Props.{Props}
use Rattle.build_parts.specs.declared.path.Role.{Role}
use Rattle.build_parts.specs.declared.path.Role.TheVariants.{Makes, Gives, Neither}
use Rattle.build_parts.specs.declared.path.Product.{Product}
use Rattle.build_parts.specs.declared.path.Product.TheVariants.{Archive, SharedObject, Program}

-- A file group gives files. Headers alone, and defaults, make nothing and give nothing.
abbrev pub role_of : ModuleKind → Role
role_of Filegroup = Gives
role_of LibraryHeaders = Neither
role_of Defaults = Neither
role_of kind = Makes

-- The link variation of a node.
abbrev pub link_variation : Node Props → Variation
link_variation x = slice_index_or x.vars (axis_index Link) Empty

-- What is made, by the link variation: a node that is neither static nor shared makes a program.
abbrev pub product_of : Variation → Product
product_of Static = Archive
product_of Shared = SharedObject
product_of link = Program

-- The end of the name of what is made.
abbrev pub product_suffix : Product → List ℕ
product_suffix Archive = codes ".a"
product_suffix SharedObject = codes ".so"
product_suffix Program = []

-- The directory of the outputs of a node: `out/m/NAME/VARIANT`.
abbrev pub output_directory : Module → Node Props → List ℕ
output_directory m x = codes "out/m/" ++ (m.name ++ (codes "/" ++ variant_name_of x.vars))

-- An object is below the directory of the outputs, at the path of its source.
abbrev pub object_path : List ℕ → List ℕ → List ℕ
object_path directory source = directory ++ (codes "/obj/" ++ (source ++ codes ".o"))

-- What a node makes is below the directory of its outputs, by the name of its module.
abbrev pub output_in : List ℕ → Module → Node Props → List ℕ
output_in directory m x = directory ++ (codes "/bin/" ++ (m.name ++ product_suffix (product_of (link_variation x))))

-- What a node makes: an archive, a shared object or a program.
abbrev pub output_path : Module → Node Props → List ℕ
output_path m x = output_in (output_directory m x) m x

-- A path is an output where the role is to make something.
abbrev pub output_by : Role → List ℕ → Option (List ℕ)
output_by Makes path = Some path
output_by role path = None

-- The output of a node, where it makes something.
abbrev pub output_of : Module → Node Props → Option (List ℕ)
output_of m x = output_by (role_of m.kind) (output_path m x)

-- The output of node n. It is had from the node alone, and no result of a visit is needed for it.
abbrev pub output_at : List Module → List (Node Props) → ℕ → Option (List ℕ)
output_at ms nodes n =
    option_map_or (λ (x : Node Props). option_map_or (λ m. output_of m x) (slice_get ms x.module.0) None)
    (slice_get nodes n) None
