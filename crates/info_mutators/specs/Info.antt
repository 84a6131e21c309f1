-- `info`: what a module takes over from its dependencies. Edges are taken in order.
use Rattle.std.specs.Prelude.{ℕ, Bool, true, false, ◌&&◌, nat_eq, map, List, [], ◌∷◌, ◌++◌, if◌then◌else◌, Option, Some}
use Rattle.std.specs.Prelude.{None, Result, Ok, Err}
use Rattle.std.specs.List.{flat_map}
use Rattle.std.specs.Str.{bytes_eq}
use Rattle.bp_faults.specs.declared.fault.Fault.{Fault}
use Rattle.bp_faults.specs.declared.ids.NodeId.{NodeId}
use Rattle.bp_faults.specs.declared.kind.FaultKind.TheVariants.{LinkTooLong}
use Rattle.bp_faults.specs.declared.place.Item.{Item}
use Rattle.bp_faults.specs.Faults.{fault_on}
use Rattle.bp_names.specs.Meaning.{knows}
use Rattle.bp_props.specs.declared.module.Module.{Module}
use Rattle.bp_props.specs.declared.props.Props.{Props}
use Rattle.graph_nodes.specs.declared.graph.EdgeKind.{EdgeKind}
use Rattle.graph_nodes.specs.declared.graph.EdgeKind.TheVariants.{Whole, Static, Shared, Header}
use Rattle.graph_nodes.specs.declared.graph.Node.{Node}
use Rattle.graph_nodes.specs.declared.variation.Variation.{Variation}
use Rattle.graph_nodes.specs.Names.{label_of}
use Rattle.module_rules.specs.Results.{one_variant}
use Rattle.module_rules.specs.Seen.{at_node}
use Rattle.mutator_rules.specs.declared.split.Split.{Split}
use Rattle.info_mutators.specs.Dependencies.{Dependency, dependencies_of, is_archived, is_linked_against}
use Rattle.info_mutators.specs.Kept.{first_of_each, last_of_each, is_short}

-- Nodes are the same where their numbers are.
abbrev pub is_same_node : NodeId → NodeId → Bool
is_same_node a b = nat_eq a.0 b.0

-- The names in a list of modules.
abbrev pub item_names : List Item → List (List ℕ)
item_names items = map (λ (item : Item). item.text) items

-- A module hands on what a dependency exports if it is a part of the module, or if its name stands in the export list
-- of its kind.
abbrev pub is_handed_on : Props → EdgeKind → List ℕ → Bool
is_handed_on own Whole name = true
is_handed_on own Static name = knows (item_names own.base.export_static_lib_headers.items) name
is_handed_on own Shared name = knows (item_names own.base.export_shared_lib_headers.items) name
is_handed_on own Header name = knows (item_names own.base.export_header_lib_headers.items) name
is_handed_on own kind name = false

-- A dependency adds these directories to those that a module exports.
abbrev pub export_part : Props → Dependency → List (List ℕ)
export_part own d = if is_handed_on own d.kind d.name then d.props.exports else []

-- A module exports its own directories, and then those that it hands on.
abbrev pub exports_of : Props → List Dependency → List (List ℕ)
exports_of own ds = first_of_each bytes_eq (own.base.export_include_dirs.items ++ flat_map (export_part own) ds)

-- Of its own it includes the local directories, those that it exports, and the others.
abbrev pub own_includes : Props → List (List ℕ)
own_includes own =
    own.base.local_include_dirs.items ++ (own.base.export_include_dirs.items ++ own.base.include_dirs.items)

-- A dependency adds these directories to those that a module includes.
abbrev pub include_part : Dependency → List (List ℕ)
include_part d = if is_linked_against d.kind then d.props.exports else []

-- The directories that a module's sources are compiled with: its own, and then what its libraries export.
abbrev pub includes_of : Props → List Dependency → List (List ℕ)
includes_of own ds = first_of_each bytes_eq (own_includes own ++ flat_map include_part ds)

-- A dependency adds these nodes to the link line. A Whole one is a part of the library itself.
abbrev pub line_part : NodeId → Props → EdgeKind → List NodeId
line_part node props Whole = props.line
line_part node props Static = node ∷ props.line
line_part node props kind = []

-- The static libraries that a module is linked with. A library stands behind all that need it.
abbrev pub link_line_of : List Dependency → List NodeId
link_line_of ds = last_of_each is_same_node (flat_map (λ d. line_part d.node d.props d.kind) ds)

-- A dependency may be a shared library.
abbrev pub shared_part : NodeId → EdgeKind → List NodeId
shared_part node Shared = node ∷ []
shared_part node kind = []

-- What is put into a module may need shared libraries.
abbrev pub needed_part : Dependency → List NodeId
needed_part d = if is_archived d.kind then d.props.slibs else []

-- The shared libraries that a module is linked with: its own, and then what its static libraries need.
abbrev pub slibs_of : List Dependency → List NodeId
slibs_of ds =
    first_of_each is_same_node (flat_map (λ d. shared_part d.node d.kind) ds ++ flat_map needed_part ds)

-- A record with the four lists.
abbrev pub with_lists : Props → List Dependency → Props
with_lists own ds = record own {
  exports = exports_of own ds;
  includes = includes_of own ds;
  line = link_line_of ds;
  slibs = slibs_of ds;
}

-- The lists that have a limit keep it.
abbrev pub has_short_lists : Props → List Dependency → Bool
has_short_lists own ds = is_short (includes_of own ds) && (is_short (link_line_of ds) && is_short (slibs_of ds))

-- A record with the four lists, where they keep their limits.
abbrev pub with_short_lists : Props → List Dependency → Option Props
with_short_lists own ds = if has_short_lists own ds then Some (with_lists own ds) else None

-- A list that is too long is a fault at the module, with the label of the node.
abbrev pub too_long : Module → List Variation → Fault
too_long m vars = fault_on LinkTooLong m.at (label_of m.name vars)

-- A node's record gets the four lists, or one of them is too long.
abbrev pub info_over : Module → Node Props → List Dependency → Result (Split Props) Fault
info_over m x ds =
    if has_short_lists x.payload ds then Ok (one_variant (with_lists x.payload ds) []) else Err (too_long m x.vars)

-- What a visit of node n answers, given the results of its edges' targets.
abbrev pub info_meant : List Module → List (Node Props) → ℕ → List (Split Props) → Result (Split Props) Fault
info_meant mods nodes = at_node (λ m x ins. info_over m x (dependencies_of mods nodes x.edges ins)) mods nodes
