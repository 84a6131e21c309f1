-- The files of a node: those that it names itself, and those of the file groups that it asks.
use Rattle.std.specs.Prelude.{ℕ, Bool, true, false, List, [], ◌∷◌, ◌++◌, ◌&&◌, ◌||◌, not, drop, if◌then◌else◌}
use Rattle.std.specs.Prelude.{slice_get, slice_index_or}
use Rattle.std.specs.Option.{option_map_or}
use Rattle.std.specs.Str.{bytes_eq}
use Rattle.bp_faults.specs.declared.place.Item.{Item}
use Rattle.graph_nodes.specs.Axes.{axis_index}
use Rattle.graph_nodes.specs.declared.variations.Axis.TheVariants as A
use Rattle.graph_nodes.specs.declared.graph.Edge.{Edge}
use Rattle.graph_nodes.specs.declared.graph.EdgeKind.{EdgeKind}
use Rattle.graph_nodes.specs.declared.graph.EdgeKind.TheVariants as E
use Rattle.graph_nodes.specs.declared.graph.Node.{Node}
use Rattle.graph_nodes.specs.declared.variation.Variation.{Variation}
use Rattle.graph_nodes.specs.declared.variation.Variation.TheVariants as V
use Rattle.bp_props.specs.declared.module.Module.{Module}
use Rattle.bp_props.specs.declared.props.Props.{Props}
use Rattle.bp_props.specs.declared.source.Source.{Source}
use Rattle.bp_props.specs.Meaning.{names_module}
use Rattle.build_actions.specs.declared.actions.Actions.{Actions}

-- What was made at the targets of the wanted edges, in edge order.
abbrev pub results_of : (Edge → Bool) → List Edge → List Actions → List Actions
results_of wanted [] ins = []
results_of wanted (e ∷ es) [] = []
results_of wanted (e ∷ es) (made ∷ ins) = if wanted e then made ∷ results_of wanted es ins else results_of wanted es ins

-- An edge leads to sources.
abbrev pub is_sources : EdgeKind → Bool
is_sources E.Sources = true
is_sources kind = false

-- A variation is that of one source.
abbrev pub is_of_one_source : Variation → Bool
is_of_one_source (V.PerSource k) = true
is_of_one_source variation = false

-- A node is the variant of one source.
abbrev pub has_one_source : Node Props → Bool
has_one_source x = is_of_one_source (slice_index_or x.vars (axis_index A.PerSource) V.Empty)

module _ (ms : List Module) (nodes : List (Node Props)) where
  -- Node n is of a module of that name.
  abbrev pub is_of_module : ℕ → List ℕ → Bool
  is_of_module n name =
      option_map_or
      (λ (x : Node Props). option_map_or (λ (m : Module). bytes_eq m.name name) (slice_get ms x.module.0) false)
      (slice_get nodes n) false

  -- Node n is of the module that the first source of x asks for.
  abbrev pub is_kept : Node Props → ℕ → Bool
  is_kept x n = option_map_or (λ (s : Source). is_of_module n s.item.text) (slice_get x.payload.base.srcs.items 0) false

  -- An edge leads to files of the node. A variant of one source has the edges of all its module's sources, of which
  -- those count that lead to what its own source asks for.
  abbrev pub leads_to_files : Node Props → Edge → Bool
  leads_to_files x e = is_sources e.kind && (not (has_one_source x) || is_kept x e.to.0)

-- The files of the first file group that is left.
abbrev pub first_files : List Actions → List Item
first_files [] = []
first_files (made ∷ given) = made.files

-- A source that is a path is a file. One that asks a file group gets the files of the first that is left.
abbrev pub source_files : Source → List Actions → List Item
source_files s given = if names_module s then first_files given else s.item ∷ []

-- The file groups that are left for the sources behind.
abbrev pub groups_behind : Source → List Actions → List Actions
groups_behind s given = if names_module s then drop 1 given else given

-- A path is a file. The k-th source that asks a file group gets the files of the k-th one.
abbrev pub files_over : List Source → List Actions → List Item
files_over [] given = []
files_over (s ∷ ss) given = source_files s given ++ files_over ss (groups_behind s given)

-- The files of a node, given what was made at its edges' targets.
abbrev pub files_of : List Module → List (Node Props) → Node Props → List Actions → List Item
files_of ms nodes x ins = files_over x.payload.base.srcs.items (results_of (leads_to_files ms nodes x) x.edges ins)
