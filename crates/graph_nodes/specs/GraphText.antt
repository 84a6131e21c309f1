-- The graph text: a graph as lines, for reading.
use Rattle.std.specs.Prelude.{ℕ, List, [], ◌∷◌, ◌++◌, map, codes}
use Rattle.std.specs.List.{flat_map}
use Rattle.std.specs.Fmt.{decimal}
use Rattle.graph_nodes.specs.declared.graph.Edge.{Edge}
use Rattle.graph_nodes.specs.declared.graph.EdgeKind.{EdgeKind}
use Rattle.graph_nodes.specs.declared.graph.EdgeKind.TheVariants.{Defaults, Whole, Static, Shared, Header, DataBin}
use Rattle.graph_nodes.specs.declared.graph.EdgeKind.TheVariants.{Sources}
use Rattle.graph_nodes.specs.declared.graph.Node.{Node}
use Rattle.graph_nodes.specs.declared.variation.Variation.{Variation}
use Rattle.graph_nodes.specs.Names.{name_at, variant_name_of}
use Rattle.graph_nodes.specs.Numbered.{by_number}
use Rattle.bp_faults.specs.Characters.{ended_line}

-- How the kind of an edge is spelled.
abbrev pub kind_word : EdgeKind → List ℕ
kind_word Defaults = codes "defaults"
kind_word Whole = codes "whole"
kind_word Static = codes "static"
kind_word Shared = codes "shared"
kind_word Header = codes "header"
kind_word DataBin = codes "data"
kind_word Sources = codes "sources"

-- A dash stands for an empty name.
abbrev pub dashed_name : List ℕ → List ℕ
dashed_name [] = codes "-"
dashed_name (c ∷ name) = c ∷ name

-- The line of a node: its number, the module's name and the variant's name, with one space between.
abbrev pub node_line : ℕ → List ℕ → List Variation → List ℕ
node_line n name vars = decimal n ++ (codes " " ++ (name ++ (codes " " ++ dashed_name (variant_name_of vars))))

-- The line of an edge: two spaces, the kind, one space and the target's number.
abbrev pub edge_line : Edge → List ℕ
edge_line e = codes "  " ++ (kind_word e.kind ++ (codes " " ++ decimal e.to.0))

module _ {P : Type 0} where
  -- The lines of node n: its own, and one for each of its edges, in order.
  abbrev pub node_lines : List (List ℕ) → ℕ → Node P → List (List ℕ)
  node_lines names n x = node_line n (name_at names n) x.vars ∷ map edge_line x.edges

  -- The text: the lines of each node in order, by the names of the nodes' modules.
  abbrev pub graph_text_of : List (Node P) → List (List ℕ) → List ℕ
  graph_text_of nodes names = flat_map ended_line (by_number (node_lines names) 0 nodes)
