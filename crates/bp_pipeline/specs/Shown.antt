-- A graph as text.
use Rattle.std.specs.Prelude.{ℕ, List, map}
use Rattle.bp_props.specs.declared.module.Module.{Module}
use Rattle.graph_nodes.specs.declared.graph.Node.{Node}
use Rattle.graph_nodes.specs.GraphText.{graph_text_of}
use Rattle.reverse_deps.specs.Applied.{name_of}

module _ {P : Type 0} (mods : List Module) where
  -- The name of each node's module.
  abbrev pub module_names : List (Node P) → List (List ℕ)
  module_names nodes = map (λ (x : Node P). name_of mods x.«module».0) nodes

  -- The graph text by the names of the modules.
  abbrev pub shown_graph : List (Node P) → List ℕ
  shown_graph nodes = graph_text_of nodes (module_names nodes)
