-- What is printed of a module graph, as variants.
use Rattle.std.specs.Prelude.{ℕ, List, [], ◌∷◌, map}
use Rattle.graph_nodes.specs.declared.graph.Edge.{Edge}
use Rattle.graph_nodes.specs.declared.graph.Node.{Node}
use Rattle.graph_nodes.specs.GraphText.{dashed_name}
use Rattle.graph_nodes.specs.Names.{name_at, variant_name_of}
use Rattle.graph_nodes.specs.Numbered.{by_number}
use Rattle.graph_picture.specs.declared.variant.Arrow.{Arrow}
use Rattle.graph_picture.specs.declared.variant.Variant.{Variant}

-- An edge of a module graph, as one that is drawn.
abbrev pub arrow_for : Edge → Arrow
arrow_for e = record { kind = e.kind; to = e.to.0 }

module _ {P : Type 0} (names : List (List ℕ)) where
  -- Node n of a module graph, as a variant, by the names of the nodes' modules.
  abbrev pub variant_for : ℕ → Node P → Variant
  variant_for n x = record {
    «module» = name_at names n;
    variation = dashed_name (variant_name_of x.vars);
    edges = map arrow_for x.edges;
  }

  -- The nodes of a module graph, as variants.
  abbrev pub variants_for : List (Node P) → List Variant
  variants_for nodes = by_number (λ n x. variant_for n x ∷ []) 0 nodes
