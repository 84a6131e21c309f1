-- What holds of every picture: all that is kept stands in it, and stands there once.
use Rattle.std.specs.Prelude.{◌≡◌, ◌≢◌, ◌<◌, ◌^◌, ◌↔◌, ℕ, Bool, List, map, length, Contains, AllPairs, IsPermutation}
use Rattle.std.specs.Prelude.{Option, None}
use Rattle.std.specs.List.{AllByRecursion, flat_map}
use Rattle.std.specs.List.Sorted.{IsStrictlyIncreasing}
use Rattle.graph_nodes.specs.declared.graph.Node.{Node}
use Rattle.graph_nodes.specs.GraphText.{graph_text_of}
use Rattle.graph_nodes.specs.Names.{name_at}
use Rattle.graph_nodes.specs.Nodes.{NameNodes}
use Rattle.graph_picture.specs.declared.clusters.Cluster.{Cluster}
use Rattle.graph_picture.specs.declared.focus.Focus.{Focus}
use Rattle.graph_picture.specs.declared.variant.Variant.{Variant}
use Rattle.graph_picture.specs.Drawing.{module_name_at, numbers_in, arrows_of, shown_clusters, shown_arrows}
use Rattle.graph_picture.specs.Lines.{IsGraph, IsPrintedWord, variants_text}
use Rattle.graph_picture.specs.Printed.{variants_for}
use Rattle.graph_picture.specs.Reach.{IsKept, AreMarks}

-- These are the numbers with a property, each once: the numbers with it that rise, in some order.
pub record AreOnce (P : ℕ → Type 0) (numbers : List ℕ) : Type 0 where
  pub rising : List ℕ
  pub rise : IsStrictlyIncreasing rising
  pub exact : (n : ℕ) → Contains rising n ↔ P n
  pub same : IsPermutation rising numbers

-- Each variant that is kept stands in the clusters once, and no other stands there.
abbrev pub EachVariantStandsOnce : Type 0
EachVariantStandsOnce =
    (variants : List Variant) (focus : Option Focus) (marks : List Bool) → AreMarks variants focus marks
    → AreOnce (λ n. (n < length variants) × IsKept variants focus n)
    (flat_map numbers_in (shown_clusters variants marks))

-- The variants of a cluster are of one module.
abbrev pub HasOneModule : List Variant → Cluster → Type 0
HasOneModule variants c = AllByRecursion (λ n. module_name_at variants n ≡ module_name_at variants c.first) c.others

-- Two clusters are of different modules.
abbrev pub Differ : List Variant → Cluster → Cluster → Type 0
Differ variants c d = module_name_at variants c.first ≢ module_name_at variants d.first

-- A cluster shows variants of one module, and no two clusters show the same module.
abbrev pub EachModuleHasOneCluster : Type 0
EachModuleHasOneCluster =
    (variants : List Variant) (marks : List Bool)
    → AllByRecursion (HasOneModule variants) (shown_clusters variants marks)
    × AllPairs (Differ variants) (shown_clusters variants marks)

-- The edges of a graph are those of its variants, in order, and the picture of a whole graph shows them all.
abbrev pub EachEdgeIsShownOnce : Type 0
EachEdgeIsShownOnce =
    (variants : List Variant) (marks : List Bool) → IsGraph variants → AreMarks variants None marks
    → (map (λ a. a.1) (arrows_of variants) ≡ flat_map (λ (v : Variant). v.edges) variants)
    × (shown_arrows variants marks ≡ arrows_of variants)

-- A text is the text of at most one graph.
abbrev pub OneReading : Type 0
OneReading =
    (variants other : List Variant) → IsGraph variants → IsGraph other → variants_text variants ≡ variants_text other
    → variants ≡ other

-- Where the names of the nodes' modules are words, what is printed of a module graph is the text of its nodes as
-- variants, and these are a graph.
abbrev pub PrintedGraphsAreGraphs : Type 0 → Type 0
PrintedGraphsAreGraphs P =
    (nodes : List (Node P)) (names : List (List ℕ)) → NameNodes nodes → length nodes < 2 ^ 32
    → ((n : ℕ) → n < length nodes → IsPrintedWord (name_at names n))
    → IsGraph (variants_for names nodes) × (graph_text_of nodes names ≡ variants_text (variants_for names nodes))
