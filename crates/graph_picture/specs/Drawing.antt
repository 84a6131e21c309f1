-- The text of a picture for Graphviz (the DOT language).
use Rattle.std.specs.Prelude.{◌==◌, ◌&&◌, ℕ, Bool, List, [], ◌∷◌, ◌++◌, map, codes, Option, Some, None, if◌then◌else◌}
use Rattle.std.specs.Prelude.{slice_get}
use Rattle.std.specs.Fmt.{decimal}
use Rattle.std.specs.List.{filter, flat_map}
use Rattle.std.specs.Str.{bytes_eq}
use Rattle.graph_nodes.specs.declared.graph.EdgeKind.{EdgeKind}
use Rattle.graph_nodes.specs.declared.graph.EdgeKind.TheVariants.{Defaults, Whole, Static, Shared, Header, DataBin}
use Rattle.graph_nodes.specs.declared.graph.EdgeKind.TheVariants.{Sources}
use Rattle.graph_nodes.specs.GraphText.{kind_word}
use Rattle.graph_nodes.specs.Numbered.{by_number}
use Rattle.graph_picture.specs.declared.clusters.Cluster.{Cluster}
use Rattle.graph_picture.specs.declared.style.TheConstants.{HEAD, FRAME, LEGEND}
use Rattle.graph_picture.specs.declared.variant.Arrow.{Arrow}
use Rattle.graph_picture.specs.declared.variant.Variant.{Variant}
use Rattle.graph_picture.specs.Reach.{mark_at}

-- In a quoted name a backslash stands before `"` and `\`, and `&` is written `&amp;`.
abbrev pub escaped_byte_text : ℕ → List ℕ
escaped_byte_text b =
    if b == 34 then codes "\\\"" else (if b == 92 then codes "\\\\" else (if b == 38 then codes "&amp;" else b ∷ []))

-- A name between quotes.
unfoldable pub name_in_quotes : List ℕ → List ℕ
name_in_quotes name = codes "\"" ++ (flat_map escaped_byte_text name ++ codes "\"")

-- The name of a variant's module, and the empty one beyond the variants.
abbrev pub variant_module : Option Variant → List ℕ
variant_module (Some v) = v.module
variant_module None = []

-- A variant's own name, and the empty one beyond the variants.
abbrev pub variation_of : Option Variant → List ℕ
variation_of (Some v) = v.variation
variation_of None = []

-- The name of the module of variant n.
abbrev pub module_name_at : List Variant → ℕ → List ℕ
module_name_at variants n = variant_module (slice_get variants n)

-- The numbers that are marked.
abbrev pub marked_numbers : List Bool → List ℕ
marked_numbers marks = by_number (λ n mark. if mark then n ∷ [] else []) 0 marks

-- A variant goes into the cluster of its module, or into a new one behind the others.
abbrev pub clusters_with : List Variant → ℕ → List Cluster → List Cluster
clusters_with variants n [] = record { first = n; others = [] } ∷ []
clusters_with variants n (c ∷ clusters) =
    if bytes_eq (module_name_at variants n) (module_name_at variants c.first)
    then record { first = c.first; others = c.others ++ n ∷ [] } ∷ clusters
    else c ∷ clusters_with variants n clusters

-- The clusters of some variants, behind those that are there.
abbrev pub clusters_behind : List Variant → List Cluster → List ℕ → List Cluster
clusters_behind variants clusters [] = clusters
clusters_behind variants clusters (n ∷ numbers) = clusters_behind variants (clusters_with variants n clusters) numbers

-- The numbers of a cluster.
abbrev pub numbers_in : Cluster → List ℕ
numbers_in c = c.first ∷ c.others

-- What the line of a variant begins with.
abbrev pub box_head : ℕ → List ℕ
box_head n = codes "    n" ++ (decimal n ++ codes " [label=")

-- The line of a variant.
unfoldable pub box_drawn : List Variant → ℕ → List ℕ
box_drawn variants n = box_head n ++ (name_in_quotes (variation_of (slice_get variants n)) ++ codes "];\n")

-- What the lines of cluster m begin with.
abbrev pub cluster_head : ℕ → List ℕ
cluster_head m = codes "  subgraph cluster_" ++ (decimal m ++ codes " {\n    graph [label=")

-- The lines of cluster m: its module's name, and its variants.
unfoldable pub cluster_drawn : List Variant → ℕ → Cluster → List ℕ
cluster_drawn variants m c =
    cluster_head m ++ (name_in_quotes (module_name_at variants c.first) ++ (FRAME.now ++ (box_drawn variants c.first
    ++ (flat_map (box_drawn variants) c.others ++ codes "  }\n"))))

-- How an edge of a kind is drawn.
abbrev pub style_of : EdgeKind → List ℕ
style_of Defaults = codes "color=\"gray50\", style=dashed"
style_of Whole = codes "color=\"#1b7837\", style=bold"
style_of Static = codes "color=\"#1b7837\""
style_of Shared = codes "color=\"#2166ac\""
style_of Header = codes "color=\"#2166ac\", style=dotted"
style_of DataBin = codes "color=\"#b2182b\""
style_of Sources = codes "color=\"#b2182b\", style=dashed"

-- The edges of the graph, each with the number of its variant.
abbrev pub arrows_of : List Variant → List (ℕ × Arrow)
arrows_of variants = by_number (λ n (v : Variant). map (λ a. (n, a)) v.edges) 0 variants

-- Both ends of an edge are marked.
abbrev pub is_inside : List Bool → ℕ × Arrow → Bool
is_inside marks a = mark_at marks a.0 && mark_at marks a.1.to

-- The line of an edge.
unfoldable pub arrow_drawn : ℕ × Arrow → List ℕ
arrow_drawn a =
    codes "  n" ++ (decimal a.0 ++ (codes " -> n" ++ (decimal a.1.to ++ (codes " [label=\"" ++ (kind_word a.1.kind
    ++ (codes "\", " ++ (style_of a.1.kind ++ codes "];\n")))))))

-- The clusters that a picture shows: those of the marked variants.
abbrev pub shown_clusters : List Variant → List Bool → List Cluster
shown_clusters variants marks = clusters_behind variants [] (marked_numbers marks)

-- The edges that a picture shows: those of which both ends are marked.
abbrev pub shown_arrows : List Variant → List Bool → List (ℕ × Arrow)
shown_arrows variants marks = filter (is_inside marks) (arrows_of variants)

-- The picture of the marked variants and of the edges between them, with the legend.
unfoldable pub picture_of : List Variant → List Bool → List ℕ
picture_of variants marks =
    HEAD.now ++ (by_number (cluster_drawn variants) 0 (shown_clusters variants marks)
    ++ (flat_map arrow_drawn (shown_arrows variants marks) ++ LEGEND.now))
