-- The graph after a split: each node is replaced by its variants, and each edge leads to one variant of its target
-- or is dropped.
use Rattle.std.specs.Prelude.{◌≡◌, ◌+◌, ℕ, List, [], map, take, Option, Some, slice_get, slice_index_or, slice_set}
use Rattle.std.specs.Prelude.{length}
use Rattle.std.specs.Option.{option_map}
use Rattle.std.specs.List.{AllByRecursion, filter_map, sum_by}
use Rattle.graph_nodes.specs.declared.graph.Edge.{Edge}
use Rattle.graph_nodes.specs.declared.graph.Node.{Node}
use Rattle.graph_nodes.specs.declared.variation.Variation.{Variation}
use Rattle.graph_nodes.specs.declared.variation.Variation.TheVariants.{Empty}
use Rattle.graph_nodes.specs.declared.variations.Axis.{Axis}
use Rattle.graph_nodes.specs.Axes.{axis_index}
use Rattle.graph_nodes.specs.Numbered.{by_number}

-- How a kind of mutator makes variants. A variant is whatever the kind keeps of it.
pub record SplitRule (P B : Type 0) : Type 0 where
  pub axis : Axis
  -- the variation of a variant, and its payload by its old node
  pub variation : B → Variation
  pub payload : Node P → B → P
  -- the index, among the variants of its target with these variations, to which an edge leads from the variant of
  -- node n with variation v
  pub lead : ℕ → Variation → Edge → List Variation → Option ℕ

-- What a kind of mutator makes of the nodes of a graph: the variants of each, by node number.
pub record Splitting (P B : Type 0) : Type 0 where
  pub axis : Axis
  pub variants : List (List B)
  -- the variation of a variant, and its payload by its old node
  pub variation : B → Variation
  pub payload : Node P → B → P
  -- the index, among the variants of its target, to which an edge leads from the variant of node n with variation v
  pub lead : ℕ → Variation → Edge → Option ℕ

-- The split of some lists of variants by a rule.
abbrev pub splitting : {P B : Type 0} → SplitRule P B → List (List B) → Splitting P B
splitting rule lists = record {
  axis = rule.axis;
  variants = lists;
  variation = rule.variation;
  payload = rule.payload;
  lead = λ n v e. rule.lead n v e (map rule.variation (slice_index_or lists e.to.0 []));
}

module _ {P B : Type 0} (s : Splitting P B) where
  -- The variants of node n.
  abbrev pub variants_at : ℕ → List B
  variants_at n = slice_index_or s.variants n []

  -- How many new nodes there are before those of node n: the number of its first variant.
  abbrev pub first_of : ℕ → ℕ
  first_of n = sum_by length (take n s.variants)

  -- The edge of a variant of node n with variation v.
  abbrev pub led_edge : ℕ → Variation → Edge → Option Edge
  led_edge n v e =
      option_map (λ index. record { kind = e.kind; to = record { 0 = first_of e.to.0 + index }; at = e.at })
      (s.lead n v e)

  -- A variant of node n: its variation is set on the axis, and it has the edges of the old node, in order.
  abbrev pub variant_node : ℕ → Node P → B → Node P
  variant_node n x b = record {
    «module» = x.«module»;
    vars = slice_set x.vars (axis_index s.axis) (s.variation b);
    payload = s.payload x b;
    edges = filter_map (led_edge n (s.variation b)) x.edges;
  }

  -- The new nodes stand by old number, and then by index among the variants.
  abbrev pub split_nodes : List (Node P) → List (Node P)
  split_nodes nodes = by_number (λ n x. map (variant_node n x) (variants_at n)) 0 nodes

-- No node has a variation on the axis yet.
abbrev pub HasFreeAxis : {P : Type 0} → Axis → List (Node P) → Type 0
HasFreeAxis {P} axis nodes = AllByRecursion (λ (x : Node P). slice_get x.vars (axis_index axis) ≡ Some Empty) nodes

-- The axes that were free and aren't the one that a rule splits along, if it splits along one, are free.
abbrev pub StayFree : {P : Type 0} → Option Axis → List (Node P) → List (Node P) → Type 0
StayFree along old new = (axis : Axis) → (along ≡ Some axis → ⊥) → HasFreeAxis axis old → HasFreeAxis axis new
