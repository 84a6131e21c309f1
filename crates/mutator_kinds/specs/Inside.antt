-- What bodies use on the way to a new graph. No public contract speaks of it.
use Rattle.std.specs.Prelude.{◌≡◌, ◌≢◌, Bool, true, List, [], ◌∷◌, map, length, nat_eq, slice_set}
use Rattle.std.specs.Prelude.{Option, Some, None, ⊤}
use Rattle.std.specs.List.{AllByRecursion, AllPairs, list_all, range_with_len}
use Rattle.graph_nodes.specs.declared.graph.EdgeKind.{EdgeKind}
use Rattle.graph_nodes.specs.declared.graph.Node.{Node}
use Rattle.graph_nodes.specs.declared.variation.Variation.{Variation}
use Rattle.graph_nodes.specs.declared.variations.Axis.{Axis}
use Rattle.graph_nodes.specs.Axes.{axis_index}
use Rattle.mutator_rules.specs.declared.split.Split.{Split}
use Rattle.mutator_rules.specs.Arrivals.{kinds_into}
use Rattle.mutator_rules.specs.Shapes.{HasShape}
use Rattle.variant_graphs.specs.Payloads.{with_payload}

module _ {P : Type 0} where
  -- The kinds of the edges that lead to each node, by node number.
  abbrev pub all_kinds : List (Node P) → List (List EdgeKind)
  all_kinds nodes = map (kinds_into nodes) (range_with_len 0 (length nodes))

  -- A node with the payload of the first of some variants, and with its variation where there is an axis.
  abbrev pub with_first : Option Axis → Node P → List (Variation × P) → Node P
  with_first along x [] = x
  with_first None x (b ∷ bs) = with_payload x b.1
  with_first (Some axis) x (b ∷ bs) = record {
    «module» = x.«module»;
    vars = slice_set x.vars (axis_index axis) b.0;
    payload = b.1;
    edges = x.edges;
  }

  -- Each node with the first variant of the result of its number. All else stays.
  abbrev pub with_firsts : Option Axis → List (Node P) → List (Split P) → List (Node P)
  with_firsts along [] outs = []
  with_firsts along (x ∷ xs) [] = x ∷ xs
  with_firsts along (x ∷ xs) (made ∷ outs) = with_first along x made.variants ∷ with_firsts along xs outs

  -- Whether a result has exactly one variant.
  abbrev pub has_one_variant : Split P → Bool
  has_one_variant made = nat_eq (length made.variants) 1

  -- Where there is an axis, each result has exactly one variant.
  abbrev pub HaveOneEach : Option Axis → List (Split P) → Type 0
  HaveOneEach None outs = ⊤
  HaveOneEach (Some axis) outs = list_all has_one_variant outs ≡ true

  -- Where there is an axis, the variations of each result differ.
  abbrev pub VariantsDiffer : Option Axis → List (Split P) → Type 0
  VariantsDiffer None outs = ⊤
  VariantsDiffer (Some axis) outs =
      AllByRecursion (λ (made : Split P). AllPairs (λ (b c : Variation × P). b.0 ≢ c.0) made.variants) outs

  -- Each result has its shape, and its variations differ where there is an axis.
  pub record AreFit (along : Option Axis) (outs : List (Split P)) : Type 0 where
    pub shaped : AllByRecursion (HasShape along) outs
    pub differ : VariantsDiffer along outs
