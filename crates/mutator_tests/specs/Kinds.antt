-- The rules and graphs of the tests.
use Rattle.std.specs.Prelude.{◌≡◌, ◌==◌, ℕ, suc, List, [], ◌∷◌, map, Some, None, Result, Ok, Err, ⊤, codes}
use Rattle.std.specs.Prelude.{slice_get, if◌then◌else◌}
use Rattle.std.specs.Option.{option_map_or}
use Rattle.std.specs.List.{range_with_len}
use Rattle.std.proofs.Common.{Bool, true, false, sym, ap, subst, refl}
use Rattle.bp_faults.specs.declared.fault.Fault.{Fault}
use Rattle.bp_faults.specs.declared.ids.NodeId.{NodeId}
use Rattle.bp_faults.specs.declared.kind.FaultKind.TheVariants.{BadSource}
use Rattle.bp_faults.specs.Faults.{fault_at, file_start}
use Rattle.graph_nodes.specs.declared.graph.EdgeKind.{EdgeKind}
use Rattle.graph_nodes.specs.declared.graph.EdgeKind.TheVariants.{Defaults, Whole, Static, Shared, Header, DataBin}
use Rattle.graph_nodes.specs.declared.graph.EdgeKind.TheVariants.{Sources}
use Rattle.graph_nodes.specs.declared.graph.Node.{Node}
use Rattle.graph_nodes.specs.declared.variation.Variation.{Variation}
use Rattle.graph_nodes.specs.declared.variation.Variation.TheVariants.{Empty, PerSource}
use Rattle.graph_nodes.specs.declared.variations.Axis.TheVariants.{PerSource as PerSourceAxis}
use Rattle.mutator_rules.specs.declared.request.Request.{Request}
use Rattle.mutator_rules.specs.declared.split.Split.{Split}
use Rattle.mutator_rules.specs.Shapes.{HasShape}
use Rattle.variant_graphs.specs.Splitting.{HasFreeAxis}

-- Node n is of module n, where the first node has the number k.
abbrev pub OwnModules : ℕ → List (Node NodeId) → Type 0
OwnModules k [] = ⊤
OwnModules k (x ∷ xs) = (x.«module».0 ≡ k) × OwnModules (suc k) xs

-- Each node is of its own module, and no node has a variation of a source.
pub record AreNew (nodes : List (Node NodeId)) : Type 0 where
  pub own : OwnModules 0 nodes
  pub free : HasFreeAxis PerSourceAxis nodes

-- The number that a node holds.
abbrev pub number_at : List (Node NodeId) → ℕ → ℕ
number_at nodes n = option_map_or (λ (x : Node NodeId). x.payload.0) (slice_get nodes n) 0

-- A variant by its number.
abbrev pub numbered_variant : ℕ → Variation × NodeId
numbered_variant i = (PerSource i, record { 0 = i })

-- As many variants as a number says.
abbrev pub split_into : ℕ → Split NodeId
split_into count = record { variants = map numbered_variant (range_with_len 0 count); requests = [] }

-- What the splitting rule makes of a node.
abbrev pub split_at : List (Node NodeId) → ℕ → Result (Split NodeId) Fault
split_at nodes n = Ok (split_into (number_at nodes n))

-- The request of a node for the module `lib`.
abbrev pub lib_request : ℕ → Request
lib_request n = record {
  reverse = false;
  kind = Static;
  name = codes "lib";
  at = file_start n;
  want = record { target = Empty; image = Empty; link = Empty };
}

-- One variant, and twice the request.
abbrev pub asking : ℕ → Result (Split NodeId) Fault
asking n = Ok (record { variants = (Empty, record { 0 = n }) ∷ []; requests = lib_request n ∷ lib_request n ∷ [] })

-- One variant with the number that the node holds, and nothing is asked.
abbrev pub staying : List (Node NodeId) → ℕ → Result (Split NodeId) Fault
staying nodes n = Ok (record { variants = (Empty, record { 0 = number_at nodes n }) ∷ []; requests = [] })

-- Whether an edge is of kind Whole.
abbrev pub is_whole_kind : EdgeKind → Bool
is_whole_kind Whole = true
is_whole_kind Defaults = false
is_whole_kind Static = false
is_whole_kind Shared = false
is_whole_kind Header = false
is_whole_kind DataBin = false
is_whole_kind Sources = false

-- What the source of the first edge made, if that edge is of kind Whole, else the node's own number.
abbrev pub handed_node : ℕ → List EdgeKind → List NodeId → NodeId
handed_node n (kind ∷ kinds) (first ∷ ins) = if is_whole_kind kind then first else record { 0 = n }
handed_node n (kind ∷ kinds) [] = record { 0 = n }
handed_node n [] ins = record { 0 = n }

-- The same, but a node is refused.
abbrev pub handed_unless : ℕ → ℕ → List EdgeKind → List NodeId → Result NodeId Fault
handed_unless refused n kinds ins =
    if n == refused then Err (fault_at BadSource (file_start n)) else Ok (handed_node n kinds ins)

made_or : Split NodeId → Result (Split NodeId) Fault → Split NodeId
made_or d (Ok made) = made
made_or d (Err fault) = d

-- A result of the splitting rule asks nothing.
pub split_shaped : (nodes : List (Node NodeId)) (n : ℕ) (made : Split NodeId) → split_at nodes n ≡ Ok made
    → HasShape (Some PerSourceAxis) made
unfolding made_or
split_shaped nodes n made is = sym (ap (λ r. (made_or made r).requests) is)

-- A result of the asking rule has one variant.
pub asking_shaped : (n : ℕ) (made : Split NodeId) → asking n ≡ Ok made → HasShape None made
unfolding made_or
asking_shaped n made is = subst (λ (s : Split NodeId). HasShape None s) (ap (made_or made) is) refl

-- A result of the rule that leaves nodes as they are has one variant.
pub staying_shaped : (nodes : List (Node NodeId)) (n : ℕ) (made : Split NodeId) → staying nodes n ≡ Ok made
    → HasShape None made
unfolding made_or
staying_shaped nodes n made is = subst (λ (s : Split NodeId). HasShape None s) (ap (made_or made) is) refl
