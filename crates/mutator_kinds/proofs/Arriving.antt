-- The kinds of the edges that lead to each node.
use Rattle.std.proofs.Common.{◌≡◌, ◌<◌, ℕ, List, [], ◌∷◌, map, length, get_or, refl, ap, ◌∙◌, zero-add}
use Rattle.std.specs.List.{range_with_len}
use Rattle.std.proofs.lemmas.List.FromFn.{length-map-range_with_len, get_or-map-range_with_len}
use Rattle.bp_faults.specs.declared.ids.NodeId.{NodeId}
use Rattle.graph_nodes.specs.declared.graph.EdgeKind.{EdgeKind}
use Rattle.graph_nodes.specs.declared.graph.Node.{Node}
use Rattle.mutator_rules.specs.Arrivals.{arrivals, all_arrivals, kinds_into}
use Rattle.mutator_kinds.specs.Inside.{all_kinds}

map_twice : {A B C : Type 0} (f : A → B) (h : B → C) (xs : List A) → map h (map f xs) ≡ map (λ x. h (f x)) xs
map_twice f h [] = refl
map_twice f h (x ∷ xs) = ap (λ l. h (f x) ∷ l) (map_twice f h xs)

module _ {P : Type 0} (nodes : List (Node P)) where
  pub kinds_of_all : (lists : List (List (NodeId × EdgeKind))) → lists ≡ all_arrivals nodes
      → map (map (λ (a : NodeId × EdgeKind). a.1)) lists ≡ all_kinds nodes
  kinds_of_all lists is =
      ap (map (map (λ (a : NodeId × EdgeKind). a.1))) is
      ∙ map_twice (arrivals nodes) (map (λ (a : NodeId × EdgeKind). a.1)) (range_with_len 0 (length nodes))

  pub many_kinds : (lists : List (List EdgeKind)) → lists ≡ all_kinds nodes → length lists ≡ length nodes
  many_kinds lists is = ap length is ∙ length-map-range_with_len (kinds_into nodes) 0 (length nodes)

  pub kinds_read : (lists : List (List EdgeKind)) (n : ℕ) (d : List EdgeKind) → lists ≡ all_kinds nodes
      → n < length nodes → get_or lists n d ≡ kinds_into nodes n
  kinds_read lists n d is lt =
      ap (λ l. get_or l n d) is ∙ get_or-map-range_with_len (kinds_into nodes) 0 (length nodes) n n d lt (zero-add n)
