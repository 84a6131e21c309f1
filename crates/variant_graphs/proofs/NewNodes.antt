-- How many new nodes there are, and where those of an old node begin.
use Rattle.std.proofs.Common.{◌≡◌, ◌+◌, ◌<◌, ◌≤◌, ℕ, zero, suc, List, [], ◌∷◌, map, length, take, get_or, refl, ap, ◌∙◌}
use Rattle.std.proofs.Common.{sym, arith, length-append}
use Rattle.std.specs.List.{sum_by}
use Rattle.std.proofs.lemmas.List.{length-map, take_all}
use Rattle.std.proofs.lemmas.List.Sums.{sum_by_more, sum_by_more_le}
use Rattle.graph_nodes.specs.declared.graph.Node.{Node}
use Rattle.graph_nodes.specs.Numbered.{by_number}
use Rattle.variant_graphs.proofs.Alls.{by_number_step}
use Rattle.variant_graphs.specs.Splitting.{Splitting, variants_at, first_of, variant_node, split_nodes}

module _ {P B : Type 0} (s : Splitting P B) (nodes : List (Node P)) (many : length s.variants ≡ length nodes) where
  abbrev pub piece : ℕ → Node P → List (Node P)
  piece n x = map (variant_node s n x) (variants_at s n)

  pub first_more : (n : ℕ) → n < length nodes → first_of s (n + 1) ≡ first_of s n + length (variants_at s n)
  first_more n lt = sum_by_more length s.variants n [] (omega arith)

  pub first_node : (xs : List (Node P)) (n : ℕ) → n < length xs → Node P
  first_node [] n lt = absurd (omega arith)
  first_node (x ∷ xs) n lt = x

  -- the variants of the nodes before n
  pub length-before : (n : ℕ) → n ≤ length nodes → length (by_number piece 0 (take n nodes)) ≡ first_of s n
  length-before zero le = refl
  length-before (suc n) le =
      let lt : n < length nodes = omega arith in
      let x = first_node nodes n lt in
      let e : suc n ≡ n + 1 = omega arith in
      ap (λ k. length (by_number piece 0 (take k nodes))) e
      ∙ ap length (by_number_step piece nodes n x lt)
      ∙ length-append (by_number piece 0 (take n nodes)) (piece n (get_or nodes n x))
      ∙ ap (λ k. length (by_number piece 0 (take n nodes)) + k)
      (length-map (variants_at s n) (variant_node s n (get_or nodes n x)))
      ∙ ap (λ k. k + length (variants_at s n)) (length-before n (omega arith))
      ∙ sym (first_more n lt) ∙ ap (first_of s) (sym e)

  pub length-split : length (split_nodes s nodes) ≡ sum_by length s.variants
  length-split =
      ap (λ l. length (by_number piece 0 l)) (sym (take_all (length nodes) nodes (omega arith)))
      ∙ length-before (length nodes) (omega arith)
      ∙ ap (sum_by length) (take_all (length nodes) s.variants (omega arith))

  -- a variant that a node has is a new node
  pub variant_inside : (n index : ℕ) → n < length nodes → index < length (variants_at s n)
      → first_of s n + index < length (split_nodes s nodes)
  variant_inside n index lt within =
      let a = sum_by_more_le length s.variants n [] (omega arith) in let b = length-split in omega arith
