-- A split in which each node has one variant, as it was itself.
use Rattle.std.proofs.Common.{◌≡◌, ◌∙◌, ◌<◌, ◌≤◌, ◌+◌, ◌++◌, ap, refl, arith, length, map, zero-add, ℕ, zero, suc, List}
use Rattle.std.proofs.Common.{[], ◌∷◌, Some}
use Rattle.std.specs.Prelude.{slice_get, slice_set}
use Rattle.std.specs.Option.{option_map}
use Rattle.std.specs.List.{AllByRecursion, cons_option, filter_map}
use Rattle.std.proofs.lemmas.Option.{slice_get_within}
use Rattle.bp_faults.proofs.Lists.{some_there}
use Rattle.graph_nodes.specs.declared.graph.Edge.{Edge}
use Rattle.graph_nodes.specs.declared.graph.Node.{Node}
use Rattle.graph_nodes.specs.declared.variation.Variation.{Variation}
use Rattle.graph_nodes.specs.declared.variation.Variation.TheVariants.{Empty}
use Rattle.graph_nodes.specs.Axes.{axis_index}
use Rattle.graph_nodes.specs.Nodes.{NameNodes}
use Rattle.graph_nodes.specs.Numbered.{by_number}
use Rattle.variant_graphs.specs.Splitting.{Splitting, first_of, led_edge, split_nodes, variant_node, variants_at}
use Rattle.variant_graphs.specs.Splitting.{HasFreeAxis}
use Rattle.variant_graphs.proofs.NewNodes.{first_more, piece}

-- an item is set where it stands
set_own : {X : Type 0} (xs : List X) (i : ℕ) (x : X) → slice_get xs i ≡ Some x → slice_set xs i x ≡ xs
set_own [] i x is = refl
set_own (y ∷ ys) zero x is = let same : x ≡ y = cc in ap (λ z. z ∷ ys) same
set_own (y ∷ ys) (suc i) x is = ap (λ zs. y ∷ zs) (set_own ys i x is)

abbrev edge_to : Edge → ℕ → Edge
edge_to e t = record { kind = e.kind; to = record { 0 = t }; at = e.at }

module _ {P B : Type 0} (s : Splitting P B) (nodes : List (Node P)) (many : length s.variants ≡ length nodes)
    (one : (n : ℕ) (x : Node P) → slice_get nodes n ≡ Some x
    → (b : B) × (variants_at s n ≡ b ∷ []) × (s.variation b ≡ Empty) × (s.payload x b ≡ x.payload))
    (led : (n : ℕ) (e : Edge) → n < length nodes → e.to.0 < length nodes → s.lead n Empty e ≡ Some 0) where
  abbrev EndsBelow : List Edge → Type 0
  EndsBelow es = AllByRecursion (λ (e : Edge). e.to.0 < length nodes) es

  one_at : (n : ℕ) → n < length nodes → length (variants_at s n) ≡ 1
  one_at n lt = let x = some_there nodes n lt in ap length (one n x.0 x.1).1

  -- the variant of each node has the node's number
  first_is : (t : ℕ) → t ≤ length nodes → first_of s t ≡ t
  first_is zero le = refl
  first_is (suc t) le =
      let next : suc t ≡ t + 1 = omega arith in
      let single = one_at t (omega arith) in
      let before = first_is t (omega arith) in
      let more = first_more s nodes many t (omega arith) in
      let sum : first_of s (t + 1) ≡ suc t = omega arith in
      ap (first_of s) next ∙ sum

  led-own : (n : ℕ) (e : Edge) → n < length nodes → e.to.0 < length nodes → led_edge s n Empty e ≡ Some e
  led-own n e lt below =
      let before = first_is e.to.0 (omega arith) in
      let own : first_of s e.to.0 + 0 ≡ e.to.0 = omega arith in
      ap (option_map (λ index. edge_to e (first_of s e.to.0 + index))) (led n e lt below)
      ∙ ap (λ t. Some (edge_to e t)) own

  edges_stay : (n : ℕ) (es : List Edge) → n < length nodes → EndsBelow es → filter_map (led_edge s n Empty) es ≡ es
  edges_stay n [] lt h = refl
  edges_stay n (e ∷ es) lt h =
      ap (λ o. cons_option o (filter_map (led_edge s n Empty) es)) (led-own n e lt h.0)
      ∙ ap (λ l. e ∷ l) (edges_stay n es lt h.1)

  abbrev node_with : Node P → List Variation → P → List Edge → Node P
  node_with x vars payload es = record { «module» = x.«module»; vars = vars; payload = payload; edges = es }

  piece_is_own : (n : ℕ) (x : Node P) → slice_get nodes n ≡ Some x → EndsBelow x.edges
      → slice_get x.vars (axis_index s.axis) ≡ Some Empty → piece s nodes many n x ≡ x ∷ []
  piece_is_own n x at ends free =
      let b = one n x at in
      let axis = axis_index s.axis in
      ap (map (variant_node s n x)) b.1
      ∙ ap (λ v. node_with x (slice_set x.vars axis v) (s.payload x b.0) (filter_map (led_edge s n v) x.edges) ∷ []) b.2
      ∙ ap (λ vars. node_with x vars (s.payload x b.0) (filter_map (led_edge s n Empty) x.edges) ∷ [])
      (set_own x.vars axis Empty free)
      ∙ ap (λ p. node_with x x.vars p (filter_map (led_edge s n Empty) x.edges) ∷ []) b.3
      ∙ ap (λ es. node_with x x.vars x.payload es ∷ []) (edges_stay n x.edges (slice_get_within nodes n x at) ends)

  -- from number k on
  kept_from : (k : ℕ) (xs : List (Node P))
      → ((i : ℕ) (x : Node P) → slice_get xs i ≡ Some x → slice_get nodes (k + i) ≡ Some x)
      → AllByRecursion (λ (x : Node P). EndsBelow x.edges) xs → HasFreeAxis s.axis xs
      → by_number (piece s nodes many) k xs ≡ xs
  kept_from k [] at ends free = refl
  kept_from k (x ∷ xs) at ends free =
      let here : k ≡ k + 0 = omega arith in
      let next = λ (i : ℕ). (let e : (k + 1) + i ≡ k + suc i = omega arith in e) in
      ap (λ (l : List (Node P)). l ++ by_number (piece s nodes many) (k + 1) xs)
      (piece_is_own k x (ap (slice_get nodes) here ∙ at 0 x refl) ends.0 free.0)
      ∙ ap (λ (l : List (Node P)). x ∷ l)
      (kept_from (k + 1) xs (λ i y is. ap (slice_get nodes) (next i) ∙ at (suc i) y is) ends.1 free.1)

  pub kept_whole : NameNodes nodes → HasFreeAxis s.axis nodes → split_nodes s nodes ≡ nodes
  kept_whole ends free = kept_from 0 nodes (λ i x is. ap (slice_get nodes) (zero-add i) ∙ is) ends free
