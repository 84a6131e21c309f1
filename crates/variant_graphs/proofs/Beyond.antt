-- The first edge beyond the limit, by numbers of variants.
use Rattle.std.proofs.Common.{◌≡◌, ◌+◌, ◌<◌, ◌++◌, ℕ, zero, suc, List, [], ◌∷◌, length, take, get_or, ap, ◌∙◌, sym}
use Rattle.std.proofs.Common.{subst, arith, append_assoc, zero-add, length-append, Option, Some, None}
use Rattle.std.specs.Prelude.{slice_get}
use Rattle.std.specs.List.{AllByRecursion}
use Rattle.std.proofs.lemmas.List.Elements.{All-from_recursion}
use Rattle.bp_faults.specs.declared.place.Place.{Place}
use Rattle.graph_nodes.specs.declared.graph.Edge.{Edge}
use Rattle.graph_nodes.specs.declared.graph.Node.{Node}
use Rattle.graph_nodes.specs.Nodes.{NameNodes}
use Rattle.variant_graphs.proofs.Alls.{by_number_step}
use Rattle.variant_graphs.specs.Inside.{copies_of, kept_places, new_places, IsEdgeBeyond}
use Rattle.bp_faults.specs.declared.limits.TheConstants.{MOST_EDGES}
use Rattle.variant_graphs.proofs.Pieces.{by_number_at, get_middle, repeated_at, repeated_more}

-- the edges of a node lead to nodes
pub ends_of_node : {P : Type 0} (nodes : List (Node P)) → NameNodes nodes → (n : ℕ) (x : Node P) → n < length nodes
    → x ≡ get_or nodes n x → AllByRecursion (λ (e : Edge). e.to.0 < length nodes) x.edges
ends_of_node {P} nodes ends n x lt is =
    subst (λ (y : Node P). AllByRecursion (λ (e : Edge). e.to.0 < length nodes) y.edges) (sym is)
    (All-from_recursion (λ (y : Node P). AllByRecursion (λ (e : Edge). e.to.0 < length nodes) y.edges) nodes ends n x
    lt)

module _ {P : Type 0} (counts : List ℕ) (nodes : List (Node P)) where
  abbrev piece : ℕ → Node P → List Place
  piece n x = copies_of (get_or counts n 0) (kept_places counts x.edges)

  -- as many places come with one node more
  pub places_more : (n : ℕ) (x : Node P) → n < length nodes → length (new_places counts (take (n + 1) nodes))
      ≡ length (new_places counts (take n nodes)) + length (piece n (get_or nodes n x))
  places_more n x lt =
      ap length (by_number_step piece nodes n x lt)
      ∙ length-append (new_places counts (take n nodes)) (piece n (get_or nodes n x))

  -- a place of one variant of a node
  pub place_beyond : (n : ℕ) (x : Node P) (copy j : ℕ) → n < length nodes → copy < get_or counts n 0
      → j < length (kept_places counts (get_or nodes n x).edges)
      → slice_get (new_places counts nodes) ((length (new_places counts (take n nodes)) + length (copies_of copy
      (kept_places counts (get_or nodes n x).edges))) + j) ≡ slice_get (kept_places counts (get_or nodes n x).edges) j
  place_beyond n x copy j lt inside within =
      let kept = kept_places counts (get_or nodes n x).edges in
      let front = new_places counts (take n nodes) in
      let all = by_number_at piece 0 nodes n x lt in
      let here = repeated_at (get_or counts n 0) copy kept inside in
      let z : 0 + n ≡ n = zero-add n in
      let whole : new_places counts nodes ≡ (front ++ copies_of copy kept) ++ (kept ++ (here.0 ++ all.0)) =
      all.1 ∙ ap (λ k. front ++ (piece k (get_or nodes n x) ++ all.0)) z
      ∙ ap (λ (l : List Place). front ++ (l ++ all.0)) here.1
      ∙ ap (λ (l : List Place). front ++ l) (append_assoc (copies_of copy kept) (kept ++ here.0) all.0
      ∙ ap (λ (l : List Place). copies_of copy kept ++ l) (append_assoc kept here.0 all.0))
      ∙ sym (append_assoc front (copies_of copy kept) (kept ++ (here.0 ++ all.0))) in
      ap (λ (l : List Place). slice_get l ((length front + length (copies_of copy kept)) + j)) whole
      ∙ ap (λ k. slice_get ((front ++ copies_of copy kept) ++ (kept ++ (here.0 ++ all.0))) (k + j))
      (sym (length-append front (copies_of copy kept)))
      ∙ get_middle (front ++ copies_of copy kept) kept (here.0 ++ all.0) j within

pub length-repeated_more : {A : Type 0} (k : ℕ) (xs : List A)
    → length (copies_of (k + 1) xs) ≡ length (copies_of k xs) + length xs
length-repeated_more k xs = ap length (repeated_more k xs) ∙ length-append (copies_of k xs) xs

-- what is found there is the first edge beyond
pub beyond_is : {P : Type 0} (counts : List ℕ) (nodes : List (Node P)) (kept : List Place) (j : ℕ) (r : Option Place)
    → r ≡ slice_get kept j → j < length kept → slice_get (new_places counts nodes) MOST_EDGES ≡ slice_get kept j
    → IsEdgeBeyond counts nodes r
beyond_is counts nodes kept j None is lt e = absurd (slice_get_past_not kept j lt is)
  where
    slice_get_past_not : (kept : List Place) (j : ℕ) → j < length kept → None ≡ slice_get kept j → ⊥
    slice_get_past_not [] j lt h = absurd (omega arith)
    slice_get_past_not (k ∷ kept) zero lt h = cc
    slice_get_past_not (k ∷ kept) (suc j) lt h = slice_get_past_not kept j (omega arith) h
beyond_is counts nodes kept j (Some p) is lt e = e ∙ sym is
