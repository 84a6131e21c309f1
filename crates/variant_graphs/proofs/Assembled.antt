-- The limits by the numbers of variants are those of the new graph.
use Rattle.std.proofs.Common.{◌≡◌, ◌+◌, ◌-◌, ◌<◌, ◌≤◌, ◌++◌, ℕ, zero, suc, Bool, true, false, cond, List, [], ◌∷◌, map}
use Rattle.std.proofs.Common.{length, take, get_or, refl, ap, ◌∙◌, sym, subst, arith, zero-add, append_assoc, Option}
use Rattle.std.proofs.Common.{Some, None, Result, Ok, Err}
use Rattle.std.specs.Prelude.{slice_get}
use Rattle.std.specs.Option.{option_map}
use Rattle.std.specs.Result.{IsErr, IsErrAnd}
use Rattle.std.specs.List.{AllByRecursion, filter, filter_map, flat_map, cons_option}
use Rattle.std.proofs.lemmas.Bool.Decides.{nat_tests}
use Rattle.std.proofs.lemmas.List.{length-map, map-append, take_all}
use Rattle.std.proofs.lemmas.Option.{slice_get-map, slice_get-get_or}
use Rattle.bp_faults.specs.declared.ids.ModuleId.{ModuleId}
use Rattle.bp_faults.specs.declared.place.Place.{Place}
use Rattle.graph_nodes.specs.declared.graph.Edge.{Edge}
use Rattle.graph_nodes.specs.declared.graph.Graph.{Graph}
use Rattle.graph_nodes.specs.declared.graph.Node.{Node}
use Rattle.graph_nodes.specs.declared.variation.Variation.{Variation}
use Rattle.graph_nodes.specs.Numbered.{by_number}
use Rattle.variant_graphs.proofs.Alls.{by_number_step}
use Rattle.variant_graphs.proofs.Alls.{edges_at_is}
use Rattle.mutator_rules.specs.declared.error.KindError.{KindError}
use Rattle.mutator_rules.specs.declared.error.KindError.TheVariants.{At, Nodes, Edges, OutOfMemory}
use Rattle.variant_graphs.specs.Inside.{total, before, copies_of, is_kept, kept_places, new_places, AnswersBegins}
use Rattle.variant_graphs.specs.Inside.{IsEdgeBeyond}
use Rattle.variant_graphs.specs.Splits.{IsSplitting}
use Rattle.bp_faults.specs.declared.limits.TheConstants.{MOST_NODES, MOST_EDGES}
use Rattle.variant_graphs.specs.Limits.{IsWithinLimits, IsFirstNodeBeyond, IsFirstEdgeBeyond}
use Rattle.variant_graphs.specs.Splitting.{Splitting, variants_at, first_of, led_edge, variant_node, split_nodes}
use Rattle.variant_graphs.specs.Inside.{counts_of}
use Rattle.variant_graphs.specs.Splits.{AnswersSplit}
use Rattle.variant_graphs.proofs.Begun.{get_lengths, total_is, before_is}
use Rattle.variant_graphs.proofs.NewNodes.{piece, first_more, first_node, length-before, length-split}
use Rattle.variant_graphs.proofs.Pieces.{by_number_at, get_middle}
use Rattle.graph_nodes.specs.Nodes.{all_edges}

-- an answer that is handed on says what the first one says
pub handed_on : {P B : Type 0} (s : Splitting P B) (nodes : List (Node P)) (e : KindError)
    (r : Result (Graph P) KindError) → IsErr r → IsErrAnd r (λ x. x ≡ e) → AnswersSplit s nodes (Err e)
    → AnswersSplit s nodes r
handed_on s nodes e (Ok g) err is h = cc
handed_on s nodes e (Err x) err is h = subst (λ y. AnswersSplit s nodes (Err y)) (sym is) h

first_item : {A : Type 0} (xs : List A) → 0 < length xs → A
first_item [] lt = absurd (omega arith)
first_item (x ∷ xs) lt = x

flat_map_append : {X A : Type 0} (f : X → List A) (xs ys : List X)
    → flat_map f (xs ++ ys) ≡ flat_map f xs ++ flat_map f ys
flat_map_append f [] ys = refl
flat_map_append f (x ∷ xs) ys =
    ap (λ l. f x ++ l) (flat_map_append f xs ys) ∙ sym (append_assoc (f x) (flat_map f xs) (flat_map f ys))

abbrev edges_in : {P : Type 0} → Node P → List Edge
edges_in x = x.edges

abbrev at_of : Edge → Place
at_of e = e.at

module _ {P B : Type 0} (s : Splitting P B) (nodes : List (Node P)) (many : length s.variants ≡ length nodes) where
  module_beyond : (n : ℕ) (m : ModuleId) → n < length nodes → before (counts_of s) n ≤ MOST_NODES
      → MOST_NODES < before (counts_of s) (n + 1) → option_map (λ (x : Node P). x.«module») (slice_get nodes n) ≡ Some m
      → IsFirstNodeBeyond (split_nodes s nodes) m
  module_beyond n m lt le gt is =
      let x = first_node s nodes many nodes n lt in
      let node = get_or nodes n x in
      let j = MOST_NODES - first_of s n in
      let a = before_is s n in let b = before_is s (n + 1) in let c = first_more s nodes many n lt in
      let within : MOST_NODES - first_of s n < length (variants_at s n) = omega arith in
      let variant = first_item (variants_at s n) (omega arith) in
      let all = by_number_at (piece s nodes many) 0 nodes n x lt in
      let front = by_number (piece s nodes many) 0 (take n nodes) in
      let here = map (variant_node s n node) (variants_at s n) in
      let z : 0 + n ≡ n = zero-add n in
      let whole : split_nodes s nodes ≡ front ++ (here ++ all.0) =
      all.1 ∙ ap (λ k. front ++ (map (variant_node s k node) (variants_at s k) ++ all.0)) z in
      let long : length front ≡ first_of s n = length-before s nodes many n (omega arith) in
      let same : MOST_NODES ≡ length front + (MOST_NODES - first_of s n) = omega arith in
      let inside : MOST_NODES - first_of s n < length here =
      (let e = length-map (variants_at s n) (variant_node s n node) in omega arith) in
      ap (λ (l : List (Node P)). option_map (λ (y : Node P). y.«module») (slice_get l MOST_NODES)) whole
      ∙ ap (λ k. option_map (λ (y : Node P). y.«module») (slice_get (front ++ (here ++ all.0)) k)) same
      ∙ ap (option_map (λ (y : Node P). y.«module»)) (get_middle front here all.0 j inside
      ∙ slice_get-map (variant_node s n node) (variants_at s n) j
      ∙ ap (option_map (variant_node s n node)) (slice_get-get_or (variants_at s n) j variant within))
      ∙ ap (option_map (λ (y : Node P). y.«module»)) (sym (slice_get-get_or nodes n x lt)) ∙ is

  pub node_beyond : (error : KindError) → AnswersBegins (counts_of s) nodes (Err error)
      → AnswersSplit s nodes (Err error)
  node_beyond (At n fault) h = h
  node_beyond (Nodes m) h = module_beyond h.0 m h.1 h.2 h.3 h.4
  node_beyond (Edges p) h = absurd h
  node_beyond OutOfMemory h = tt

  pub few_new : total (counts_of s) ≤ MOST_NODES → length (split_nodes s nodes) ≤ MOST_NODES
  few_new le = let a = length-split s nodes many in let b = total_is s in omega arith

module _ {P B : Type 0} (s : Splitting P B) (nodes : List (Node P)) (splits : IsSplitting s nodes) where
  kept_one : (e : Edge) (b : Bool) → is_kept (counts_of s) e ≡ b → (es : List Edge)
      → kept_places (counts_of s) (e ∷ es) ≡ cond b (e.at ∷ kept_places (counts_of s) es) (kept_places (counts_of s) es)
  kept_one e true is es =
      ap (λ b. map at_of (cond b (e ∷ filter (is_kept (counts_of s)) es) (filter (is_kept (counts_of s)) es))) is
  kept_one e false is es =
      ap (λ b. map at_of (cond b (e ∷ filter (is_kept (counts_of s)) es) (filter (is_kept (counts_of s)) es))) is

  -- the places of the edges of one variant
  variant_places : (n : ℕ) (v : Variation) (es : List Edge)
      → AllByRecursion (λ (e : Edge). s.lead n v e ≡ None → length (variants_at s e.to.0) ≡ 0) es
      → map at_of (filter_map (led_edge s n v) es) ≡ kept_places (counts_of s) es
  variant_places n v [] h = refl
  variant_places n v (e ∷ es) h = by (s.lead n v e) refl (variant_places n v es h.1)
    where
      by : (o : Option ℕ) → s.lead n v e ≡ o → map at_of (filter_map (led_edge s n v) es) ≡ kept_places (counts_of s) es
          → map at_of (filter_map (led_edge s n v) (e ∷ es)) ≡ kept_places (counts_of s) (e ∷ es)
      by None is rest =
          let none = h.0 is in
          let count = get_lengths s.variants e.to.0 in
          let t : is_kept (counts_of s) e ≡ false = grind (arith, nat_tests) in
          ap (λ o. map at_of (cons_option
          (option_map (λ index. record { kind = e.kind; to = record { 0 = first_of s e.to.0 + index }; at = e.at }) o)
          (filter_map (led_edge s n v) es))) is
          ∙ rest
          ∙ sym (kept_one e false t es)
      by (Some index) is rest =
          let within = splits.within n v e index is in
          let count = get_lengths s.variants e.to.0 in
          let t : is_kept (counts_of s) e ≡ true = grind (arith, nat_tests) in
          ap (λ o. map at_of (cons_option
          (option_map (λ index. record { kind = e.kind; to = record { 0 = first_of s e.to.0 + index }; at = e.at }) o)
          (filter_map (led_edge s n v) es))) is
          ∙ ap (λ l. e.at ∷ l) rest
          ∙ sym (kept_one e true t es)

  variants_places : (n : ℕ) (x : Node P) (bs : List B) → AllByRecursion (λ (b : B).
      AllByRecursion (λ (e : Edge). s.lead n (s.variation b) e ≡ None → length (variants_at s e.to.0) ≡ 0) x.edges) bs
      → map at_of (flat_map edges_in (map (variant_node s n x) bs))
      ≡ copies_of (length bs) (kept_places (counts_of s) x.edges)
  variants_places n x [] h = refl
  variants_places n x (b ∷ bs) h =
      map-append at_of (filter_map (led_edge s n (s.variation b)) x.edges)
      (flat_map edges_in (map (variant_node s n x) bs))
      ∙ ap (λ (l : List Place). l ++ map at_of (flat_map edges_in (map (variant_node s n x) bs)))
      (variant_places n (s.variation b) x.edges h.0)
      ∙ ap (λ (l : List Place). kept_places (counts_of s) x.edges ++ l) (variants_places n x bs h.1)

  places_to : (n : ℕ) → n ≤ length nodes → map at_of
      (all_edges (by_number (piece s nodes splits.many) 0 (take n nodes))) ≡ new_places (counts_of s) (take n nodes)
  places_to zero le = refl
  places_to (suc n) le =
      let lt : n < length nodes = omega arith in
      let x = first_node s nodes splits.many nodes n lt in
      let node = get_or nodes n x in
      let e : suc n ≡ n + 1 = omega arith in
      let front = by_number (piece s nodes splits.many) 0 (take n nodes) in
      let here = map (variant_node s n node) (variants_at s n) in
      let led_here =
      subst (λ (es : List Edge). AllByRecursion (λ (b : B). AllByRecursion (λ (e : Edge). s.lead n (s.variation b) e
      ≡ None → length (variants_at s e.to.0) ≡ 0) es) (variants_at s n)) (edges_at_is nodes n x lt) (splits.led n lt) in
      ap (λ k. map at_of (all_edges (by_number (piece s nodes splits.many) 0 (take k nodes)))) e
      ∙ ap (λ (l : List (Node P)). map at_of (all_edges l)) (by_number_step (piece s nodes splits.many) nodes n x lt)
      ∙ ap (map at_of) (flat_map_append edges_in front here) ∙ map-append at_of (all_edges front) (all_edges here)
      ∙ ap (λ (l : List Place). l ++ map at_of (all_edges here)) (places_to n (omega arith))
      ∙ ap (λ (l : List Place). new_places (counts_of s) (take n nodes) ++ l) (variants_places n node (variants_at s n)
      led_here ∙ ap (λ k. copies_of k (kept_places (counts_of s) node.edges)) (sym (get_lengths s.variants n)))
      ∙ sym (by_number_step (λ n (x : Node P). copies_of (get_or (counts_of s) n 0) (kept_places (counts_of s) x.edges))
      nodes n x lt)
      ∙ ap (λ k. new_places (counts_of s) (take k nodes)) (sym e)

  -- the places of the edges of the new graph, in node order
  pub places_are : map at_of (all_edges (split_nodes s nodes)) ≡ new_places (counts_of s) nodes
  places_are =
      let whole = take_all (length nodes) nodes (omega arith) in
      ap (λ (l : List (Node P)). map at_of (all_edges (by_number (piece s nodes splits.many) 0 l))) (sym whole)
      ∙ places_to (length nodes) (omega arith)
      ∙ ap (new_places (counts_of s)) whole

  pub edge_found : (p : Place) → total (counts_of s) ≤ MOST_NODES → IsEdgeBeyond (counts_of s) nodes (Some p)
      → IsFirstEdgeBeyond (split_nodes s nodes) p
  edge_found p few is = record {
    few_nodes = few_new s nodes splits.many few;
    beyond =
        sym (slice_get-map at_of (all_edges (split_nodes s nodes)) MOST_EDGES)
        ∙ ap (λ l. slice_get l MOST_EDGES) places_are
        ∙ is;
  }

  pub within_limits : total (counts_of s) ≤ MOST_NODES → IsEdgeBeyond (counts_of s) nodes None
      → IsWithinLimits (split_nodes s nodes)
  within_limits few none = record {
    few_nodes = few_new s nodes splits.many few;
    few_edges = let a = sym (length-map (all_edges (split_nodes s nodes)) at_of) ∙ ap length places_are in omega arith;
  }
