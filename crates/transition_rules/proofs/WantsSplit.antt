-- The variations of the nodes split the graph.
use Rattle.std.proofs.Common.{◌≡◌, ◌≢◌, ◌<◌, ◌++◌, ◌⊎◌, inl, inr, ℕ, Bool, true, false, List, [], ◌∷◌, map, length}
use Rattle.std.proofs.Common.{get_or, refl, ap, ◌∙◌, sym, subst, arith, Some, None, Ok}
use Rattle.std.specs.List.{AllByRecursion, AllPairs, position}
use Rattle.std.proofs.lemmas.List.{get_or_default}
use Rattle.std.proofs.lemmas.List.Elements.{recursion_from_All, All-from_recursion}
use Rattle.std.proofs.lemmas.List.Quantifiers.{position-Some}
use Rattle.bp_faults.specs.declared.ids.NodeId.{NodeId}
use Rattle.bp_faults.proofs.Lists.{all_map, apart_pairs, pairs_apart}
use Rattle.serial_pass.specs.Laws.{OutsAreMany}
use Rattle.graph_nodes.specs.declared.graph.Edge.{Edge}
use Rattle.graph_nodes.specs.declared.graph.EdgeKind.{EdgeKind}
use Rattle.graph_nodes.specs.declared.graph.Node.{Node}
use Rattle.graph_nodes.specs.declared.variation.Variation.{Variation}
use Rattle.graph_nodes.specs.declared.variation.Variation.TheVariants.{Empty}
use Rattle.graph_nodes.specs.Laws.{SameMeansEqual}
use Rattle.graph_nodes.specs.Nodes.{edges_at}
use Rattle.graph_nodes.specs.Same.{same}
use Rattle.module_graph.specs.declared.direction.Direction.TheVariants.{TopDown}
use Rattle.module_graph.specs.Graphs.{IsNumbered, IsValid}
use Rattle.module_graph.specs.Planned.{plan_of}
use Rattle.mutator_rules.specs.Arrivals.{arrivals}
use Rattle.mutator_rules.specs.Meaning.{TransitionMeaning}
use Rattle.variant_graphs.specs.Splits.{IsSplitting}
use Rattle.variant_graphs.specs.Splitting.{splitting}
use Rattle.transition_rules.specs.Laws.{WantsMeetTheirEquation}
use Rattle.transition_rules.specs.Passes.{WantsMeans, wanted_variants, SplitsDiffer}
use Rattle.transition_rules.specs.Wants.{others_of, handed_variation, wanted_variations, variations_meant}
use Rattle.transition_rules.proofs.Adding.{variations_differ, has_wanted}
use Rattle.transition_rules.proofs.Members.{Has, has_all, has_left, has_right, has_image, all_have, none_at_position}
use Rattle.transition_rules.proofs.Members.{edges_arrive, edges_at_is}

map_id : {A : Type 0} (xs : List A) → map (λ x. x) xs ≡ xs
map_id [] = refl
map_id (x ∷ xs) = ap (λ l. x ∷ l) (map_id xs)

-- an index that is found is one of the list
index_within : {X : Type 0} (p : X → Bool) (xs : List X) (i : ℕ) (d : X) → position p xs ≡ Some i → i < length xs
index_within p xs i d is = (position-Some p xs i d is).0

module _ {P : Type 0} (many : OutsAreMany (List Variation)) (equations : WantsMeetTheirEquation P)
    (means : SameMeansEqual) (m : TransitionMeaning P) (nodes : List (Node P)) (lists : List (List Variation))
    (numbered : IsNumbered nodes) (valid : IsValid nodes) (wants : WantsMeans m nodes (Ok lists)) where
  pub many_lists : length lists ≡ length nodes
  many_lists = many (variations_meant m nodes) (plan_of TopDown nodes) lists wants

  abbrev list_of : NodeId × EdgeKind → List Variation
  list_of a = get_or lists a.0.0 []

  equation : (n : ℕ) → n < length nodes → (own : List Variation) × (m.split nodes n ≡ Ok own)
      × (get_or lists n [] ≡ own ++ others_of own
      (wanted_variations m nodes n (arrivals nodes n) (map (λ a. get_or lists a.0.0 []) (arrivals nodes n))))
  equation n lt = equations m nodes lists n numbered valid wants lt

  -- what a variant of the source wants along an edge is wanted
  wanted_along : (n : ℕ) (arrived : List (NodeId × EdgeKind)) (a : NodeId × EdgeKind) (v : Variation) → Has arrived a
      → Has (get_or lists a.0.0 []) v → Has (wanted_variations m nodes n arrived
      (map (λ a. get_or lists a.0.0 []) arrived)) (handed_variation m nodes n a v)
  wanted_along n [] a v at has = absurd at
  wanted_along n (b ∷ arrived) a v (inl e) has =
      has_left (map (handed_variation m nodes n b) (list_of b))
      (wanted_variations m nodes n arrived (map (λ a. get_or lists a.0.0 []) arrived)) (handed_variation m nodes n a v)
      (subst (λ (c : NodeId × EdgeKind). Has (map (handed_variation m nodes n b) (list_of b))
      (handed_variation m nodes n c v)) e (has_image (handed_variation m nodes n b) (list_of b) v
      (subst (λ (c : NodeId × EdgeKind). Has (list_of c) v) (sym e) has)))
  wanted_along n (b ∷ arrived) a v (inr at) has =
      has_right (map (handed_variation m nodes n b) (list_of b)) (wanted_variations m nodes n arrived
      (map (λ a. get_or lists a.0.0 []) arrived)) (handed_variation m nodes n a v) (wanted_along n arrived a v at has)

  -- so its target has it
  has_handed : (t : ℕ) (a : NodeId × EdgeKind) (v : Variation) → t < length nodes → Has (arrivals nodes t) a
      → Has (get_or lists a.0.0 []) v → Has (get_or lists t []) (handed_variation m nodes t a v)
  has_handed t a v lt at has =
      let e = equation t lt in
      let ws = wanted_variations m nodes t (arrivals nodes t) (map (λ a. get_or lists a.0.0 []) (arrivals nodes t)) in
      let w = handed_variation m nodes t a v in
      subst (λ (l : List Variation). Has l (handed_variation m nodes t a v)) (sym e.2)
      (by e.0 ws w (has_wanted means e.0 [] ws w (wanted_along t (arrivals nodes t) a v at has)))
    where
      by : (own ws : List Variation) (w : Variation) → Has own w ⊎ Has (others_of own ws) w
          → Has (own ++ others_of own ws) w
      by own ws w (inl h) = has_left own (others_of own ws) w h
      by own ws w (inr h) = has_right own (others_of own ws) w h

  module _ (differ : SplitsDiffer m nodes) where
    differ_at : (n : ℕ) → n < length nodes → AllPairs (λ v w. v ≢ w) (get_or lists n [])
    differ_at n lt =
        let e = equation n lt in
        subst (λ (l : List Variation). AllPairs (λ v w. v ≢ w) l) (sym e.2)
        (pairs_apart (λ v w. v ≢ w) (e.0 ++ others_of e.0
        (wanted_variations m nodes n (arrivals nodes n) (map (λ a. get_or lists a.0.0 []) (arrivals nodes n))))
        (variations_differ means e.0 (wanted_variations m nodes n (arrivals nodes n)
        (map (λ a. get_or lists a.0.0 []) (arrivals nodes n))) (apart_pairs (λ v w. v ≢ w) e.0 (differ n e.0 lt e.1))))

    default_same : (n : ℕ) (d : List Variation) → n < length lists → get_or lists n d ≡ get_or lists n []
    default_same n d lt = get_or_default lists n d [] lt

    found : (n : ℕ) (v : Variation) (e : Edge) → n < length nodes → e.to.0 < length nodes → Has (get_or lists n []) v
        → Has {A = NodeId × EdgeKind} (arrivals nodes e.to.0) (record { 0 = n }, e.kind)
        → position (same (m.incoming nodes e.to.0 (m.outgoing nodes n e.kind v))) (get_or lists e.to.0 []) ≡ None → ⊥
    found n v e lt inside has at none =
        let w = handed_variation m nodes e.to.0 (record { 0 = n }, e.kind) v in
        let no_one = none_at_position (same w) (get_or lists e.to.0 []) none in
        let miss : same w w ≡ false = has_all (λ x. same w x ≡ false) (get_or lists e.to.0 []) w no_one
        (has_handed e.to.0 (record { 0 = n }, e.kind) v inside at has) in
        let hit : same w w ≡ true = (means w w).1 refl in
        true_false (sym hit ∙ miss)
      where
        true_false : ◌≡◌ {A = Bool} true false → ⊥
        true_false e = cc

    pub wants_split : IsSplitting (splitting (wanted_variants m nodes) lists) nodes
    wants_split = record {
      many = many_lists;
      differ =
          recursion_from_All (AllPairs (λ v w. v ≢ w)) lists (λ n d lt. subst (λ (l : List Variation).
          AllPairs (λ v w. v ≢ w) l) (sym (default_same n d lt)) (differ_at n (let k = many_lists in omega arith)));
      within = λ n v e index is.
          index_within (same (m.incoming nodes e.to.0 (m.outgoing nodes n e.kind v)))
          (get_or lists e.to.0 []) index Empty
          (ap (position (same (m.incoming nodes e.to.0 (m.outgoing nodes n e.kind v))))
          (sym (map_id (get_or lists e.to.0 [])))
          ∙ is);
      led =
          λ n lt. all_map (Has (get_or lists n []))
          (λ v. AllByRecursion (λ (e : Edge). position (same (m.incoming nodes e.to.0 (m.outgoing nodes n e.kind v)))
          (map (λ x. x) (get_or lists e.to.0 [])) ≡ None → length (get_or lists e.to.0 []) ≡ 0) (edges_at nodes n))
          (λ v has. all_both (edges_at nodes n) n v lt has (ends_at n lt) (edges_arrive nodes n lt)) (get_or lists n [])
          (all_have (get_or lists n []));
    }
      where
        ends_at : (n : ℕ) → n < length nodes → AllByRecursion (λ (e : Edge). e.to.0 < length nodes) (edges_at nodes n)
        ends_at n lt =
            let x = first nodes n lt in
            subst (λ (l : List Edge). AllByRecursion (λ (e : Edge). e.to.0 < length nodes) l)
            (sym (edges_at_is nodes n x lt)) (All-from_recursion (λ (x : Node P).
            AllByRecursion (λ (e : Edge). e.to.0 < length nodes) x.edges) nodes valid.ends n x lt)
          where
            first : (xs : List (Node P)) (n : ℕ) → n < length xs → Node P
            first [] n lt = absurd (omega arith)
            first (x ∷ xs) n lt = x

        all_both : (es : List Edge) (n : ℕ) (v : Variation) → n < length nodes → Has (get_or lists n []) v
            → AllByRecursion (λ (e : Edge). e.to.0 < length nodes) es → AllByRecursion (λ (e : Edge).
            Has {A = NodeId × EdgeKind} (arrivals nodes e.to.0) (record { 0 = n }, e.kind)) es
            → AllByRecursion (λ (e : Edge). position (same (m.incoming nodes e.to.0 (m.outgoing nodes n e.kind v)))
            (map (λ x. x) (get_or lists e.to.0 [])) ≡ None → length (get_or lists e.to.0 []) ≡ 0) es
        all_both [] n v lt has ends at = tt
        all_both (e ∷ es) n v lt has ends at = (
          λ none. absurd (found n v e lt ends.0 has at.0
              (ap (position (same (m.incoming nodes e.to.0 (m.outgoing nodes n e.kind v))))
              (sym (map_id (get_or lists e.to.0 []))) ∙ none)),
          all_both es n v lt has ends.1 at.1,
        )
