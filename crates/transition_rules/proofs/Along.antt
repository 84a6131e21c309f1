-- What is wanted along one edge more.
use Rattle.std.proofs.Common.{◌≡◌, ◌+◌, ◌<◌, ◌++◌, ℕ, List, [], ◌∷◌, map, length, take, get_or, fold, refl, ap, ◌∙◌}
use Rattle.std.proofs.Common.{sym, arith, append-nil, append_assoc, Result, Ok, Err}
use Rattle.std.proofs.lemmas.List.{take_more, map-append, length-take-le, length-map}
use Rattle.std.proofs.lemmas.List.Sums.{fold-append}
use Rattle.bp_faults.specs.declared.ids.NodeId.{NodeId}
use Rattle.bp_faults.specs.Answers.{then_do}
use Rattle.graph_nodes.specs.declared.graph.EdgeKind.{EdgeKind}
use Rattle.graph_nodes.specs.declared.graph.Node.{Node}
use Rattle.graph_nodes.specs.declared.variation.Variation.{Variation}
use Rattle.mutator_rules.specs.Meaning.{TransitionMeaning}
use Rattle.transition_rules.specs.Wants.{wants_with, others_of, handed_variation, wanted_variations}

pub then_do_ok : {A B E : Type 0} (r : Result A E) (f : A → Result B E) (b : B) → then_do r f ≡ Ok b
    → (a : A) × (r ≡ Ok a) × (f a ≡ Ok b)
then_do_ok (Ok a) f b h = (a, refl, h)
then_do_ok (Err e) f b h = cc

module _ {P : Type 0} (m : TransitionMeaning P) (nodes : List (Node P)) (n : ℕ) where
  wanted_push : (arrived : List (NodeId × EdgeKind)) (lists : List (List Variation)) (a : NodeId × EdgeKind)
      (vs : List Variation) → length arrived ≡ length lists → wanted_variations m nodes n (arrived ++ a ∷ [])
      (lists ++ vs ∷ []) ≡ wanted_variations m nodes n arrived lists ++ map (handed_variation m nodes n a) vs
  wanted_push [] [] a vs same = append-nil (map (handed_variation m nodes n a) vs)
  wanted_push [] (l ∷ lists) a vs same = absurd (omega arith)
  wanted_push (b ∷ arrived) [] a vs same = absurd (omega arith)
  wanted_push (b ∷ arrived) (l ∷ lists) a vs same =
      ap (λ r. map (handed_variation m nodes n b) l ++ r) (wanted_push arrived lists a vs (omega arith))
      ∙ sym (append_assoc (map (handed_variation m nodes n b) l) (wanted_variations m nodes n arrived lists)
      (map (handed_variation m nodes n a) vs))

  -- a loop's step
  pub wanted_more : {B : Type 0} (value : B → List Variation) (own : List Variation)
      (arrived : List (NodeId × EdgeKind)) (bs : List B) (i : ℕ) (a : NodeId × EdgeKind) (b : B) → i < length arrived
      → length bs ≡ length arrived
      → others_of own (wanted_variations m nodes n (take (i + 1) arrived) (map value (take (i + 1) bs)))
      ≡ fold (wants_with own) (others_of own (wanted_variations m nodes n (take i arrived) (map value (take i bs))))
      (map (handed_variation m nodes n (get_or arrived i a)) (value (get_or bs i b)))
  wanted_more value own arrived bs i a b lt many =
      let lists = map value (take i bs) in
      let long : length (take i arrived) ≡ length (map value (take i bs)) =
      length-take-le i arrived (omega arith) ∙ sym (length-map (take i bs) value ∙ length-take-le i bs (omega arith)) in
      ap (λ (l : List (NodeId × EdgeKind)). others_of own (wanted_variations m nodes n l (map value (take (i + 1) bs))))
      (take_more arrived i a lt)
      ∙ ap (λ (l : List (List Variation)).
      others_of own (wanted_variations m nodes n (take i arrived ++ get_or arrived i a ∷ []) l))
      (ap (map value) (take_more bs i b (omega arith)) ∙ map-append value (take i bs) (get_or bs i b ∷ []))
      ∙ ap (others_of own) (wanted_push (take i arrived) lists (get_or arrived i a) (value (get_or bs i b)) long)
      ∙ fold-append (wants_with own) [] (wanted_variations m nodes n (take i arrived) lists)
      (map (handed_variation m nodes n (get_or arrived i a)) (value (get_or bs i b)))
