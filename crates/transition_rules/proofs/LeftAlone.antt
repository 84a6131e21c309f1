-- Passes of transitions that want nothing, or that keep the payloads.
use Rattle.std.proofs.Common.{◌≡◌, ◌∙◌, ◌<◌, ◌++◌, ap, subst, sym, refl, arith, length, map, get_or, fold}
use Rattle.std.proofs.Common.{ℕ, zero, suc, List, [], ◌∷◌, Some, Result, Ok, Err}
use Rattle.std.specs.Prelude.{Contains, slice_get}
use Rattle.std.specs.List.{AllByRecursion, position}
use Rattle.std.proofs.lemmas.List.{length-map}
use Rattle.std.proofs.lemmas.Option.{slice_get_within}
use Rattle.bp_faults.specs.declared.fault.Fault.{Fault}
use Rattle.bp_faults.specs.declared.ids.NodeId.{NodeId}
use Rattle.bp_faults.specs.Answers.{then_do}
use Rattle.bp_faults.proofs.Lists.{all_contained, all_map}
use Rattle.graph_nodes.specs.declared.graph.Edge.{Edge}
use Rattle.graph_nodes.specs.declared.graph.EdgeKind.{EdgeKind}
use Rattle.graph_nodes.specs.declared.graph.Node.{Node}
use Rattle.graph_nodes.specs.declared.variation.Variation.{Variation}
use Rattle.graph_nodes.specs.declared.variation.Variation.TheVariants.{Empty}
use Rattle.graph_nodes.specs.Same.{same}
use Rattle.module_graph.specs.declared.direction.Direction.TheVariants.{BottomUp, TopDown}
use Rattle.module_graph.specs.Graphs.{IsNumbered, IsValid}
use Rattle.mutator_rules.specs.declared.error.KindError.{KindError}
use Rattle.mutator_rules.specs.declared.error.KindError.TheVariants.{At, Nodes, Edges, OutOfMemory}
use Rattle.mutator_rules.specs.Arrivals.{arrivals}
use Rattle.mutator_rules.specs.Idle.{KeepsPayloads, WantsNothing}
use Rattle.mutator_rules.specs.Meaning.{TransitionMeaning}
use Rattle.mutator_rules.specs.Outcomes.{Made}
use Rattle.variant_graphs.specs.declared.error.StepError.TheVariants.{Kind}
use Rattle.variant_graphs.specs.Laws.{IdlePassesMake, SplitsOfOneKeep}
use Rattle.variant_graphs.specs.Limits.{AnswersLimits, IsWithinLimits, IsFirstNodeBeyond, IsFirstEdgeBeyond}
use Rattle.variant_graphs.specs.Payloads.{with_payloads}
use Rattle.variant_graphs.specs.Splitting.{splitting, HasFreeAxis}
use Rattle.variant_graphs.specs.Steps.{AnswersStep}
use Rattle.transition_rules.specs.Passes.{wanted_variants, varied_graph, WantsMeans, WantsMean, MutateMeans}
use Rattle.transition_rules.specs.Wants.{wants_with, others_of, handed_variation, wanted_variations, variations_meant}

abbrev AreEmpty : List Variation → Type 0
AreEmpty ws = AllByRecursion (λ w. w ≡ Empty) ws

abbrev empty_alone : {P : Type 0} → Node P → List Variation
empty_alone x = Empty ∷ []

none_added : wants_with (Empty ∷ []) [] Empty ≡ []
unfolding same
none_added = refl

-- where all that is wanted is empty, a node that is empty has no other variation
no_others : (ws : List Variation) → AreEmpty ws → others_of (Empty ∷ []) ws ≡ []
no_others [] h = refl
no_others (w ∷ ws) h =
    ap (λ (l : List Variation). fold (wants_with (Empty ∷ [])) l ws)
    (ap (wants_with (Empty ∷ []) []) h.0 ∙ none_added)
    ∙ no_others ws h.1

all_joined : (xs ys : List Variation) → AreEmpty xs → AreEmpty ys → AreEmpty (xs ++ ys)
all_joined [] ys h k = k
all_joined (x ∷ xs) ys h k = (h.0, all_joined xs ys h.1 k)

-- only lists of the empty variation alone stand among those of the nodes
each_empty_alone : {P : Type 0} (xs : List (Node P)) → AllByRecursion (λ l. l ≡ Empty ∷ []) (map empty_alone xs)
each_empty_alone [] = tt
each_empty_alone (x ∷ xs) = (refl, each_empty_alone xs)

all_empty_alone : {P : Type 0} (xs : List (Node P)) (ins : List (List Variation))
    → AllByRecursion (Contains (map empty_alone xs)) ins → AllByRecursion (λ l. l ≡ Empty ∷ []) ins
all_empty_alone xs ins within =
    all_map (Contains (map empty_alone xs)) (λ l. l ≡ Empty ∷ [])
    (λ l is. all_contained (λ l. l ≡ Empty ∷ []) (map empty_alone xs) l (each_empty_alone xs) is) ins within

module _ {P : Type 0} (m : TransitionMeaning P) (nodes : List (Node P)) (nothing : WantsNothing m nodes) where
  all_wanted_empty : (n : ℕ) (arrived : List (NodeId × EdgeKind)) (ins : List (List Variation)) → n < length nodes
      → AllByRecursion (λ l. l ≡ Empty ∷ []) ins → AreEmpty (wanted_variations m nodes n arrived ins)
  all_wanted_empty n [] ins lt h = tt
  all_wanted_empty n (a ∷ rest) [] lt h = tt
  all_wanted_empty n (a ∷ rest) (l ∷ ins) lt h =
      all_joined (map (handed_variation m nodes n a) l) (wanted_variations m nodes n rest ins)
      (subst (λ (k : List Variation). AreEmpty (map (handed_variation m nodes n a) k)) (sym h.0)
      (nothing.handed n a.0.0 a.1 lt, tt)) (all_wanted_empty n rest ins lt h.1)

  -- over such lists a node has the empty variation alone
  meant_empty : (n : ℕ) (ins : List (List Variation)) (x : Node P) → slice_get nodes n ≡ Some x
      → AllByRecursion (Contains (map empty_alone nodes)) ins → variations_meant m nodes n ins ≡ Ok (Empty ∷ [])
  meant_empty n ins x at within =
      let lt = slice_get_within nodes n x at in
      let ws = wanted_variations m nodes n (arrivals nodes n) ins in
      let none = no_others ws (all_wanted_empty n (arrivals nodes n) ins lt (all_empty_alone nodes ins within)) in
      ap (λ (r : Result (List Variation) Fault). then_do r (λ own. Ok (own ++ others_of own ws))) (nothing.own n lt)
      ∙ ap (λ (l : List Variation). Ok (Empty ∷ l)) none

  abbrev empties : List (List Variation)
  empties = map empty_alone nodes

  at_number : (xs : List (Node P)) (n : ℕ) → n < length xs → get_or (map empty_alone xs) n [] ≡ Empty ∷ []
  at_number [] n lt = absurd (omega arith)
  at_number (x ∷ xs) zero lt = refl
  at_number (x ∷ xs) (suc n) lt = at_number xs n (omega arith)

  found_first : position (same Empty) (Empty ∷ []) ≡ Some 0
  unfolding same
  found_first = refl

  leads_first : (n : ℕ) (e : Edge) → n < length nodes → e.to.0 < length nodes
      → (wanted_variants m nodes).lead n Empty e (map (λ v. v) (get_or empties e.to.0 [])) ≡ Some 0
  leads_first n e lt to =
      ap (λ w. position (same w) (map (λ v. v) (get_or empties e.to.0 []))) (nothing.handed e.to.0 n e.kind to)
      ∙ ap (λ (l : List Variation). position (same Empty) (map (λ v. v) l)) (at_number nodes e.to.0 to) ∙ found_first

  module _ (make : IdlePassesMake P (List Variation)) (keep : SplitsOfOneKeep P Variation)
      (numbered : IsNumbered nodes) (valid : IsValid nodes) (free : HasFreeAxis m.axis nodes) where
    -- the graph is kept
    all_empty : WantsMeans m nodes (Ok empties)
    all_empty = make TopDown nodes (variations_meant m nodes) empty_alone numbered valid meant_empty

    kept : varied_graph m nodes empties ≡ nodes
    kept =
        keep (splitting (wanted_variants m nodes) empties) nodes valid.ends free (length-map nodes empty_alone)
        (λ n x at. (Empty, at_number nodes n (slice_get_within nodes n x at), refl, refl)) leads_first

    pub graph_kept : IsWithinLimits nodes → WantsMean m nodes (Made nodes)
    graph_kept within = (empties, all_empty, subst IsWithinLimits (sym kept) within, sym kept)

    -- or it is beyond the limits as it was
    pub limits_end : {T : Type 0} (view : T → List (Node P)) (Refuses : Fault → Type 0) (error : KindError)
        → AnswersLimits nodes (Err error) → AnswersStep view (WantsMean m nodes) Refuses (Err (Kind error))
    limits_end view Refuses (At n fault) h = absurd h
    limits_end view Refuses (Nodes at) h =
        (empties, all_empty, subst (λ xs. IsFirstNodeBeyond xs at) (sym kept) h)
    limits_end view Refuses (Edges at) h =
        (empties, all_empty, subst (λ xs. IsFirstEdgeBeyond xs at) (sym kept) h)
    limits_end view Refuses OutOfMemory h = tt

-- payloads that are kept keep the graph
module _ {P : Type 0} where
  old_payloads : (xs : List (Node P)) → with_payloads xs (map (λ (x : Node P). x.payload) xs) ≡ xs
  old_payloads [] = refl
  old_payloads (x ∷ xs) = ap (λ (l : List (Node P)). x ∷ l) (old_payloads xs)

  pub payloads_kept : (m : TransitionMeaning P) (nodes : List (Node P)) → IdlePassesMake P P → IsNumbered nodes
      → IsValid nodes → KeepsPayloads (m.mutate nodes) nodes → MutateMeans m nodes (Made nodes)
  payloads_kept m nodes make numbered valid keeps = (
    map (λ (x : Node P). x.payload) nodes,
    make BottomUp nodes (m.mutate nodes) (λ x. x.payload) numbered valid keeps,
    sym (old_payloads nodes),
  )
