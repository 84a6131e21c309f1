-- A transition rule makes at most one thing of a graph.
use Rattle.std.proofs.Common.{◌≡◌, ◌∙◌, ◌≤◌, ap, subst, sym, List, length, ℕ, Some, None, Result, Ok, Err}
use Rattle.std.specs.Option.{option_map}
use Rattle.std.proofs.lemmas.Option.{slice_get_past}
use Rattle.bp_faults.specs.declared.fault.Fault.{Fault}
use Rattle.bp_faults.specs.declared.ids.ModuleId.{ModuleId}
use Rattle.bp_faults.specs.declared.limits.TheConstants.{MOST_EDGES, MOST_NODES}
use Rattle.bp_faults.specs.declared.place.Place.{Place}
use Rattle.serial_pass.specs.Laws.{AtMostOneOutcome}
use Rattle.graph_nodes.specs.declared.graph.Edge.{Edge}
use Rattle.graph_nodes.specs.declared.graph.Node.{Node}
use Rattle.graph_nodes.specs.declared.variation.Variation.{Variation}
use Rattle.module_graph.specs.declared.direction.Direction.TheVariants.{BottomUp, TopDown}
use Rattle.module_graph.specs.Planned.{plan_of}
use Rattle.mutator_rules.specs.Meaning.{TransitionMeaning}
use Rattle.mutator_rules.specs.Outcomes.{KindOutcome, Made, FaultAt, NodesBeyond, EdgesBeyond}
use Rattle.variant_graphs.specs.Limits.{IsFirstNodeBeyond, IsFirstEdgeBeyond}
use Rattle.variant_graphs.specs.Payloads.{with_payloads}
use Rattle.transition_rules.specs.Wants.{variations_meant}
use Rattle.transition_rules.specs.Passes.{WantsMeans, MutatedMeans, varied_graph, MutateMeans, StepsOn, TransitionMeans}
use Rattle.transition_rules.specs.Passes.{WantsMean}
use Rattle.graph_nodes.specs.Nodes.{all_edges}

same_some : {A : Type 0} (x y : A) → Some x ≡ Some y → x ≡ y
same_some x y e = cc

module _ {O : Type 0} where
  same_made : (xs ys : O) → ◌≡◌ {A = Result O (ℕ × Fault)} (Ok xs) (Ok ys) → xs ≡ ys
  same_made xs ys e = cc

  made_or_fault : (xs : O) (at : ℕ × Fault) → ◌≡◌ {A = Result O (ℕ × Fault)} (Ok xs) (Err at) → ⊥
  made_or_fault xs at e = cc

  same_fault : (a b : ℕ × Fault) → ◌≡◌ {A = Result O (ℕ × Fault)} (Err a) (Err b) → a ≡ b
  same_fault a b e = cc

module _ {P : Type 0} where
  few_not_beyond : (nodes : List (Node P)) (p : ModuleId) → length nodes ≤ MOST_NODES → IsFirstNodeBeyond nodes p → ⊥
  few_not_beyond nodes p few beyond =
      let e : None ≡ Some p =
      ap (option_map (λ (x : Node P). x.«module»)) (sym (slice_get_past nodes MOST_NODES few)) ∙ beyond in
      cc

  few_edges_not : (nodes : List (Node P)) (p : Place) → length (all_edges nodes) ≤ MOST_EDGES
      → IsFirstEdgeBeyond nodes p → ⊥
  few_edges_not nodes p few beyond =
      let e : None ≡ Some p =
      ap (option_map (λ (x : Edge). x.at)) (sym (slice_get_past (all_edges nodes) MOST_EDGES few)) ∙ beyond.beyond in
      cc

module _ {P : Type 0} (once : AtMostOneOutcome (List Variation)) (m : TransitionMeaning P) (nodes : List (Node P)) where
  wants_same : (r s : Result (List (List Variation)) (ℕ × Fault)) → WantsMeans m nodes r → WantsMeans m nodes s → r ≡ s
  wants_same r s a b = once (variations_meant m nodes) (plan_of TopDown nodes) r s a b

  lists_same : (a b : List (List Variation)) → WantsMeans m nodes (Ok a) → WantsMeans m nodes (Ok b) → a ≡ b
  lists_same a b x y = same_made a b (wants_same (Ok a) (Ok b) x y)

  never : (a : List (List Variation)) (at : ℕ × Fault) → WantsMeans m nodes (Ok a) → WantsMeans m nodes (Err at) → ⊥
  never a at x y = made_or_fault a at (wants_same (Ok a) (Err at) x y)

  pub one_wants : (x y : KindOutcome (List (Node P))) → WantsMean m nodes x → WantsMean m nodes y → x ≡ y
  one_wants (Made new) (Made other) a b =
      ap Made (a.3 ∙ ap (varied_graph m nodes) (lists_same a.0 b.0 a.1 b.1) ∙ sym b.3)
  one_wants (Made new) (FaultAt n f) a b = absurd (never a.0 (n, f) a.1 b)
  one_wants (Made new) (NodesBeyond p) a b =
      absurd (few_not_beyond (varied_graph m nodes a.0) p a.2.few_nodes
      (subst (λ l. IsFirstNodeBeyond (varied_graph m nodes l) p) (lists_same b.0 a.0 b.1 a.1) b.2))
  one_wants (Made new) (EdgesBeyond p) a b =
      absurd (few_edges_not (varied_graph m nodes a.0) p a.2.few_edges
      (subst (λ l. IsFirstEdgeBeyond (varied_graph m nodes l) p) (lists_same b.0 a.0 b.1 a.1) b.2))
  one_wants (FaultAt n f) (Made new) a b = absurd (never b.0 (n, f) b.1 a)
  one_wants (FaultAt n f) (FaultAt k g) a b =
      ap (λ (at : ℕ × Fault). FaultAt at.0 at.1)
      (same_fault {O = List (List Variation)} (n, f) (k, g) (wants_same (Err (n, f)) (Err (k, g)) a b))
  one_wants (FaultAt n f) (NodesBeyond p) a b = absurd (never b.0 (n, f) b.1 a)
  one_wants (FaultAt n f) (EdgesBeyond p) a b = absurd (never b.0 (n, f) b.1 a)
  one_wants (NodesBeyond p) (Made new) a b =
      absurd (few_not_beyond (varied_graph m nodes b.0) p b.2.few_nodes
      (subst (λ l. IsFirstNodeBeyond (varied_graph m nodes l) p) (lists_same a.0 b.0 a.1 b.1) a.2))
  one_wants (NodesBeyond p) (FaultAt n f) a b = absurd (never a.0 (n, f) a.1 b)
  one_wants (NodesBeyond p) (NodesBeyond q) a b =
      ap NodesBeyond (same_some p q
      (sym a.2 ∙ subst (λ l. IsFirstNodeBeyond (varied_graph m nodes l) q) (lists_same b.0 a.0 b.1 a.1) b.2))
  one_wants (NodesBeyond p) (EdgesBeyond q) a b =
      absurd (few_not_beyond (varied_graph m nodes b.0) p b.2.few_nodes
      (subst (λ l. IsFirstNodeBeyond (varied_graph m nodes l) p) (lists_same a.0 b.0 a.1 b.1) a.2))
  one_wants (EdgesBeyond p) (Made new) a b =
      absurd (few_edges_not (varied_graph m nodes b.0) p b.2.few_edges
      (subst (λ l. IsFirstEdgeBeyond (varied_graph m nodes l) p) (lists_same a.0 b.0 a.1 b.1) a.2))
  one_wants (EdgesBeyond p) (FaultAt n f) a b = absurd (never a.0 (n, f) a.1 b)
  one_wants (EdgesBeyond p) (NodesBeyond q) a b =
      absurd (few_not_beyond (varied_graph m nodes a.0) q a.2.few_nodes
      (subst (λ l. IsFirstNodeBeyond (varied_graph m nodes l) q) (lists_same b.0 a.0 b.1 a.1) b.2))
  one_wants (EdgesBeyond p) (EdgesBeyond q) a b =
      let c : IsFirstEdgeBeyond (varied_graph m nodes a.0) q =
      subst (λ l. IsFirstEdgeBeyond (varied_graph m nodes l) q) (lists_same b.0 a.0 b.1 a.1) b.2 in
      ap EdgesBeyond (same_some p q (sym a.2.beyond ∙ c.beyond))

module _ {P : Type 0} (once : AtMostOneOutcome P) (m : TransitionMeaning P) (nodes : List (Node P)) where
  mutated_same : (r s : Result (List P) (ℕ × Fault)) → MutatedMeans m nodes r → MutatedMeans m nodes s → r ≡ s
  mutated_same r s a b = once (m.mutate nodes) (plan_of BottomUp nodes) r s a b

  pub one_mutate : (x y : KindOutcome (List (Node P))) → MutateMeans m nodes x → MutateMeans m nodes y → x ≡ y
  one_mutate (Made new) (Made other) a b =
      ap Made (a.2 ∙ ap (with_payloads nodes) (same_made a.0 b.0 (mutated_same (Ok a.0) (Ok b.0) a.1 b.1)) ∙ sym b.2)
  one_mutate (Made new) (FaultAt n f) a b =
      absurd (made_or_fault a.0 (n, f) (mutated_same (Ok a.0) (Err (n, f)) a.1 b))
  one_mutate (FaultAt n f) (Made new) a b =
      absurd (made_or_fault b.0 (n, f) (mutated_same (Ok b.0) (Err (n, f)) b.1 a))
  one_mutate (FaultAt n f) (FaultAt k g) a b =
      ap (λ (at : ℕ × Fault). FaultAt at.0 at.1)
      (same_fault {O = List P} (n, f) (k, g) (mutated_same (Err (n, f)) (Err (k, g)) a b))
  one_mutate (NodesBeyond p) y a b = absurd a
  one_mutate (EdgesBeyond p) y a b = absurd a
  one_mutate (Made new) (NodesBeyond p) a b = absurd b
  one_mutate (Made new) (EdgesBeyond p) a b = absurd b
  one_mutate (FaultAt n f) (NodesBeyond p) a b = absurd b
  one_mutate (FaultAt n f) (EdgesBeyond p) a b = absurd b

module _ {P : Type 0} (wants : AtMostOneOutcome (List Variation)) (once : AtMostOneOutcome P) (m : TransitionMeaning P)
    (nodes : List (Node P)) where
  same_step : (first x y : KindOutcome (List (Node P))) → StepsOn first (MutateMeans m) x
      → StepsOn first (MutateMeans m) y → x ≡ y
  same_step (Made new) x y a b = one_mutate once m new x y a b
  same_step (FaultAt n f) x y a b = a ∙ sym b
  same_step (NodesBeyond p) x y a b = a ∙ sym b
  same_step (EdgesBeyond p) x y a b = a ∙ sym b

  pub one_transition : (x y : KindOutcome (List (Node P))) → TransitionMeans m nodes x → TransitionMeans m nodes y
      → x ≡ y
  one_transition x y a b =
      same_step b.0 x y
      (subst (λ first. StepsOn first (MutateMeans m) x) (one_wants wants m nodes a.0 b.0 a.1 b.1) a.2) b.2
