-- A kind of mutator makes one thing of a graph.
use Rattle.std.proofs.Common.{◌≡◌, ◌∙◌, ◌<◌, ◌⊎◌, inl, inr, ℕ, zero, suc, List, [], ◌∷◌, Option, Some, Result, Ok, Err}
use Rattle.std.proofs.Common.{length, ap, sym, subst, refl, arith}
use Rattle.std.specs.Prelude.{slice_get}
use Rattle.std.specs.Option.{option_map}
use Rattle.bp_faults.specs.declared.fault.Fault.{Fault}
use Rattle.bp_faults.specs.declared.ids.NodeId.{NodeId}
use Rattle.bp_faults.specs.declared.limits.TheConstants.{MOST_EDGES, MOST_NODES}
use Rattle.serial_pass.specs.declared.plan.Plan.{Plan}
use Rattle.serial_pass.specs.Laws.{AtMostOneOutcome}
use Rattle.serial_pass.specs.Outcomes.{PassOutcomeMeans}
use Rattle.graph_nodes.specs.declared.graph.Edge.{Edge}
use Rattle.graph_nodes.specs.declared.graph.EdgeKind.{EdgeKind}
use Rattle.graph_nodes.specs.declared.graph.Node.{Node}
use Rattle.graph_nodes.specs.declared.variations.Axis.{Axis}
use Rattle.module_graph.specs.declared.direction.Direction.TheVariants.{BottomUp, TopDown}
use Rattle.module_graph.specs.Planned.{plan_of}
use Rattle.mutator_rules.specs.declared.request.Request.{Request}
use Rattle.mutator_rules.specs.declared.split.Split.{Split}
use Rattle.mutator_rules.specs.Outcomes.{KindOutcome, Made, FaultAt, NodesBeyond, EdgesBeyond}
use Rattle.variant_graphs.specs.Payloads.{with_payloads}
use Rattle.mutator_kinds.specs.BottomUp.{new_nodes, ResultsMean, BottomUpMeans}
use Rattle.mutator_kinds.specs.TopDown.{from_above, TopDownMeans}
use Rattle.graph_nodes.specs.Nodes.{all_edges}

there : {X Y : Type 0} (f : X → Y) (xs : List X) (n : ℕ) (y : Y) → option_map f (slice_get xs n) ≡ Some y
    → n < length xs
there f [] n y is = cc
there f (x ∷ xs) zero y is = omega arith
there f (x ∷ xs) (suc n) y is = let rest = there f xs n y is in omega arith

same_value : {Y : Type 0} (o : Option Y) (x y : Y) → o ≡ Some x → o ≡ Some y → x ≡ y
same_value o x y a b = let e : Some x ≡ Some y = sym a ∙ b in cc

abbrev faulty : {G : Type 0} → ℕ × Fault → KindOutcome G
faulty at = FaultAt at.0 at.1

module _ {O : Type 0} where
  abbrev whole : List O → Result (List O) (ℕ × Fault)
  whole outs = Ok outs

  abbrev at_node : ℕ × Fault → Result (List O) (ℕ × Fault)
  at_node fault = Err fault

  whole_or_fault : {A : Type 0} (outs : List O) (fault : ℕ × Fault) → whole outs ≡ at_node fault → A
  whole_or_fault outs fault e = cc

  same_outs : (outs others : List O) → whole outs ≡ whole others → outs ≡ others
  same_outs outs others e = cc

  same_fault : {G : Type 0} (n m : ℕ) (f h : Fault) → at_node (n, f) ≡ at_node (m, h)
      → faulty {G = G} (n, f) ≡ faulty (m, h)
  same_fault n m f h e = let pair : (n, f) ≡ (m, h) = cc in ap faulty pair

  -- outcomes of passes with one outcome each, where all that follows from the results is one thing
  module _ {G : Type 0} (mean : ℕ → List O → Result O Fault) (plan : Plan) (one : AtMostOneOutcome O)
      (Follows : List O → KindOutcome G → Type 0)
      (once : (outs : List O) (a b : KindOutcome G) → Follows outs a → Follows outs b → a ≡ b) where
    -- how an outcome came about
    abbrev pub Came : KindOutcome G → Type 0
    Came a =
        ((outs : List O) × PassOutcomeMeans mean plan (whole outs) × Follows outs a)
        ⊎ ((n : ℕ) × (fault : Fault) × (a ≡ FaultAt n fault) × PassOutcomeMeans mean plan (at_node (n, fault)))

    pub came_once : (a b : KindOutcome G) → Came a → Came b → a ≡ b
    came_once a b (inl x) (inl y) =
        once y.0 a b (subst (λ (o : List O). Follows o a)
        (same_outs x.0 y.0 (one mean plan (whole x.0) (whole y.0) x.1 y.1)) x.2) y.2
    came_once a b (inl x) (inr y) =
        whole_or_fault x.0 (y.0, y.1) (one mean plan (whole x.0) (at_node (y.0, y.1)) x.1 y.3)
    came_once a b (inr x) (inl y) =
        whole_or_fault y.0 (x.0, x.1) (one mean plan (whole y.0) (at_node (x.0, x.1)) y.1 x.3)
    came_once a b (inr x) (inr y) =
        x.2 ∙ same_fault x.0 y.0 x.1 y.1 (one mean plan (at_node (x.0, x.1)) (at_node (y.0, y.1)) x.3 y.3) ∙ sym y.2

module _ {P : Type 0} (along : Option Axis) (nodes : List (Node P)) (outs : List (Split P)) where
  results_once : (a b : KindOutcome (List (Node P) × List (NodeId × Request))) → ResultsMean along nodes outs a
      → ResultsMean along nodes outs b → a ≡ b
  results_once (Made x) (Made y) h k = λ i. Made ((h.1 ∙ sym k.1) i, (h.2 ∙ sym k.2) i)
  results_once (Made x) (FaultAt n f) h k = absurd k
  results_once (Made x) (NodesBeyond m) h k =
      let few = h.0.few_nodes in
      let past = there (λ (x : Node P). x.«module») (new_nodes along nodes outs) MOST_NODES m k in
      absurd (omega arith)
  results_once (Made x) (EdgesBeyond p) h k =
      let few = h.0.few_edges in
      let past = there (λ (e : Edge). e.at) (all_edges (new_nodes along nodes outs)) MOST_EDGES p k.beyond in
      absurd (omega arith)
  results_once (FaultAt n f) b h k = absurd h
  results_once (NodesBeyond m) (Made y) h k =
      let few = k.0.few_nodes in
      let past = there (λ (x : Node P). x.«module») (new_nodes along nodes outs) MOST_NODES m h in
      absurd (omega arith)
  results_once (NodesBeyond m) (FaultAt n f) h k = absurd k
  results_once (NodesBeyond m) (NodesBeyond l) h k =
      ap NodesBeyond
      (same_value (option_map (λ (x : Node P). x.«module») (slice_get (new_nodes along nodes outs) MOST_NODES)) m l h k)
  results_once (NodesBeyond m) (EdgesBeyond p) h k =
      let few = k.few_nodes in
      let past = there (λ (x : Node P). x.«module») (new_nodes along nodes outs) MOST_NODES m h in
      absurd (omega arith)
  results_once (EdgesBeyond p) (Made y) h k =
      let few = k.0.few_edges in
      let past = there (λ (e : Edge). e.at) (all_edges (new_nodes along nodes outs)) MOST_EDGES p h.beyond in
      absurd (omega arith)
  results_once (EdgesBeyond p) (FaultAt n f) h k = absurd k
  results_once (EdgesBeyond p) (NodesBeyond m) h k =
      let few = h.few_nodes in
      let past = there (λ (x : Node P). x.«module») (new_nodes along nodes outs) MOST_NODES m k in
      absurd (omega arith)
  results_once (EdgesBeyond p) (EdgesBeyond q) h k =
      ap EdgesBeyond (same_value (option_map (λ (e : Edge). e.at)
      (slice_get (all_edges (new_nodes along nodes outs)) MOST_EDGES)) p q h.beyond k.beyond)

module _ {P : Type 0} (one : AtMostOneOutcome (Split P))
    (mean : List (Node P) → ℕ → List (Split P) → Result (Split P) Fault) (nodes : List (Node P))
    (along : Option Axis) where
  bottom_up_came : (a : KindOutcome (List (Node P) × List (NodeId × Request))) → BottomUpMeans mean nodes along a
      → Came (mean nodes) (plan_of BottomUp nodes) one (ResultsMean along nodes) (results_once along nodes) a
  bottom_up_came (Made x) h = inl h
  bottom_up_came (FaultAt n f) h = inr (n, f, refl, h)
  bottom_up_came (NodesBeyond m) h = inl h
  bottom_up_came (EdgesBeyond p) h = inl h

  pub bottom_up_once : (a b : KindOutcome (List (Node P) × List (NodeId × Request))) → BottomUpMeans mean nodes along a
      → BottomUpMeans mean nodes along b → a ≡ b
  bottom_up_once a b h k =
      came_once (mean nodes) (plan_of BottomUp nodes) one (ResultsMean along nodes) (results_once along nodes) a b
      (bottom_up_came a h) (bottom_up_came b k)

module _ {P : Type 0} (one : AtMostOneOutcome P) (mean : List (Node P) → ℕ → List EdgeKind → List P → Result P Fault)
    (nodes : List (Node P)) where
  abbrev Renews : List P → KindOutcome (List (Node P)) → Type 0
  Renews outs a = a ≡ Made (with_payloads nodes outs)

  renews_once : (outs : List P) (a b : KindOutcome (List (Node P))) → Renews outs a → Renews outs b → a ≡ b
  renews_once outs a b h k = h ∙ sym k

  top_down_came : (a : KindOutcome (List (Node P))) → TopDownMeans mean nodes a
      → Came (from_above mean nodes) (plan_of TopDown nodes) one Renews renews_once a
  top_down_came (Made new) h = inl (h.0, h.1, ap Made h.2)
  top_down_came (FaultAt n f) h = inr (n, f, refl, h)
  top_down_came (NodesBeyond m) h = absurd h
  top_down_came (EdgesBeyond p) h = absurd h

  pub top_down_once : (a b : KindOutcome (List (Node P))) → TopDownMeans mean nodes a → TopDownMeans mean nodes b
      → a ≡ b
  top_down_once a b h k =
      came_once (from_above mean nodes) (plan_of TopDown nodes) one Renews renews_once a b (top_down_came a h)
      (top_down_came b k)
