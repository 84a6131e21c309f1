-- What the steps of a transition come to together.
use Rattle.std.proofs.Common.{◌≡◌, refl, subst, List, Option, Some, None, Result, Ok, Err}
use Rattle.bp_faults.specs.declared.fault.Fault.{Fault}
use Rattle.graph_nodes.specs.declared.graph.Node.{Node}
use Rattle.graph_nodes.specs.declared.variation.Variation.{Variation}
use Rattle.mutator_rules.specs.declared.error.KindError.{KindError}
use Rattle.mutator_rules.specs.declared.error.KindError.TheVariants.{At, Nodes, Edges, OutOfMemory}
use Rattle.mutator_rules.specs.Meaning.{TransitionMeaning}
use Rattle.mutator_rules.specs.Outcomes.{Made, FaultAt, NodesBeyond, EdgesBeyond, AnswersKind}
use Rattle.variant_graphs.specs.declared.error.StepError.{StepError}
use Rattle.variant_graphs.specs.declared.error.StepError.TheVariants.{Kind}
use Rattle.variant_graphs.specs.Splits.{AnswersSplit}
use Rattle.variant_graphs.specs.Splitting.{splitting}
use Rattle.variant_graphs.specs.Steps.{AnswersStep}
use Rattle.transition_rules.specs.Passes.{wanted_variants, WantsMeans, MutateMeans, TransitionMeans, WantsMean}

module _ {P T : Type 0} (m : TransitionMeaning P) (nodes : List (Node P)) where
  -- what is beyond the limits of the graph of the variants
  pub split_failed : (lists : List (List Variation)) → WantsMeans m nodes (Ok lists) → (view : T → List (Node P))
      (Refuses : Fault → Type 0) (e : KindError)
      → AnswersSplit (splitting (wanted_variants m nodes) lists) nodes (Err e)
      → AnswersStep view (WantsMean m nodes) Refuses (Err (Kind e))
  split_failed lists wants view Refuses (At n fault) h = absurd h
  split_failed lists wants view Refuses (Nodes at) h = (lists, wants, h)
  split_failed lists wants view Refuses (Edges at) h = (lists, wants, h)
  split_failed lists wants view Refuses OutOfMemory h = tt

  -- what the first step has in place of a graph is the outcome
  first_fails : {S : Type 0} (shown : S → List (Node P)) (view : T → List (Node P)) (e : KindError)
      → AnswersKind shown (WantsMean m nodes) (Err e) → AnswersKind view (TransitionMeans m nodes) (Err e)
  first_fails shown view (At n fault) h = (FaultAt n.0 fault, h, refl)
  first_fails shown view (Nodes at) h = (NodesBeyond at, h, refl)
  first_fails shown view (Edges at) h = (EdgesBeyond at, h, refl)
  first_fails shown view OutOfMemory h = tt

  -- and what the second has
  second_fails : {S : Type 0} (shown : S → List (Node P)) (view : T → List (Node P)) (new : List (Node P))
      → WantsMean m nodes (Made new) → (e : KindError)
      → AnswersKind shown (MutateMeans m new) (Err e) → AnswersKind view (TransitionMeans m nodes) (Err e)
  second_fails shown view new first (At n fault) h = (Made new, first, h)
  second_fails shown view new first (Nodes at) h = (Made new, first, h)
  second_fails shown view new first (Edges at) h = (Made new, first, h)
  second_fails shown view new first OutOfMemory h = tt

module _ {P S T : Type 0} (Refuses : Fault → Type 0) (m : TransitionMeaning P) (nodes : List (Node P))
    (shown : S → List (Node P)) (view : T → List (Node P)) where
  -- the same of a step's answer
  pub first_step : (e : KindError) (r : Result S StepError) → r ≡ Err (Kind e)
      → AnswersStep shown (WantsMean m nodes) Refuses r → AnswersKind view (TransitionMeans m nodes) (Err e)
  first_step e r is h =
      first_fails m nodes shown view e (subst (λ x. AnswersStep shown (WantsMean m nodes) Refuses x) is h)

  pub second_step : (new : List (Node P)) → WantsMean m nodes (Made new) → (e : KindError) (r : Result S StepError)
      → r ≡ Err (Kind e) → AnswersStep shown (MutateMeans m new) Refuses r
      → AnswersKind view (TransitionMeans m nodes) (Err e)
  second_step new first e r is h =
      second_fails m nodes shown view new first e (subst (λ x. AnswersStep shown (MutateMeans m new) Refuses x) is h)

pub none_some : {A : Type 0} (x : A) → ◌≡◌ {A = Option A} None (Some x) → ⊥
none_some x e = cc
