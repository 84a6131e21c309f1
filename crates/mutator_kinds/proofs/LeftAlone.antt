-- Passes of rules that leave every node as it is.
use Rattle.std.proofs.Common.{◌≡◌, ◌∙◌, ◌<◌, ◌+◌, ap, subst, sym, refl, length, map, get_or, ℕ, zero, suc, List, []}
use Rattle.std.proofs.Common.{◌∷◌, Option, Some, None, Result, Ok, Err}
use Rattle.std.specs.Prelude.{slice_get, IsErr, IsErrAnd}
use Rattle.std.proofs.lemmas.List.{length-map}
use Rattle.bp_faults.specs.declared.fault.Fault.{Fault}
use Rattle.bp_faults.specs.declared.ids.NodeId.{NodeId}
use Rattle.bp_faults.proofs.Lists.{some_there}
use Rattle.graph_nodes.specs.declared.graph.Node.{Node}
use Rattle.graph_nodes.specs.declared.variation.Variation.{Variation}
use Rattle.graph_nodes.specs.declared.variation.Variation.TheVariants.{Empty}
use Rattle.graph_nodes.specs.declared.variations.Axis.{Axis}
use Rattle.graph_nodes.specs.Nodes.{NameNodes}
use Rattle.graph_nodes.specs.Numbered.{by_number}
use Rattle.mutator_rules.specs.declared.error.KindError.{KindError}
use Rattle.mutator_rules.specs.declared.error.KindError.TheVariants.{At, Nodes, Edges, OutOfMemory}
use Rattle.mutator_rules.specs.declared.request.Request.{Request}
use Rattle.mutator_rules.specs.declared.split.Split.{Split}
use Rattle.mutator_rules.specs.Idle.{left_alone}
use Rattle.mutator_rules.specs.Outcomes.{AnswersKind, Made}
use Rattle.variant_graphs.specs.declared.error.StepError.{StepError}
use Rattle.variant_graphs.specs.declared.error.StepError.TheVariants.{Kind}
use Rattle.variant_graphs.specs.Laws.{SplitsOfOneKeep}
use Rattle.variant_graphs.specs.Limits.{AnswersLimits, IsWithinLimits, IsFirstNodeBeyond, IsFirstEdgeBeyond}
use Rattle.variant_graphs.specs.Payloads.{with_payloads}
use Rattle.variant_graphs.specs.Splitting.{splitting}
use Rattle.variant_graphs.specs.Steps.{AnswersStep}
use Rattle.mutator_kinds.specs.BottomUp.{chosen, new_nodes, rule_along, variants_of, BottomUpMeans, IsFreeFor}
use Rattle.mutator_kinds.specs.BottomUp.{VisitsMeans}
use Rattle.mutator_kinds.proofs.InPlace.{chosen_of_one}

module _ {P : Type 0} where
  -- each node with its own payload
  pub with_own : (xs : List (Node P)) → xs ≡ with_payloads xs (map (λ (x : Node P). x.payload) xs)
  with_own [] = refl
  with_own (x ∷ xs) = ap (λ (l : List (Node P)). x ∷ l) (with_own xs)

  -- without an axis the graph is kept
  new_alone : (xs : List (Node P)) → new_nodes None xs (map left_alone xs) ≡ xs
  new_alone [] = refl
  new_alone (x ∷ xs) = ap (λ (l : List (Node P)). x ∷ l) (new_alone xs)

  -- with one each node has one variant
  alone_at : (xs : List (Node P)) (n : ℕ) (x : Node P) → slice_get xs n ≡ Some x
      → get_or (variants_of (map left_alone xs)) n [] ≡ (Empty, x.payload) ∷ []
  alone_at [] n x is = cc
  alone_at (y ∷ ys) zero x is = let same : y ≡ x = cc in ap (λ (z : Node P). (Empty, z.payload) ∷ []) same
  alone_at (y ∷ ys) (suc n) x is = alone_at ys n x is

  led_first : (xs : List (Node P)) (t : ℕ) → t < length xs
      → chosen Empty (map (λ (b : Variation × P). b.0) (get_or (variants_of (map left_alone xs)) t [])) ≡ Some 0
  led_first xs t lt =
      let x = some_there xs t lt in
      ap (λ l. chosen Empty (map (λ (b : Variation × P). b.0) l)) (alone_at xs t x.0 x.1)
      ∙ chosen_of_one Empty (Empty ∷ []) refl

  pub kept_alone : SplitsOfOneKeep P (Variation × P) → (along : Option Axis) (nodes : List (Node P)) → NameNodes nodes
      → IsFreeFor along nodes → new_nodes along nodes (map left_alone nodes) ≡ nodes
  kept_alone keep None nodes ends free = new_alone nodes
  kept_alone keep (Some axis) nodes ends free =
      keep (splitting (rule_along axis) (variants_of (map left_alone nodes))) nodes ends free
      (length-map (map left_alone nodes) (λ (made : Split P). made.variants) ∙ length-map nodes left_alone)
      (λ n x at. ((Empty, x.payload), alone_at nodes n x at, refl, refl))
      (λ n e lt below. led_first nodes e.to.0 below)

  -- nothing is asked
  abbrev asks : ℕ → Split P → List (NodeId × Request)
  asks n made = map (λ r. (record { 0 = n }, r)) made.requests

  none_asked : (k : ℕ) (xs : List (Node P)) → [] ≡ by_number asks k (map left_alone xs)
  none_asked k [] = refl
  none_asked k (x ∷ xs) = none_asked (k + 1) xs

  module _ (mean : List (Node P) → ℕ → List (Split P) → Result (Split P) Fault) (nodes : List (Node P))
      (visits : VisitsMeans mean nodes (Ok (map left_alone nodes))) (along : Option Axis)
      (kept : new_nodes along nodes (map left_alone nodes) ≡ nodes) where
    pub graph_kept : IsWithinLimits nodes → BottomUpMeans mean nodes along (Made (nodes, []))
    graph_kept within = (
      map left_alone nodes,
      visits,
      (subst IsWithinLimits (sym kept) within, sym kept, none_asked 0 nodes),
    )

    -- so it is too large where the old graph is
    module _ {T : Type 0} (view : T → List (Node P) × List (NodeId × Request)) (Refuses : Fault → Type 0) where
      abbrev over : KindError → Result (Unit {0}) KindError
      over error = Err error

      abbrev StepAnswers : Result T StepError → Type 0
      StepAnswers = AnswersStep view (BottomUpMeans mean nodes along) Refuses

      beyond : (error : KindError) → AnswersLimits nodes (over error)
          → AnswersKind view (BottomUpMeans mean nodes along) (Err error)
      beyond (At n fault) h = absurd h
      beyond (Nodes m) h =
          (map left_alone nodes, visits, subst (λ xs. IsFirstNodeBeyond xs m) (sym kept) h)
      beyond (Edges p) h =
          (map left_alone nodes, visits, subst (λ xs. IsFirstEdgeBeyond xs p) (sym kept) h)
      beyond OutOfMemory h = tt

      pub limits_end : (error : KindError) (r : Result T StepError) → AnswersLimits nodes (over error)
          → IsErr r → IsErrAnd r (λ e. e ≡ Kind error) → StepAnswers r
      limits_end error (Ok x) h err eq = cc
      limits_end error (Err e) h err eq = subst (λ x. StepAnswers (Err x)) (sym eq) (beyond error h)
