-- Results split a graph, or give its nodes their payloads.
use Rattle.std.proofs.Common.{◌≡◌, ◌≢◌, ◌∙◌, ◌<◌, ap, subst, sym, refl, arith, length, map, get_or, List, [], ◌∷◌, ◌++◌}
use Rattle.std.proofs.Common.{◌+◌, ℕ, Option, Some, None, Result, Ok, Err}
use Rattle.std.specs.Prelude.{unwrap_or}
use Rattle.std.specs.List.{AllByRecursion, AllPairs, position}
use Rattle.std.proofs.lemmas.List.{length-map}
use Rattle.std.proofs.lemmas.List.Elements.{recursion_from_All}
use Rattle.std.proofs.lemmas.List.Quantifiers.{position-Some}
use Rattle.bp_faults.specs.declared.fault.Fault.{Fault}
use Rattle.bp_faults.specs.declared.ids.NodeId.{NodeId}
use Rattle.bp_faults.proofs.Lists.{all_each}
use Rattle.serial_pass.specs.declared.plan.Plan.{Plan}
use Rattle.serial_pass.specs.Laws.{OutsMeetTheirEquation}
use Rattle.serial_pass.specs.Outcomes.{PassOutcomeMeans}
use Rattle.serial_pass.specs.Plans.{IsPlan, HasNoCycle}
use Rattle.graph_nodes.specs.declared.graph.Edge.{Edge}
use Rattle.graph_nodes.specs.declared.graph.Node.{Node}
use Rattle.graph_nodes.specs.declared.variation.Variation.{Variation}
use Rattle.graph_nodes.specs.declared.variations.Axis.{Axis}
use Rattle.graph_nodes.specs.Nodes.{edges_at}
use Rattle.graph_nodes.specs.Numbered.{by_number}
use Rattle.graph_nodes.specs.Same.{same}
use Rattle.module_graph.specs.Graphs.{IsNumbered, IsValid}
use Rattle.mutator_rules.specs.declared.request.Request.{Request}
use Rattle.mutator_rules.specs.declared.split.Split.{Split}
use Rattle.mutator_rules.specs.Shapes.{AreShaped, HasShape}
use Rattle.variant_graphs.specs.Laws.{HasModulesOf, SplitsStayValid, SplitsKeepModules, OtherAxesStayFree}
use Rattle.variant_graphs.specs.Laws.{NewPayloadsStayValid, NewPayloadsKeepModules, NewPayloadsLeaveAxesFree}
use Rattle.variant_graphs.specs.Limits.{IsWithinLimits}
use Rattle.variant_graphs.specs.Splits.{AnswersSplit, IsSplitting}
use Rattle.graph_nodes.specs.declared.graph.Graph.{Graph}
use Rattle.mutator_rules.specs.declared.error.KindError.{KindError}
use Rattle.mutator_rules.specs.declared.error.KindError.TheVariants.{At, Nodes, Edges, OutOfMemory}
use Rattle.mutator_rules.specs.Outcomes.{AnswersKind}
use Rattle.std.specs.Prelude.{IsErr, IsErrAnd}
use Rattle.variant_graphs.specs.Splitting.{splitting, StayFree}
use Rattle.mutator_kinds.specs.BottomUp.{chosen, rule_along, variants_of, first_payloads, asked_of, new_nodes}
use Rattle.mutator_kinds.specs.BottomUp.{ResultsMean, DifferFor, IsFreeFor}
use Rattle.mutator_kinds.specs.Inside.{AreFit, VariantsDiffer}

pub chosen_within : (v : Variation) (ws : List Variation) (index : ℕ) → chosen v ws ≡ Some index → index < length ws
chosen_within v [] index is = cc
chosen_within v (w ∷ ws) index is = by (position (same v) (w ∷ ws)) refl
  where
    by : (o : Option ℕ) → position (same v) (w ∷ ws) ≡ o → index < length (w ∷ ws)
    by None found =
        let z : 0 ≡ index = (let t : Some 0 ≡ Some index = ap (λ o. Some (unwrap_or o 0)) (sym found) ∙ is in cc) in
        omega arith
    by (Some i) found =
        let z : i ≡ index = (let t : Some i ≡ Some index = ap (λ o. Some (unwrap_or o 0)) (sym found) ∙ is in cc) in
        let within = (position-Some (same v) (w ∷ ws) i w found).0 in omega arith

pub chosen_none : (v : Variation) (ws : List Variation) → chosen v ws ≡ None → length ws ≡ 0
chosen_none v [] is = refl
chosen_none v (w ∷ ws) is = cc

abbrev wanting : ℕ → Request → NodeId × Request
wanting n r = (record { 0 = n }, r)

-- what holds of whatever the meaning gives holds of each result
module _ {O : Type 0} (mean : ℕ → List O → Result O Fault) (plan : Plan) (outs : List O)
    (equation : OutsMeetTheirEquation O) (is_plan : IsPlan plan) (free : HasNoCycle plan.edges)
    (outcome : PassOutcomeMeans mean plan (Ok outs)) (many : length outs ≡ plan.count) where
  pub all_outs : (Q : O → Type 0) → ((n : ℕ) (ins : List O) (out : O) → n < plan.count → mean n ins ≡ Ok out → Q out)
      → AllByRecursion Q outs
  all_outs Q each = recursion_from_All Q outs (λ n d lt. let inside : n < plan.count = omega (arith, many, lt) in
      each n _ (get_or outs n d) inside (equation mean plan outs n d is_plan free outcome inside))

module _ {P : Type 0} (axis : Axis) (nodes : List (Node P)) (outs : List (Split P)) (many : length outs ≡ length nodes)
    (differ : VariantsDiffer (Some axis) outs) where
  differ_all : (os : List (Split P))
      → AllByRecursion (λ (made : Split P). AllPairs (λ (b c : Variation × P). b.0 ≢ c.0) made.variants) os
      → AllByRecursion (AllPairs (λ (b c : Variation × P). b.0 ≢ c.0)) (variants_of os)
  differ_all [] h = tt
  differ_all (o ∷ os) h = (h.0, differ_all os h.1)

  abbrev theirs : ℕ → List (Variation × P)
  theirs n = get_or (variants_of outs) n []

  pub is_splitting : IsSplitting (splitting (rule_along axis) (variants_of outs)) nodes
  is_splitting = record {
    many = length-map outs (λ (made : Split P). made.variants) ∙ many;
    differ = differ_all outs differ;
    within = λ n v e index is.
        let within = chosen_within v (map (λ (b : Variation × P). b.0) (theirs e.to.0)) index is in
        let same_length = length-map (theirs e.to.0) (λ (b : Variation × P). b.0) in
        omega (arith, within, same_length);
    led =
        λ n lt. all_each (λ (b : Variation × P). AllByRecursion (λ (e : Edge). chosen b.0
        (map (λ (c : Variation × P). c.0) (theirs e.to.0)) ≡ None → length (theirs e.to.0) ≡ 0) (edges_at nodes n))
        (λ b. all_each (λ (e : Edge). chosen b.0 (map (λ (c : Variation × P). c.0) (theirs e.to.0)) ≡ None
        → length (theirs e.to.0) ≡ 0)
        (λ e none. sym (length-map (theirs e.to.0) (λ (c : Variation × P). c.0))
        ∙ chosen_none b.0 (map (λ (c : Variation × P). c.0) (theirs e.to.0)) none) (edges_at nodes n))
        (theirs n);
  }

module _ {P : Type 0} (axis : Axis) (outs : List (Split P)) (shaped : AllByRecursion (HasShape (Some axis)) outs) where
  abbrev asks : ℕ → Split P → List (NodeId × Request)
  asks n made = map (λ r. (record { 0 = n }, r)) made.requests

  nothing_asked : (k : ℕ) (os : List (Split P)) → AllByRecursion (HasShape (Some axis)) os → [] ≡ by_number asks k os
  nothing_asked k [] h = refl
  nothing_asked k (o ∷ os) h =
      nothing_asked (k + 1) os h.1
      ∙ ap (λ (rs : List Request). map (wanting k) rs ++ by_number asks (k + 1) os) (sym h.0)

  pub asks_nothing : [] ≡ asked_of outs
  asks_nothing = nothing_asked 0 outs shaped

-- results have their shape, and differ where the rule splits
module _ {P : Type 0} (mean : List (Node P) → ℕ → List (Split P) → Result (Split P) Fault) (nodes : List (Node P))
    (outs : List (Split P))
    (all : (Q : Split P → Type 0) → ((n : ℕ) (ins : List (Split P)) (out : Split P) → n < length nodes
    → mean nodes n ins ≡ Ok out → Q out) → AllByRecursion Q outs) where
  pub differ_outs : (along : Option Axis) → DifferFor mean nodes along → VariantsDiffer along outs
  differ_outs None differ = tt
  differ_outs (Some axis) differ =
      all (λ (made : Split P). AllPairs (λ (b c : Variation × P). b.0 ≢ c.0) made.variants)
      (λ n ins out lt h. differ n ins out lt h)

  pub fit_outs : (along : Option Axis) → AreShaped along mean → DifferFor mean nodes along → AreFit along outs
  fit_outs along shaped differ = record {
    shaped = all (HasShape along) (λ n ins out lt h. shaped nodes n ins out h);
    differ = differ_outs along differ;
  }

-- what is beyond the limits after a split
module _ {P T : Type 0} (view : T → List (Node P) × List (NodeId × Request)) (nodes : List (Node P))
    (outs : List (Split P)) where
  abbrev unmade : KindError → Result (Graph P) KindError
  unmade error = Err error

  split_beyond : (axis : Axis) (error : KindError)
      → AnswersSplit (splitting (rule_along axis) (variants_of outs)) nodes (unmade error)
      → AnswersKind view (ResultsMean (Some axis) nodes outs) (Err error)
  split_beyond axis (At n fault) h = absurd h
  split_beyond axis (Nodes m) h = h
  split_beyond axis (Edges p) h = h
  split_beyond axis OutOfMemory h = tt

  pub split_passed : (axis : Axis) (lists : List (List (Variation × P))) (error : KindError) (r : Result T KindError)
      → lists ≡ variants_of outs → AnswersSplit (splitting (rule_along axis) lists) nodes (unmade error) → IsErr r
      → IsErrAnd r (λ e. e ≡ error) → AnswersKind view (ResultsMean (Some axis) nodes outs) r
  split_passed axis lists error (Ok x) is h err eq = cc
  split_passed axis lists error (Err e) is h err eq =
      subst (λ x. AnswersKind view (ResultsMean (Some axis) nodes outs) (Err x)) (sym eq)
      (split_beyond axis error (subst (λ l. AnswersSplit (splitting (rule_along axis) l) nodes (unmade error)) is h))

-- what stays of the old graph in the new one
module _ {P : Type 0} (nodes : List (Node P)) (outs : List (Split P)) (many : length outs ≡ length nodes) where
  pub valid_after : (along : Option Axis) → SplitsStayValid P (Variation × P) → NewPayloadsStayValid P → IsValid nodes
      → IsFreeFor along nodes → VariantsDiffer along outs → IsValid (new_nodes along nodes outs)
  valid_after None split payloads valid free differ = payloads nodes (first_payloads nodes outs) valid
  valid_after (Some axis) split payloads valid free differ =
      split (splitting (rule_along axis) (variants_of outs)) nodes valid free (is_splitting axis nodes outs many differ)

  pub modules_after : (along : Option Axis) → SplitsKeepModules P (Variation × P) → NewPayloadsKeepModules P
      → IsNumbered nodes → VariantsDiffer along outs → IsWithinLimits (new_nodes along nodes outs)
      → HasModulesOf nodes (new_nodes along nodes outs)
  modules_after None split payloads numbered differ within = payloads nodes (first_payloads nodes outs) numbered
  modules_after (Some axis) split payloads numbered differ within =
      split (splitting (rule_along axis) (variants_of outs)) nodes numbered
      (is_splitting axis nodes outs many differ) within

  pub free_after : (along : Option Axis) → OtherAxesStayFree P (Variation × P) → NewPayloadsLeaveAxesFree P
      → StayFree along nodes (new_nodes along nodes outs)
  free_after None split payloads axis differ free = payloads nodes (first_payloads nodes outs) axis free
  free_after (Some along) split payloads axis differ free =
      split (splitting (rule_along along) (variants_of outs)) nodes axis (λ is. differ (ap Some (sym is))) free
