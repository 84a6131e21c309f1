-- What a pass comes to, where its visits mean what a step makes of their nodes.
use Rattle.std.proofs.Common.{◌≡◌, ◌<◌, ◌≤◌, ◌+◌, ℕ, zero, suc, List, [], ◌∷◌, map, Option, Some, None, Result, Ok, Err}
use Rattle.std.proofs.Common.{refl, sym, ap, subst, ◌∙◌, arith}
use Rattle.std.specs.Prelude.{⊤}
use Rattle.std.specs.Result.{IsOk, is_ok}
use Rattle.std.specs.List.{AllByRecursion, range_with_len}
use Rattle.bp_faults.specs.declared.fault.Fault.{Fault}
use Rattle.bp_faults.specs.Order.{Gathers}
use Rattle.serial_pass.specs.declared.plan.Plan.{Plan}
use Rattle.serial_pass.specs.Plans.{IsPlan, HasNoCycle, predecessors}
use Rattle.serial_pass.specs.Heights.{height}
use Rattle.serial_pass.specs.Outcomes.{PassMeans}
use Rattle.serial_pass.specs.Results.{NodeResult, Done, Bad, Poisoned, IsDone, cons_if, all_outs, result_of_visit}
use Rattle.serial_pass.specs.Results.{judged_result, node_result}
use Rattle.serial_pass.proofs.Unrolled.{result_equation}
use Rattle.serial_pass.proofs.Induction.{plan_induction}

all_range : (P : ℕ → Type 0) (a n : ℕ) → ((k : ℕ) → a ≤ k → k < a + n → P k) → AllByRecursion P (range_with_len a n)
all_range P a zero h = tt
all_range P a (suc n) h =
    (h a (omega arith) (omega arith), all_range P (a + 1) n (λ k le lt. h k (omega arith) (omega arith)))

module _ {O : Type 0} where
  -- what became of a node is what the step makes of it
  abbrev Settled : NodeResult O → Result O Fault → Type 0
  Settled (Done out) made = made ≡ Ok out
  Settled (Bad fault) made = made ≡ Err fault
  Settled Poisoned made = ⊤

  settled_visit : (r made : Result O Fault) → r ≡ made → Settled (result_of_visit r) made
  settled_visit (Ok out) made same = sym same
  settled_visit (Err fault) made same = sym same

  settled_ok : (r : NodeResult O) (made : Result O Fault) → IsDone r → Settled r made → IsOk made
  settled_ok (Done out) made done same = ap is_ok same
  settled_ok (Bad fault) made done same = absurd done
  settled_ok Poisoned made done same = absurd done

  module _ (step : ℕ → Result O Fault) (f : ℕ → NodeResult O) where
    one_out : (m : ℕ) (ms : List ℕ) (r : NodeResult O) (rest : Option (List O)) → f m ≡ r → all_outs (map f ms) ≡ rest
        → Settled r (step m) → ((outs : List O) → rest ≡ Some outs → map Ok outs ≡ map step ms)
        → (outs : List O) → all_outs (r ∷ map f ms) ≡ Some outs → map Ok outs ≡ map step (m ∷ ms)
    one_out m ms (Done out) None is rest_is here behind outs h =
        let e : cons_if out None ≡ Some outs = ap (cons_if out) (sym rest_is) ∙ h in cc
    one_out m ms (Done out) (Some more) is rest_is here behind outs h =
        let e : cons_if out (Some more) ≡ Some outs = ap (cons_if out) (sym rest_is) ∙ h in
        let same : out ∷ more ≡ outs = cc in
        subst (λ l. map Ok l ≡ map step (m ∷ ms)) same
        (let back = sym here in let others = behind more refl in λ i. back i ∷ others i)
    one_out m ms (Bad fault) rest is rest_is here behind outs h = cc
    one_out m ms Poisoned rest is rest_is here behind outs h = cc

    -- where all are done, their outs are what the step makes
    outs_settled : (ms : List ℕ) → AllByRecursion (λ m. Settled (f m) (step m)) ms → (outs : List O)
        → all_outs (map f ms) ≡ Some outs → map Ok outs ≡ map step ms
    outs_settled [] h [] e = refl
    outs_settled [] h (x ∷ xs) e = cc
    outs_settled (m ∷ ms) h outs e = one_out m ms (f m) (all_outs (map f ms)) refl refl h.0 (outs_settled ms h.1) outs e

    done_settled : (ms : List ℕ) → AllByRecursion (λ m. Settled (f m) (step m)) ms → (outs : List O)
        → map Done outs ≡ map f ms → map Ok outs ≡ map step ms
    done_settled [] h [] e = refl
    done_settled [] h (x ∷ xs) e = cc
    done_settled (m ∷ ms) h [] e = cc
    done_settled (m ∷ ms) h (x ∷ xs) e =
        let here : f m ≡ Done x = cc in
        let back : map Done xs ≡ map f ms = cc in
        let made : Ok x ≡ step m = sym (subst (λ r. Settled r (step m)) here h.0) in
        let rest = done_settled ms h.1 xs back in λ i. made i ∷ rest i

  module _ (mean : ℕ → List O → Result O Fault) (step : ℕ → Result O Fault) (plan : Plan) (is_plan : IsPlan plan)
      (free : HasNoCycle plan.edges)
      (right : (n : ℕ) (outs : List O) → n < plan.count → map Ok outs ≡ map step (predecessors plan.edges n)
      → mean n outs ≡ step n) where
    judged_settled : (n : ℕ) → n < plan.count → (outs : Option (List O))
        → all_outs (map (node_result mean plan) (predecessors plan.edges n)) ≡ outs
        → AllByRecursion (λ m. Settled (node_result mean plan m) (step m)) (predecessors plan.edges n)
        → Settled (judged_result (mean n) outs) (step n)
    judged_settled n lt None e h = tt
    judged_settled n lt (Some outs) e h =
        settled_visit (mean n outs) (step n)
        (right n outs lt (outs_settled step (node_result mean plan) (predecessors plan.edges n) h outs e))

    node_settled : (n : ℕ) → n < plan.count → Settled (node_result mean plan n) (step n)
    node_settled = plan_induction plan is_plan.ends free (λ n. Settled (node_result mean plan n) (step n))
        (λ n lt h. subst (λ r. Settled r (step n)) (sym (result_equation plan is_plan.ends free mean n lt))
        (judged_settled n lt (all_outs (map (node_result mean plan) (predecessors plan.edges n))) refl h))

    pub pass_gathers : (outcome : Result (List O) Fault) → PassMeans mean plan outcome
        → Gathers (height plan) plan.count step outcome
    pass_gathers (Ok outs) h =
        done_settled step (node_result mean plan) (range_with_len 0 plan.count) (all_range (λ n.
        Settled (node_result mean plan n) (step n)) 0 plan.count (λ k le lt. node_settled k (omega arith))) outs h
    pass_gathers (Err fault) h =
        let n = h.0 in
        let inside = h.1.0.inside in (
          n,
          record {
            inside = inside;
            here = subst (λ r. Settled r (step n)) h.1.1 (node_settled n inside);
            first =
                λ m lt precedes.
                settled_ok (node_result mean plan m) (step m) (h.1.0.first m lt precedes) (node_settled m lt);
          },
        )
