-- What holds of each result of a pass, where a visit whose arguments have it makes a result that has it.
use Rattle.std.proofs.Common.{ℕ, zero, suc, List, [], ◌∷◌, map, Option, Some, None, Result, Ok, Err, sym, subst}
use Rattle.std.specs.Prelude.{⊤}
use Rattle.std.specs.List.{AllByRecursion, range_with_len}
use Rattle.bp_faults.specs.declared.fault.Fault.{Fault}
use Rattle.bp_faults.proofs.Lists.{all_before}
use Rattle.serial_pass.specs.declared.plan.Plan.{Plan}
use Rattle.serial_pass.specs.Heights.{unroll}
use Rattle.serial_pass.specs.Outcomes.{PassOutcomeMeans}
use Rattle.serial_pass.specs.Plans.{predecessors}
use Rattle.serial_pass.specs.Results.{NodeResult, Done, Bad, Poisoned, result_of_visit, cons_if, all_outs}
use Rattle.serial_pass.specs.Results.{judged_result}
use Rattle.serial_pass.specs.Results.{node_result}
use Rattle.output_forms.proofs.Each.{IfThere, all_made}

-- An answer has a property, if it is a result.
abbrev pub IfResult : {O : Type 0} → (O → Type 0) → Result O Fault → Type 0
IfResult P (Ok out) = P out
IfResult P (Err fault) = ⊤

module _ {O : Type 0} (P : O → Type 0) where
  abbrev IfDone : NodeResult O → Type 0
  IfDone (Done out) = P out
  IfDone (Bad fault) = ⊤
  IfDone Poisoned = ⊤

  one_more : (out : O) (o : Option (List O)) → P out → IfThere (AllByRecursion P) o
      → IfThere (AllByRecursion P) (cons_if out o)
  one_more out None p h = tt
  one_more out (Some outs) p h = (p, h)

  gathered : (rs : List (NodeResult O)) → AllByRecursion IfDone rs → IfThere (AllByRecursion P) (all_outs rs)
  gathered [] h = tt
  gathered (Done out ∷ rs) h = one_more out (all_outs rs) h.0 (gathered rs h.1)
  gathered (Bad fault ∷ rs) h = tt
  gathered (Poisoned ∷ rs) h = tt

  visit_done : (r : Result O Fault) → IfResult P r → IfDone (result_of_visit r)
  visit_done (Ok out) h = h
  visit_done (Err fault) h = tt

  module _ (mean : ℕ → List O → Result O Fault)
      (keeps : (n : ℕ) (ins : List O) → AllByRecursion P ins → IfResult P (mean n ins)) where
    judged_done : (n : ℕ) (o : Option (List O)) → IfThere (AllByRecursion P) o → IfDone (judged_result (mean n) o)
    judged_done n None h = tt
    judged_done n (Some ins) h = visit_done (mean n ins) (keeps n ins h)

    unrolled : (before : ℕ → List ℕ) (depth n : ℕ)
        → IfDone (unroll before (λ n rs. judged_result (mean n) (all_outs rs)) Poisoned depth n)
    unrolled before zero n = tt
    unrolled before (suc depth) n =
        let rs = map (unroll before (λ n rs. judged_result (mean n) (all_outs rs)) Poisoned depth) (before n) in
        judged_done n (all_outs rs)
        (gathered rs (all_made IfDone (unroll before (λ n rs. judged_result (mean n) (all_outs rs)) Poisoned depth)
        (unrolled before depth) (before n)))

    results_done : (plan : Plan) (n : ℕ) → IfDone (node_result mean plan n)
    unfolding node_result
    results_done plan n = unrolled (predecessors plan.edges) plan.count n

    pub outs_have : (plan : Plan) (outs : List O) → PassOutcomeMeans mean plan (Ok outs) → AllByRecursion P outs
    outs_have plan outs is =
        all_before Done IfDone outs
        (subst (AllByRecursion IfDone) (sym is)
        (all_made IfDone (node_result mean plan) (results_done plan) (range_with_len 0 plan.count)))
