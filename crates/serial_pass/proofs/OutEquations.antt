-- The outs of a whole pass, node by node.
use Rattle.std.proofs.Common.{◌≡◌, ◌+◌, ◌<◌, ℕ, zero, suc, List, [], ◌∷◌, map, length, get_or, refl, ap, ◌∙◌, sym}
use Rattle.std.proofs.Common.{arith, Some, Result, Ok, Err}
use Rattle.std.specs.List.{AllByRecursion}
use Rattle.std.proofs.lemmas.List.{length-map}
use Rattle.std.proofs.lemmas.List.FromFn.{length-map-range_with_len, get_or-map-range_with_len}
use Rattle.bp_faults.specs.declared.fault.Fault.{Fault}
use Rattle.serial_pass.specs.declared.plan.Plan.{Plan}
use Rattle.serial_pass.specs.declared.plan.PlanEdge.{PlanEdge}
use Rattle.serial_pass.specs.Plans.{IsPlan, HasNoCycle, predecessors}
use Rattle.serial_pass.specs.Results.{Done, result_of_visit, all_outs, judged_result, node_result, cons_if}
use Rattle.serial_pass.specs.Outcomes.{PassOutcomeMeans}
use Rattle.serial_pass.proofs.Unrolled.{result_equation}
use Rattle.serial_pass.proofs.Predecessors.{all_predecessors}
use Rattle.bp_faults.proofs.Lists.{map-same, all_map}

module _ {O : Type 0} where
  visited_done : (r : Result O Fault) (out : O) → result_of_visit r ≡ Done out → r ≡ Ok out
  visited_done (Ok o) out h = let e : o ≡ out = cc in ap Ok e
  visited_done (Err f) out h = cc

  outs_of_done : (outs : List O) → all_outs (map Done outs) ≡ Some outs
  outs_of_done [] = refl
  outs_of_done (o ∷ outs) = ap (cons_if o) (outs_of_done outs)

  map_done : (f : ℕ → O) (ns : List ℕ) → map (λ n. Done (f n)) ns ≡ map Done (map f ns)
  map_done f [] = refl
  map_done f (n ∷ ns) = ap (λ l. Done (f n) ∷ l) (map_done f ns)

  module _ (mean : ℕ → List O → Result O Fault) (plan : Plan) (outs : List O)
      (outcome : PassOutcomeMeans mean plan (Ok outs)) where
    pub many_outs : length outs ≡ plan.count
    many_outs =
        sym (length-map outs Done) ∙ ap length outcome ∙ length-map-range_with_len (node_result mean plan) 0 plan.count

    get_done : (outs : List O) (n : ℕ) (d : O) → n < length outs
        → get_or (map Done outs) n (Done d) ≡ Done (get_or outs n d)
    get_done [] n d lt = absurd (omega arith)
    get_done (o ∷ outs) zero d lt = refl
    get_done (o ∷ outs) (suc n) d lt = get_done outs n d (omega arith)

    pub result_at : (n : ℕ) (d : O) → n < plan.count → node_result mean plan n ≡ Done (get_or outs n d)
    result_at n d lt =
        let z : 0 + n ≡ n = omega arith in
        sym (get_or-map-range_with_len (node_result mean plan) 0 plan.count n n (Done d) lt z)
        ∙ ap (λ l. get_or l n (Done d)) (sym outcome)
        ∙ get_done outs n d (let m = many_outs in omega arith)

    module _ (is_plan : IsPlan plan) (free : HasNoCycle plan.edges) where
      predecessors_inside : (n : ℕ) → AllByRecursion (λ m. m < plan.count) (predecessors plan.edges n)
      predecessors_inside n =
          all_predecessors (λ m k. m < plan.count) plan.edges n (all_map (λ (e : PlanEdge). (e.from.0 < plan.count)
          × (e.to.0 < plan.count)) (λ (e : PlanEdge). e.from.0 < plan.count) (λ e h. h.0) plan.edges is_plan.ends)

      pub out_equation : (n : ℕ) (d : O) → n < plan.count
          → mean n (map (λ m. get_or outs m d) (predecessors plan.edges n)) ≡ Ok (get_or outs n d)
      out_equation n d lt =
          let ins = predecessors plan.edges n in
          let befores : map (node_result mean plan) (predecessors plan.edges n)
          ≡ map Done (map (λ m. get_or outs m d) (predecessors plan.edges n)) =
          map-same (node_result mean plan) (λ m. Done (get_or outs m d)) ins (all_map (λ m. m < plan.count)
          (λ m. node_result mean plan m ≡ Done (get_or outs m d)) (λ m h. result_at m d h) ins (predecessors_inside n))
          ∙ map_done (λ m. get_or outs m d) ins in
          visited_done (mean n (map (λ m. get_or outs m d) ins)) (get_or outs n d)
          (ap (judged_result (mean n)) (sym (ap all_outs befores ∙ outs_of_done (map (λ m. get_or outs m d) ins)))
          ∙ sym (result_equation plan is_plan.ends free mean n lt)
          ∙ result_at n d lt)
