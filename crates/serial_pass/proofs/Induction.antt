-- Induction along the edges of a plan, and what follows from it.
use Rattle.std.proofs.Common.{◌≡◌, ◌<◌, ◌≤◌, ℕ, zero, suc, List, [], ◌∷◌, map, ap, arith, ◌∙◌, sym}
use Rattle.std.specs.Prelude.{Result}
use Rattle.std.specs.List.{AllByRecursion}
use Rattle.serial_pass.specs.declared.plan.PlanEdge.{PlanEdge}
use Rattle.bp_faults.specs.declared.fault.Fault.{Fault}
use Rattle.serial_pass.specs.declared.plan.Plan.{Plan}
use Rattle.serial_pass.specs.Plans.{predecessors, HaveEndsBelow, HasNoCycle}
use Rattle.serial_pass.specs.Results.{NodeResult, judged_result, all_outs, node_result}
use Rattle.serial_pass.specs.Heights.{above_all, height}
use Rattle.serial_pass.proofs.Unrolled.{result_equation, height_equation, tight, tight_below, tight_rises}
use Rattle.bp_faults.proofs.Lists.{all_map, both, map-same}
use Rattle.serial_pass.proofs.Predecessors.{all_predecessors}

above_at_most : (f : ℕ → ℕ) (k : ℕ) (ms : List ℕ) → AllByRecursion (λ m. f m < k) ms → above_all (map f ms) ≤ k
above_at_most f k [] h = omega arith
above_at_most f k (m ∷ ms) h = let rest = above_at_most f k ms h.1 in let here = h.0 in omega arith

module _ (plan : Plan) (below : HaveEndsBelow plan.count plan.edges) (free : HasNoCycle plan.edges) where
  lower_predecessors : (n : ℕ)
      → AllByRecursion (λ m. (m < plan.count) × (free.rank m < free.rank n)) (predecessors plan.edges n)
  lower_predecessors n = both (λ m. m < plan.count) (λ m. free.rank m < free.rank n) (predecessors plan.edges n)
      (all_predecessors (λ m k. m < plan.count) plan.edges n (all_map (λ (e : PlanEdge). (e.from.0 < plan.count)
      × (e.to.0 < plan.count)) (λ (e : PlanEdge). e.from.0 < plan.count) (λ e h. h.0) plan.edges below))
      (all_predecessors (λ m k. free.rank m < free.rank k) plan.edges n free.rises)

  module _ (P : ℕ → Type 0) (step : (n : ℕ) → n < plan.count → AllByRecursion P (predecessors plan.edges n) → P n) where
    go : (fuel n : ℕ) → n < plan.count → free.rank n < fuel → P n
    go zero n lt r = absurd (omega arith)
    go (suc k) n lt r =
        step n lt (all_map (λ m. (m < plan.count) × (free.rank m < free.rank n)) P
        (λ m h. go k m h.0 (let a = h.1 in omega arith)) (predecessors plan.edges n) (lower_predecessors n))

    -- what holds of a node where it holds of its predecessors holds of every node
    pub plan_induction : (n : ℕ) → n < plan.count → P n
    plan_induction n lt = go (suc (free.rank n)) n lt (omega arith)

  -- whatever meets the equation is the results
  pub result_unique : {O : Type 0} (mean : ℕ → List O → Result O Fault) (f : ℕ → NodeResult O)
      → ((n : ℕ) → n < plan.count → f n ≡ judged_result (mean n) (all_outs (map f (predecessors plan.edges n))))
      → (n : ℕ) → n < plan.count → f n ≡ node_result mean plan n
  result_unique mean f meets = plan_induction (λ n. f n ≡ node_result mean plan n)
      (λ n lt same. meets n lt
      ∙ ap (λ rs. judged_result (mean n) (all_outs rs))
      (map-same f (node_result mean plan) (predecessors plan.edges n) same)
      ∙ sym (result_equation plan below free mean n lt))

  -- a height is below the count
  pub height_below : (n : ℕ) → n < plan.count → height plan n < plan.count
  height_below n lt =
      let within = plan_induction (λ n. height plan n ≤ tight plan below free n)
      (λ n lt small. rw (height_equation plan below free n lt)
      (above_at_most (height plan) (tight plan below free n) (predecessors plan.edges n)
      (all_map (λ m. (height plan m ≤ tight plan below free m) × (tight plan below free m < tight plan below free n))
      (λ m. height plan m < tight plan below free n) (λ m h. omega (arith, h.0, h.1)) (predecessors plan.edges n)
      (both (λ m. height plan m ≤ tight plan below free m) (λ m. tight plan below free m < tight plan below free n)
      (predecessors plan.edges n) small (tight_rises plan below free n))))) n lt in
      let less = tight_below plan below free n lt in omega arith
