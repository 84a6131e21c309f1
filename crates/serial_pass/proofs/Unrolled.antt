-- The recursion over predecessors meets its equation where a numbering rises along every edge.
use Rattle.std.proofs.Common.{◌≡◌, ◌+◌, ◌<◌, ◌≤◌, ℕ, zero, suc, List, map, ap, arith, subst}
use Rattle.std.specs.Prelude.{if◌then◌else◌, nat_lt}
use Rattle.std.specs.List.{AllByRecursion}
use Rattle.std.proofs.lemmas.Bool.Decides.{nat_tests}
use mathlib.Core.Logic.{dite}
use native.Mathlib.Decide.{ℕ_discrete}
use Rattle.serial_pass.specs.declared.plan.PlanEdge.{PlanEdge}
use Rattle.bp_faults.specs.declared.fault.Fault.{Fault}
use Rattle.std.specs.Prelude.{Result}
use Rattle.serial_pass.specs.declared.plan.Plan.{Plan}
use Rattle.serial_pass.specs.Plans.{predecessors, HaveEndsBelow, HasNoCycle}
use Rattle.serial_pass.specs.Heights.{unroll, above_all, height}
use Rattle.serial_pass.specs.Results.{Poisoned, judged_result, all_outs, node_result}
use Rattle.bp_faults.proofs.Lists.{all_map, all_with, below_top, map-same}
use Rattle.serial_pass.proofs.Predecessors.{all_predecessors}

-- past a node's rank the depth makes no difference
pub unroll_deeper : {X : Type 0} (ins : ℕ → List ℕ) (rank : ℕ → ℕ)
    → ((n : ℕ) → AllByRecursion (λ m. rank m < rank n) (ins n)) → (step : ℕ → List X → X) (base : X)
    → (j k n : ℕ) → rank n < j → rank n < k → unroll ins step base j n ≡ unroll ins step base k n
unroll_deeper ins rank rises step base zero k n lj lk = absurd (omega arith)
unroll_deeper ins rank rises step base (suc j) zero n lj lk = absurd (omega arith)
unroll_deeper ins rank rises step base (suc j) (suc k) n lj lk =
    ap (step n) (map-same (unroll ins step base j) (unroll ins step base k) (ins n)
    (all_map (λ m. rank m < rank n) (λ m. unroll ins step base j m ≡ unroll ins step base k m)
    (λ m less. unroll_deeper ins rank rises step base j k m (omega arith) (omega arith)) (ins n) (rises n)))

pub unroll_equation : {X : Type 0} (ins : ℕ → List ℕ) (rank : ℕ → ℕ)
    → ((n : ℕ) → AllByRecursion (λ m. rank m < rank n) (ins n)) → (step : ℕ → List X → X) (base : X)
    → (depth n : ℕ) → rank n < depth → unroll ins step base depth n ≡ step n (map (unroll ins step base depth) (ins n))
unroll_equation ins rank rises step base zero n lt = absurd (omega arith)
unroll_equation ins rank rises step base (suc d) n lt =
    ap (step n) (map-same (unroll ins step base d) (unroll ins step base (suc d)) (ins n)
    (all_map (λ m. rank m < rank n) (λ m. unroll ins step base d m ≡ unroll ins step base (suc d) m)
    (λ m less. unroll_deeper ins rank rises step base d (suc d) m (omega arith) (omega arith)) (ins n) (rises n)))

-- how many numbers below k have a rank below r
abbrev pub lower : (ℕ → ℕ) → ℕ → ℕ → ℕ
lower rank r zero = 0
lower rank r (suc k) = (if nat_lt (rank k) r then 1 else 0) + lower rank r k

lower_le : (rank : ℕ → ℕ) (r k : ℕ) → lower rank r k ≤ k
lower_le rank r zero = omega arith
lower_le rank r (suc k) = let h = lower_le rank r k in grind (arith, nat_tests)

lower_mono : (rank : ℕ → ℕ) (r s k : ℕ) → r ≤ s → lower rank r k ≤ lower rank s k
lower_mono rank r s zero le = omega arith
lower_mono rank r s (suc k) le = let h = lower_mono rank r s k le in grind (arith, nat_tests)

lower_miss : (rank : ℕ → ℕ) (r n k : ℕ) → n < k → r ≤ rank n → lower rank r k < k
lower_miss rank r n zero lt le = absurd (omega arith)
lower_miss rank r n (suc k) lt le =
    dite (ℕ_discrete n k)
    (λ same. let bound = lower_le rank r k in
    let le' : r ≤ rank k = subst (λ x. r ≤ rank x) same le in
    grind (arith, nat_tests))
    (λ other. let h = lower_miss rank r n k (omega arith) le in grind (arith, nat_tests))

lower_less : (rank : ℕ → ℕ) (r s m k : ℕ) → m < k → rank m < s → r ≤ rank m → lower rank r k < lower rank s k
lower_less rank r s m zero lt a b = absurd (omega arith)
lower_less rank r s m (suc k) lt a b =
    dite (ℕ_discrete m k)
    (λ same. let more = lower_mono rank r s k (omega arith) in
    let a' : rank k < s = subst (λ x. rank x < s) same a in
    let b' : r ≤ rank k = subst (λ x. r ≤ rank x) same b in
    grind (arith, nat_tests))
    (λ other. let h = lower_less rank r s m k (omega arith) a b in grind (arith, nat_tests))

module _ (plan : Plan) (below : HaveEndsBelow plan.count plan.edges) (free : HasNoCycle plan.edges) where
  -- the same numbering, squeezed below the count
  abbrev pub tight : ℕ → ℕ
  tight n = lower free.rank (free.rank n) plan.count

  pub tight_below : (n : ℕ) → n < plan.count → tight n < plan.count
  tight_below n lt = lower_miss free.rank (free.rank n) n plan.count lt (omega arith)

  pub tight_rises : (n : ℕ) → AllByRecursion (λ m. tight m < tight n) (predecessors plan.edges n)
  tight_rises n = all_predecessors (λ m k. tight m < tight k) plan.edges n
      (all_with (λ (e : PlanEdge). (e.from.0 < plan.count) × (e.to.0 < plan.count))
      (λ (e : PlanEdge). free.rank e.from.0 < free.rank e.to.0) (λ (e : PlanEdge). tight e.from.0 < tight e.to.0)
      (λ e a b. lower_less free.rank (free.rank e.from.0) (free.rank e.to.0) e.from.0 plan.count a.0 b
      (omega arith)) plan.edges below free.rises)

  pub result_equation : {O : Type 0} (mean : ℕ → List O → Result O Fault) (n : ℕ) → n < plan.count
      → node_result mean plan n
      ≡ judged_result (mean n) (all_outs (map (node_result mean plan) (predecessors plan.edges n)))
  unfolding node_result
  result_equation mean n lt =
      unroll_equation (predecessors plan.edges) tight tight_rises
      (λ n rs. judged_result (mean n) (all_outs rs)) Poisoned plan.count n (tight_below n lt)

  pub height_equation : (n : ℕ) → n < plan.count
      → height plan n ≡ above_all (map (height plan) (predecessors plan.edges n))
  unfolding height
  height_equation n lt =
      unroll_equation (predecessors plan.edges) tight tight_rises (λ n hs. above_all hs) 0 plan.count n
      (tight_below n lt)

  -- a predecessor is lower
  pub height_rises : (n : ℕ) → n < plan.count
      → AllByRecursion (λ m. height plan m < height plan n) (predecessors plan.edges n)
  height_rises n lt =
      all_map (λ m. height plan m < above_all (map (height plan) (predecessors plan.edges n)))
      (λ m. height plan m < height plan n)
      (λ m h. rw (height_equation n lt) h) (predecessors plan.edges n)
      (below_top (height plan) (predecessors plan.edges n))
