-- The numbers of the edges into a node stand together, where the edges stand by target.
use Rattle.std.proofs.Common.{◌≡◌, ◌+◌, ◌-◌, ◌≤◌, ℕ, suc, List, [], ◌∷◌, refl, ap, arith, ◌∙◌, eq-eqb, ne_eqb}
use Rattle.std.specs.List.{AllByRecursion, range_with_len}
use Rattle.std.proofs.Math.Decide.{dec_lt}
use mathlib.Core.Logic.{dite}
use Rattle.serial_pass.specs.declared.plan.PlanEdge.{PlanEdge}
use Rattle.serial_pass.specs.Plans.{StandByTarget}
use Rattle.serial_pass.specs.InEdges.{edges_below, numbers_into}
use Rattle.serial_pass.proofs.InEdgesPlaced.{none_below, below_hit, below_miss, from_all, sub_suc}

none_numbered : (k n : ℕ) (es : List PlanEdge) → AllByRecursion (λ (e : PlanEdge). n + 1 ≤ e.to.0) es
    → numbers_into k es n ≡ []
none_numbered k n [] h = refl
none_numbered k n (e ∷ es) h =
    let other : e.to.0 ≡ n → ⊥ = (λ same. let here = h.0 in omega arith) in
    rw (ne_eqb e.to.0 n other) (none_numbered (suc k) n es h.1)

-- one number more, where the first is k
one_more : (k m : ℕ) (rest : List ℕ) → rest ≡ range_with_len (suc k) m → k ∷ rest ≡ range_with_len (k + 0) (suc m - 0)
one_more k m rest h =
    let first : k ≡ k + 0 = omega arith in
    let many : suc m ≡ suc m - 0 = omega arith in
    let next : suc k ≡ k + 1 = omega arith in
    ap (λ (l : List ℕ). k ∷ l) (h ∙ ap (λ j. range_with_len j m) next)
    ∙ ap (λ j. range_with_len j (suc m)) first
    ∙ ap (range_with_len (k + 0)) many

-- the numbers of the edges into a node are those between two indices
pub numbers_placed : (es : List PlanEdge) (k n : ℕ) → StandByTarget es
    → numbers_into k es n ≡ range_with_len (k + edges_below es n) (edges_below es (n + 1) - edges_below es n)
numbers_placed [] k n by = refl
numbers_placed (e ∷ es) k n by =
    let rest : numbers_into (suc k) es n
    ≡ range_with_len (suc k + edges_below es n) (edges_below es (n + 1) - edges_below es n) =
    numbers_placed es (suc k) n by.1 in
    dite (dec_lt e.to.0 n)
    (λ less. let next : suc k + edges_below es n ≡ k + suc (edges_below es n) = omega arith in
    rw (below_hit e es n less, below_hit e es (n + 1) (omega arith), sub_suc, ne_eqb e.to.0 n (λ same. omega arith))
    (rest ∙ ap (λ j. range_with_len j (edges_below es (n + 1) - edges_below es n)) next))
    (λ other. dite (dec_lt n e.to.0)
    (λ more. let none = none_below (n + 1) es (from_all (n + 1) e.to.0 es (omega arith) by.0) in
    let lower = none_below n es (from_all n e.to.0 es (omega arith) by.0) in
    rw (
      below_miss e es n (omega arith),
      below_miss e es (n + 1) (omega arith),
      none,
      lower,
      none_numbered k n (e ∷ es) (omega arith, from_all (n + 1) e.to.0 es (omega arith) by.0),
    ) refl)
    (λ both. let same : e.to.0 ≡ n = omega arith in
    let none = none_below n es (from_all n e.to.0 es (omega arith) by.0) in
    let first : suc k + edges_below es n ≡ suc k = omega arith in
    let many : edges_below es (n + 1) - edges_below es n ≡ edges_below es (n + 1) = omega arith in
    let tail : numbers_into (suc k) es n ≡ range_with_len (suc k) (edges_below es (n + 1)) =
    rest
    ∙ ap (λ j. range_with_len j (edges_below es (n + 1) - edges_below es n)) first
    ∙ ap (range_with_len (suc k)) many in
    rw (below_miss e es n (omega arith), below_hit e es (n + 1) (omega arith), none, eq-eqb e.to.0 n same)
    (one_more k (edges_below es (n + 1)) (numbers_into (suc k) es n) tail)))
