-- What holds of all edges of a plan holds of a node's in-edges and predecessors.
use Rattle.std.proofs.Common.{◌≡◌, ◌<◌, ◌≤◌, ◌==◌, ℕ, List, [], ◌∷◌, map, length, get_or, refl, arith, subst, Bool}
use Rattle.std.proofs.Common.{true, false, cond}
use Rattle.std.specs.List.{AllByRecursion, filter}
use Rattle.std.proofs.Math.ListN.{get_or-map}
use Rattle.std.proofs.lemmas.Bool.Decides.{nat_tests}
use Rattle.std.proofs.lemmas.List.{length-map}
use Rattle.std.proofs.lemmas.List.Elements.{All-from_recursion}
use Rattle.serial_pass.specs.declared.plan.PlanEdge.{PlanEdge}
use Rattle.serial_pass.specs.Plans.{in_edges, sources, predecessors, HaveEndsBelow}
use Rattle.bp_faults.proofs.Lists.{all_map}

abbrev from_of : PlanEdge → ℕ
from_of e = e.from.0

pub at_test : (P : ℕ → ℕ → Type 0) (e : PlanEdge) (es : List PlanEdge) (n : ℕ) → P e.from.0 e.to.0
    → AllByRecursion (λ m. P m n) (predecessors es n)
    → (b : Bool) → (e.to.0 == n) ≡ b → AllByRecursion (λ m. P m n)
    (map from_of (cond b (e ∷ filter (λ (e : PlanEdge). e.to.0 == n) es) (filter (λ (e : PlanEdge). e.to.0 == n) es)))
at_test P e es n here rest true is =
    let same : e.to.0 ≡ n = grind (arith, nat_tests) in (subst (λ k. P e.from.0 k) same here, rest)
at_test P e es n here rest false is = rest

-- what holds of the ends of each edge holds of each source of a node and that node
pub all_predecessors : (P : ℕ → ℕ → Type 0) (edges : List PlanEdge) (n : ℕ)
    → AllByRecursion (λ (e : PlanEdge). P e.from.0 e.to.0) edges → AllByRecursion (λ m. P m n) (predecessors edges n)
all_predecessors P [] n h = tt
all_predecessors P (e ∷ es) n h = at_test P e es n h.0 (all_predecessors P es n h.1) (e.to.0 == n) refl

pub kept_one : (P : PlanEdge → Type 0) (e : PlanEdge) (es : List PlanEdge) → P e → AllByRecursion P es → (b : Bool)
    → AllByRecursion P (cond b (e ∷ es) es)
kept_one P e es here rest true = (here, rest)
kept_one P e es here rest false = rest

pub kept : (P : PlanEdge → Type 0) (n : ℕ) (es : List PlanEdge) → AllByRecursion P es → AllByRecursion P (in_edges es n)
kept P n [] h = tt
kept P n (e ∷ es) h = kept_one P e (in_edges es n) h.0 (kept P n es h.1) (e.to.0 == n)

-- sources of the edges into a node are nodes
pub in_edges_below : (count n : ℕ) (es : List PlanEdge) → HaveEndsBelow count es
    → AllByRecursion (λ (e : PlanEdge). e.from.0 < count) (in_edges es n)
in_edges_below count n es below =
    kept (λ (e : PlanEdge). e.from.0 < count) n es (all_map (λ (e : PlanEdge). (e.from.0 < count) × (e.to.0 < count))
    (λ (e : PlanEdge). e.from.0 < count) (λ e h. h.0) es below)

pub in_edges_few : (es : List PlanEdge) (n : ℕ) → length (in_edges es n) ≤ length es
in_edges_few [] n = omega arith
in_edges_few (e ∷ es) n = let rest = in_edges_few es n in grind (arith, nat_tests)

-- what holds of each source holds of the source of the edge at an index
pub source_at : (P : ℕ → Type 0) (es : List PlanEdge) (i : ℕ) (d : PlanEdge) → AllByRecursion P (sources es)
    → i < length es → P (get_or es i d).from.0
source_at P es i d h lt =
    subst P (get_or-map (λ (e : PlanEdge). e.from.0) es i d)
    (All-from_recursion P (sources es) h i d.from.0 (omega (arith, length-map es (λ (e : PlanEdge). e.from.0))))
