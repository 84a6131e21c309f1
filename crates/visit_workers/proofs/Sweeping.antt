-- What an attempt reaches, and how the sweep goes on.
use Rattle.std.proofs.Common.{◌≡◌, ◌+◌, ◌<◌, ◌≤◌, ℕ, zero, suc, List, [], ◌∷◌, ◌==◌, map, length, get_or, take, refl}
use Rattle.std.proofs.Common.{ap, arith, ◌∙◌, sym, subst, Bool, true, false, cond}
use Rattle.std.specs.Prelude.{slice_index}
use mathlib.Core.Logic.{dite}
use native.Mathlib.Decide.{ℕ_discrete}
use Rattle.std.specs.List.{AllByRecursion, Contains}
use Rattle.std.proofs.lemmas.Bool.Decides.{nat_tests}
use Rattle.std.proofs.lemmas.List.{get_or-take, length-take-le}
use Rattle.std.proofs.lemmas.List.Elements.{All-from_recursion}
use Rattle.serial_pass.specs.declared.plan.Plan.{Plan}
use Rattle.serial_pass.specs.declared.plan.PlanEdge.{PlanEdge}
use Rattle.serial_pass.specs.Plans.{in_edges, predecessors}
use Rattle.bp_faults.specs.declared.ids.NodeId.{NodeId}
use Rattle.serial_pass.specs.Orders.{IsLegal, numbers}
use Rattle.bp_faults.proofs.Lists.{same_at}
use Rattle.ready_counters.specs.declared.view.View.{View}
use Rattle.ready_counters.specs.declared.claim.Claim.TheVariants.{NotReady}
use Rattle.ready_counters.specs.Edges.{edge_source, edge_target}
use Rattle.ready_counters.specs.Views.{whole, times}
use Rattle.ready_counters.specs.Answers.{AnswersClaim}
use Rattle.visit_workers.specs.Settled.{IsSettled, Reaches}
use Rattle.visit_workers.proofs.Settling.{sweep_ready}

module _ (edges : List PlanEdge) (n : ℕ) (v w : View) (settled : IsSettled edges v) where
  -- a whole settled seat that claimed all sources is never told that the node isn't ready
  pub reaches_waiting : (k : ℕ) → AnswersClaim edges n v (NotReady k) w → Reaches edges n v w
  reaches_waiting k t = (
    (λ m. subst (λ (u : View). times m v.claimed ≤ times m u.claimed) (sym t.0) (omega arith)),
    (λ heavy before. let z = sweep_ready edges v n settled before in let e = t.4 heavy in let one = t.2 in
        absurd (omega arith)),
  )

pick_first : (P : ℕ → Type 0) (d : PlanEdge) (fs : List PlanEdge) (n : ℕ) → d.to.0 ≡ n → (b : Bool)
    → (d.to.0 == n) ≡ b → AllByRecursion P (map (λ (x : PlanEdge). x.from.0) (cond b (d ∷ fs) fs)) → P d.from.0
pick_first P d fs n to true is h = h.0
pick_first P d fs n to false is h = absurd (grind (arith, nat_tests))

pick_rest : (P : ℕ → Type 0) (d : PlanEdge) (fs : List PlanEdge) (b : Bool)
    → AllByRecursion P (map (λ (x : PlanEdge). x.from.0) (cond b (d ∷ fs) fs))
    → AllByRecursion P (map (λ (x : PlanEdge). x.from.0) fs)
pick_rest P d fs true h = h.1
pick_rest P d fs false h = h

-- what holds of each predecessor holds of the source of each edge to the node
pub source_of : (P : ℕ → Type 0) (edges : List PlanEdge) (n : ℕ) → AllByRecursion P (predecessors edges n) → (e : ℕ)
    → e < length edges → edge_target edges e ≡ n → P (edge_source edges e)
source_of P [] n h e l to = absurd (omega arith)
source_of P (d ∷ ds) n h zero l to = pick_first P d (in_edges ds n) n to (d.to.0 == n) refl h
source_of P (d ∷ ds) n h (suc e) l to =
    source_of P ds n (pick_rest P d (in_edges ds n) (d.to.0 == n) h) e (omega arith) to

module _ (plan : Plan) (order : List ℕ) (legal : IsLegal plan order) where
  -- one more entry of the order is claimed
  pub swept_more : (i : ℕ) (v w : View) → i < length order → v.weight ≡ whole
      → ((j : ℕ) → j < i → j < length order → 1 ≤ times (slice_index order j) v.claimed)
      → Reaches plan.edges (slice_index order i) v w
      → (j : ℕ) → j < i + 1 → j < length order → 1 ≤ times (slice_index order j) w.claimed
  swept_more i v w l heavy before r j lj inside = dite (ℕ_discrete j i)
      (λ same. subst (λ x. 1 ≤ times (slice_index order x) w.claimed) (sym same)
      (r.1 heavy (λ e le to.
      let c = source_of (Contains (take i order)) plan.edges (slice_index order i) (legal.after i l) e le to in
      let short = length-take-le i order (omega arith) in let k = c.1 in
      let lt : c.0 < i = omega arith in
      let is : slice_index order c.0 ≡ edge_source plan.edges e =
      same_at order c.0 0 (edge_source plan.edges e) (omega arith)
      ∙ sym (get_or-take i order c.0 (edge_source plan.edges e) lt) ∙ c.2 in
      subst (λ x. 1 ≤ times x v.claimed) is (before c.0 lt (omega arith)))))
      (λ ne. let b = before j (omega arith) inside in let g = r.0 (slice_index order j) in omega arith)

  pub swept_all : (i : ℕ) (v : View) → length order ≤ i
      → ((j : ℕ) → j < i → j < length order → 1 ≤ times (slice_index order j) v.claimed) → (n : ℕ) → n < plan.count
      → 1 ≤ times n v.claimed
  swept_all i v l before n ln =
      let a = legal.each_once.each n ln in let lt = a.1 in
      subst (λ x. 1 ≤ times x v.claimed) (same_at order a.0 0 n a.1 ∙ a.2) (before a.0 (omega arith) a.1)

  pub node_at : (i d : ℕ) → i < length order → get_or order i d < plan.count
  node_at i d lt = All-from_recursion (λ n. n < plan.count) order legal.each_once.nodes i d lt

pub many_numbers : (order : List NodeId) → length (numbers order) ≡ length order
many_numbers [] = refl
many_numbers (n ∷ ns) = ap suc (many_numbers ns)

pub number_at : (order : List NodeId) (i : ℕ) → slice_index (numbers order) i ≡ (get_or order i (record { 0 = 0 })).0
number_at [] i = refl
number_at (n ∷ ns) zero = refl
number_at (n ∷ ns) (suc i) = number_at ns i

pub entry_inside : (plan : Plan) (order : List NodeId) → IsLegal plan (numbers order) → (i : ℕ) → i < length order
    → (get_or order i (record { 0 = 0 })).0 < plan.count
entry_inside plan order legal i lt =
    subst (λ x. x < plan.count) (number_at order i)
    (node_at plan (numbers order) legal i 0 (let m = many_numbers order in omega arith))
