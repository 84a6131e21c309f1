-- Seats that have done whatever they claimed.
use Rattle.std.proofs.Common.{◌≡◌, ◌+◌, ◌<◌, ◌≤◌, ◌==◌, ◌++◌, ℕ, zero, suc, List, [], ◌∷◌, length, refl, ap, arith, ◌∙◌}
use Rattle.std.proofs.Common.{sym, subst, true, false, Bool}
use Rattle.std.specs.Prelude.{if◌then◌else◌}
use Rattle.std.proofs.lemmas.Bool.Decides.{nat_tests}
use mathlib.Core.Logic.{dite}
use native.Mathlib.Decide.{ℕ_discrete}
use Rattle.serial_pass.specs.declared.plan.PlanEdge.{PlanEdge}
use Rattle.ready_counters.specs.declared.view.View.{View}
use Rattle.ready_counters.specs.Edges.{left_from, left_of, lacks, edge_source, edge_target}
use Rattle.ready_counters.specs.Views.{one, together, lighter, times, tickets_for}
use Rattle.ready_counters.specs.Views.{with_claim, with_fetch, with_ticket, with_subtract}
use Rattle.ready_counters.specs.Views.{with_filled}
use Rattle.visit_workers.proofs.Counting.{times_append, tickets_append, times_here, times_else, ticket_here}
use Rattle.visit_workers.proofs.Counting.{ticket_else}
use Rattle.std.proofs.Math.Decide.{dec_lt}
use Rattle.visit_workers.specs.Links.{numbers_from}
use Rattle.visit_workers.specs.Settled.{IsSettled, IsGathering, IsSpreading}
use Rattle.visit_workers.proofs.Listing.{listed_once, listed_never}

pub settled_one : (edges : List PlanEdge) → IsSettled edges one
settled_one edges = record
    { ticketed = λ n. refl; fetched = λ e l. refl; filled = λ e l. refl; subtracted = λ e l. refl }

pub settled_lighter : (edges : List PlanEdge) (v : View) → IsSettled edges v → IsSettled edges (lighter v)
settled_lighter edges v h =
    record { ticketed = h.ticketed; fetched = h.fetched; filled = h.filled; subtracted = h.subtracted }

pub settled_both : (edges : List PlanEdge) (v w : View) → IsSettled edges v → IsSettled edges w
    → IsSettled edges (together v w)
settled_both edges v w h k = record {
  ticketed = λ n. let a = tickets_append n v.tickets w.tickets in let b = times_append n v.claimed w.claimed in
      let c = h.ticketed n in let d = k.ticketed n in omega arith;
  fetched = λ e l. let a = times_append e v.fetched w.fetched in
      let b = times_append (edge_target edges e) v.claimed w.claimed in
      let c = h.fetched e l in
      let d = k.fetched e l in
      omega arith;
  filled = λ e l. let a = times_append e v.filled w.filled in
      let b = times_append (edge_source edges e) v.claimed w.claimed in let c = h.filled e l in let d = k.filled e l in
      omega arith;
  subtracted = λ e l. let a = times_append e v.subtracted w.subtracted in
      let b = times_append (edge_source edges e) v.claimed w.claimed in let c = h.subtracted e l in
      let d = k.subtracted e l in omega arith;
}

-- the new node has its ticket, its edges in are fetched and its edges out filled and subtracted
module _ (edges : List PlanEdge) (n k begin end : ℕ) (v a b : View) (h : IsSettled edges v)
    (range : (e : ℕ) → e < length edges
    → (begin ≤ e → e < end → edge_target edges e ≡ n) × (edge_target edges e ≡ n → (begin ≤ e) × (e < end)))
    (g : IsGathering begin end (with_claim v n) a) (s : IsSpreading (numbers_from 0 edges n) (with_ticket a n k) b)
  where
    claims_now : (x : ℕ) → times x b.claimed ≡ times x (n ∷ v.claimed)
    claims_now x = ap (times x) s.claimed ∙ ap (times x) g.claimed

    fetched_now : (e : ℕ) → e < length edges → times e b.fetched ≡ times (edge_target edges e) b.claimed
    fetched_now e l =
        let p = ap (times e) s.fetched in let c = claims_now (edge_target edges e) in let x = h.fetched e l in
        let r = range e l in
        dite (ℕ_discrete (edge_target edges e) n)
        (λ same. let m = r.1 same in let d = g.done e m.0 m.1 in
        let w : times (edge_target edges e) (n ∷ v.claimed) ≡ 1 + times (edge_target edges e) v.claimed =
        subst (λ y. times y (n ∷ v.claimed) ≡ 1 + times y v.claimed) (sym same) (times_here n v.claimed) in
        omega arith)
        (λ ne. let w = times_else (edge_target edges e) n v.claimed ne in dite (dec_lt e begin)
        (λ before. let d = g.before e before in omega arith)
        (λ from. dite (dec_lt e end) (λ inside. absurd (ne (r.0 (omega arith) inside)))
        (λ past. let d = g.rest e (omega arith) in omega arith)))

    filled_now : (e : ℕ) → e < length edges
        → (times e b.filled ≡ times (edge_source edges e) b.claimed)
        × (times e b.subtracted ≡ times (edge_source edges e) b.claimed)
    filled_now e l =
        let p = s.filled e in let q = s.subtracted e in let y = ap (times e) g.filled in
        let z = ap (times e) g.subtracted in let c = claims_now (edge_source edges e) in let x = h.filled e l in
        let u = h.subtracted e l in
        dite (ℕ_discrete (edge_source edges e) n)
        (λ same. let one = listed_once edges n e l same in
        let w : times (edge_source edges e) (n ∷ v.claimed) ≡ 1 + times (edge_source edges e) v.claimed =
        subst (λ y. times y (n ∷ v.claimed) ≡ 1 + times y v.claimed) (sym same) (times_here n v.claimed) in
        (omega arith, omega arith))
        (λ ne. let none = listed_never edges n e ne in let w = times_else (edge_source edges e) n v.claimed ne in
        (omega arith, omega arith))

    ticketed_now : (m : ℕ) → tickets_for m b.tickets ≡ times m b.claimed
    ticketed_now m = let c = claims_now m in let p = ap (tickets_for m) s.tickets in
        let r = ap (tickets_for m) g.tickets in let x = h.ticketed m in dite (ℕ_discrete m n)
        (λ same. let q : tickets_for m ((n, k) ∷ a.tickets) ≡ 1 + tickets_for m a.tickets =
        subst (λ y. tickets_for y ((n, k) ∷ a.tickets) ≡ 1 + tickets_for y a.tickets) (sym same)
        (ticket_here k a.tickets n) in
        let w : times m (n ∷ v.claimed) ≡ 1 + times m v.claimed =
        subst (λ y. times y (n ∷ v.claimed) ≡ 1 + times y v.claimed) (sym same) (times_here n v.claimed) in
        omega arith)
        (λ ne. let q = ticket_else k a.tickets m n ne in let w = times_else m n v.claimed ne in omega arith)

    pub settled_more : IsSettled edges b
    settled_more = record {
      ticketed = ticketed_now;
      fetched = fetched_now;
      filled = λ e l. (filled_now e l).0;
      subtracted =
          λ e l. (filled_now e l).1;
    }

lacks_some : (k : ℕ) → 1 ≤ k → lacks k ≡ 0
lacks_some zero e = absurd (omega arith)
lacks_some (suc k) e = refl

nothing_left : (done : ℕ → ℕ) (k : ℕ) (es : List PlanEdge) (n : ℕ)
    → ((i : ℕ) → i < length es → edge_target es i ≡ n → 1 ≤ done (k + i)) → left_from done k es n ≡ 0
nothing_left done k [] n h = refl
nothing_left done k (e ∷ es) n h =
    let rest = nothing_left done (suc k) es n
    (λ i l to. let s : k + suc i ≡ suc k + i = omega arith in
    subst (λ x. 1 ≤ done x) s (h (suc i) (omega arith) to)) in
    let head : (b : Bool) → (e.to.0 == n) ≡ b → (if b then lacks (done k) else 0) ≡ 0 = λ b is. here b is in
    let a = head (e.to.0 == n) refl in omega arith where
      here : (b : Bool) → (e.to.0 == n) ≡ b → (if b then lacks (done k) else 0) ≡ 0
      here true is = lacks_some (done k)
          (let s : k + 0 ≡ k = omega arith in subst (λ x. 1 ≤ done x) s (h 0 (omega arith) (grind (arith, nat_tests))))
      here false is = refl

-- the sweep: where a settled seat has claimed all sources, nothing is left of the node's edges in its view
pub sweep_ready : (edges : List PlanEdge) (v : View) (n : ℕ) → IsSettled edges v
    → ((e : ℕ) → e < length edges → edge_target edges e ≡ n → 1 ≤ times (edge_source edges e) v.claimed)
    → left_of edges v n ≡ 0
sweep_ready edges v n h before =
    nothing_left (λ e. times e v.subtracted) 0 edges n
    (λ i l to. let a = before i l to in let b = h.subtracted i l in let s : 0 + i ≡ i = omega arith in
    subst (λ x. 1 ≤ times x v.subtracted) (sym s) (omega arith))

-- gathering goes on by the next edge
pub gathering_more : (begin e : ℕ) (old v w : View) → begin ≤ e → w ≡ with_fetch v e → IsGathering begin e old v
    → IsGathering begin (e + 1) old w
gathering_more begin e old v w l is g = subst (λ (u : View). IsGathering begin (e + 1) old u) (sym is) (record {
  weight = g.weight;
  claimed = g.claimed;
  filled = g.filled;
  subtracted = g.subtracted;
  tickets = g.tickets;
  done = λ x from to. dite (ℕ_discrete x e)
      (λ same. subst (λ y. times y (e ∷ v.fetched) ≡ suc (times y old.fetched)) (sym same)
      (let t = times_here e v.fetched in let r = g.rest e (omega arith) in omega arith))
      (λ ne. let t = times_else x e v.fetched ne in let d = g.done x from (omega arith) in omega arith);
  before = λ x lx. let t = times_else x e v.fetched (λ same. omega arith) in let r = g.before x lx in omega arith;
  rest = λ x lx. let t = times_else x e v.fetched (λ same. omega arith) in let r = g.rest x (omega arith) in
      omega arith;
})

-- spreading goes on by the next edge
pub spreading_first : (v : View) → IsSpreading [] v v
spreading_first v = record {
  weight = refl;
  claimed = refl;
  fetched = refl;
  tickets = refl;
  filled = λ x. omega arith;
  subtracted =
      λ x. omega arith;
}

pub spreading_more : (done : List ℕ) (e : ℕ) (old v w : View) → w ≡ with_subtract (with_filled v e) e
    → IsSpreading done old v → IsSpreading (done ++ e ∷ []) old w
spreading_more done e old v w is g = subst (λ (u : View). IsSpreading (done ++ e ∷ []) old u) (sym is) (record {
  weight = g.weight;
  claimed = g.claimed;
  fetched = g.fetched;
  tickets = g.tickets;
  filled = λ x. let a = times_append x done (e ∷ []) in let f = g.filled x in omega arith;
  subtracted = λ x. let a = times_append x done (e ∷ []) in let f = g.subtracted x in omega arith;
})
