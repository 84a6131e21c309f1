-- Where a walk returns, a cycle is reported; and whether one does can be decided.
use Rattle.std.proofs.Common.{◌≡◌, ◌+◌, ◌<◌, ◌≤◌, ◌==◌, ◌⊎◌, inl, inr, ⊎_elim, ℕ, zero, suc, List, [], ◌∷◌, length}
use Rattle.std.proofs.Common.{get_or, refl, ap, sym, subst, arith, false, ne_eqb, Result, Ok, Err}
use Rattle.std.specs.Prelude.{Contains}
use Rattle.std.specs.List.{AllByRecursion, IsDistinct}
use Rattle.std.proofs.Math.Decide.{dec_lt}
use mathlib.Core.Logic.{dite}
use native.Mathlib.Decide.{ℕ_discrete}
use Rattle.bp_faults.specs.declared.fault.Fault.{Fault}
use Rattle.serial_pass.specs.declared.plan.PlanEdge.{PlanEdge}
use Rattle.serial_pass.specs.Plans.{HaveEndsBelow}
use Rattle.bp_faults.proofs.Lists.{all_map, all_append}
use Rattle.graph_nodes.specs.declared.graph.Edge.{Edge}
use Rattle.graph_nodes.specs.declared.graph.Node.{Node}
use Rattle.graph_nodes.specs.Nodes.{NameNodes, edges_at}
use Rattle.module_graph.specs.Graphs.{edges_of}
use Rattle.module_graph.specs.Walks.{Walk, Returns}
use Rattle.module_graph.specs.Cycles.{IsDistance, IsStart, IsNearest, IsWay, IsCycle, IsReported, CycleMeans}
use Rattle.module_graph.specs.Cycles.{cycle_fault}
use Rattle.module_graph.proofs.Alls.{edges_of_ends}
use Rattle.module_graph.proofs.Outward.{at_target}
use Rattle.module_graph.proofs.ShortCycle.{nearest_leads, nearest_within}
use Rattle.module_graph.proofs.Starting.{returning_inside}
use Rattle.module_graph.proofs.Starts.{starts, distinct_cons, distinct_nil, distinct_short}

both : {A B : Type 0} → Dec A → Dec B → Dec (A × B)
both (yes a) (yes b) = yes (a, b)
both (yes a) (no nb) = no (λ t. nb t.1)
both (no na) d = no (λ t. na t.0)

any_of : {A : Type 0} (Q : A → Type 0) → ((a : A) → Dec (Q a)) → (xs : List A) → Dec ((x : A) × Contains xs x × Q x)
any_of Q dec [] = no (λ t. let lt = t.1.1 in absurd (omega arith))
any_of {A} Q dec (x ∷ xs) = pick (dec x) (any_of Q dec xs)
  where
    not_here : (Q x → ⊥) → (((y : A) × Contains xs y × Q y) → ⊥) → (y : A) (k : ℕ) → k < length (x ∷ xs)
        → get_or (x ∷ xs) k y ≡ y → Q y → ⊥
    not_here nq none y zero lt is q = nq (subst Q (sym is) q)
    not_here nq none y (suc k) lt is q = none (y, (k, omega arith, is), q)

    pick : Dec (Q x) → Dec ((y : A) × Contains xs y × Q y) → Dec ((y : A) × Contains (x ∷ xs) y × Q y)
    pick (yes q) rest = yes (x, (0, omega arith, refl), q)
    pick (no nq) (yes t) = yes (t.0, (suc t.1.0, (let lt = t.1.1 in omega arith), t.1.2), t.2)
    pick (no nq) (no none) = no (λ t. not_here nq none t.0 t.1.0 t.1.1 t.1.2 t.2)

abbrev IsFirst : (ℕ → Type 0) → ℕ → Type 0
IsFirst Q m = Q m × ((j : ℕ) → j < m → Q j → ⊥)

module _ (Q : ℕ → Type 0) (dec : (k : ℕ) → Dec (Q k)) where
  first_from : (fuel start : ℕ) → ((j : ℕ) → j < start → Q j → ⊥)
      → ((m : ℕ) × IsFirst Q m) ⊎ ((j : ℕ) → j < start + fuel → Q j → ⊥)
  first_from zero start none = inr (λ j lt. none j (omega arith))
  first_from (suc fuel) start none = pick (dec start) (λ h. first_from fuel (suc start) h)
    where
      pick : Dec (Q start)
          → (((j : ℕ) → j < suc start → Q j → ⊥) → ((m : ℕ) × IsFirst Q m) ⊎ ((j : ℕ) → j < suc start + fuel → Q j → ⊥))
          → ((m : ℕ) × IsFirst Q m) ⊎ ((j : ℕ) → j < start + suc fuel → Q j → ⊥)
      pick (yes q) more = inl (start, (q, none))
      pick (no nq) more = ⊎_elim (λ t. inl t) (λ h. inr (λ j lt. h j (omega arith)))
          (more (λ j lt q. dite (ℕ_discrete j start) (λ same. nq (subst Q same q)) (λ other. none j (omega arith) q)))

  first_below : (bound : ℕ) → ((m : ℕ) × IsFirst Q m) ⊎ ((j : ℕ) → j < bound → Q j → ⊥)
  first_below bound =
      ⊎_elim (λ t. inl t) (λ h. inr (λ j lt. h j (omega arith))) (first_from bound 0 (λ j lt. absurd (omega arith)))

  first_of : (k : ℕ) → Q k → (m : ℕ) × IsFirst Q m
  first_of k q = ⊎_elim (λ t. t) (λ h. absurd (h k (omega arith) q)) (first_below (suc k))

  first_least : (m : ℕ) → IsFirst Q m → (k : ℕ) → Q k → m ≤ k
  first_least m is k q = pick (dec_lt k m)
    where
      pick : Dec (k < m) → m ≤ k
      pick (yes lt) = absurd (is.1 k lt q)
      pick (no ge) = omega arith

module _ (count : ℕ) (edges : List PlanEdge) (ends : HaveEndsBelow count edges) where
  walk_decided : (m k n : ℕ) → Dec (Walk edges k n m)
  walk_decided m zero n = ℕ_discrete n m
  walk_decided m (suc k) n =
      pick (any_of (λ (e : PlanEdge). (e.from.0 ≡ n) × Walk edges k e.to.0 m)
      (λ e. both (ℕ_discrete e.from.0 n) (walk_decided m k e.to.0)) edges)
    where
      pick : Dec ((e : PlanEdge) × Contains edges e × ((e.from.0 ≡ n) × Walk edges k e.to.0 m))
          → Dec (Walk edges (suc k) n m)
      pick (yes t) = yes (t.0.to.0, (t.0, t.1, t.2.0, refl), t.2.1)
      pick (no none) = no (λ w. none (w.1.0, w.1.1, (w.1.2, subst (λ x. Walk edges k x m) (sym w.1.3) w.2)))

  distance_is : (s n d : ℕ) → IsFirst (λ k. Walk edges k n s) d → IsDistance edges s n d
  distance_is s n d is = record {
    walk = is.0;
    least = first_least (λ k. Walk edges k n s) (λ k. walk_decided s k n) d is;
  }

  distance_of : (s n k : ℕ) → Walk edges k n s → (d : ℕ) × IsDistance edges s n d
  distance_of s n k w =
      let t = first_of (λ k. Walk edges k n s) (λ k. walk_decided s k n) k w in (t.0, distance_is s n t.0 t.1)

  remaining : (k n m : ℕ) (w : Walk edges k n m)
      → AllByRecursion (λ y. (j : ℕ) × (j ≤ k) × Walk edges j y m) (starts edges k n m w)
  remaining zero n m w = tt
  remaining (suc k) n m w = (
    (suc k, omega arith, w),
    all_map (λ y. (j : ℕ) × (j ≤ k) × Walk edges j y m) (λ y. (j : ℕ) × (j ≤ suc k) × Walk edges j y m)
        (λ y t. let le = t.1 in (t.0, omega arith, t.2)) (starts edges k w.0 m w.2) (remaining k w.0 m w.2),
  )

  -- a shortest walk begins at no node twice
  least_distinct : (k n m : ℕ) (w : Walk edges k n m) → ((j : ℕ) → Walk edges j n m → k ≤ j)
      → IsDistinct ◌==◌ (starts edges k n m w)
  least_distinct zero n m w least = distinct_nil
  least_distinct (suc k) n m w least = distinct_cons n (starts edges k w.0 m w.2)
      (all_map (λ y. (j : ℕ) × (j ≤ k) × Walk edges j y m) (λ y. (n == y) ≡ false)
      (λ y t. ne_eqb n y (λ same. let le = t.1 in let more = least t.0 (subst (λ x. Walk edges t.0 x m)
      (sym same) t.2) in absurd (omega arith))) (starts edges k w.0 m w.2) (remaining k w.0 m w.2))
      (least_distinct k w.0 m w.2 (λ j v. let le = least (suc j) (w.0, w.1, v) in omega arith))

  reach_decided : (s n : ℕ) → Dec ((d : ℕ) × IsDistance edges s n d)
  reach_decided s n = ⊎_elim
      (λ t. yes (t.0, distance_is s n t.0 t.1))
      (λ none. no (λ t. let le = distinct_short edges count ends t.0 n s t.1.walk
      (least_distinct t.0 n s t.1.walk t.1.least) in none t.0 (omega arith) t.1.walk))
      (first_below (λ k. Walk edges k n s) (λ k. walk_decided s k n) (suc count))

  returns_decided : (n : ℕ) → Dec (Returns edges n)
  returns_decided n =
      pick (any_of (λ (e : PlanEdge). (e.from.0 ≡ n) × ((d : ℕ) × IsDistance edges n e.to.0 d))
      (λ e. both (ℕ_discrete e.from.0 n) (reach_decided n e.to.0)) edges)
    where
      pick : Dec ((e : PlanEdge) × Contains edges e × ((e.from.0 ≡ n) × ((d : ℕ) × IsDistance edges n e.to.0 d)))
          → Dec (Returns edges n)
      pick (yes t) = yes (t.2.1.0, (t.0.to.0, (t.0, t.1, t.2.0, refl), t.2.1.1.walk))
      pick (no none) =
          no (λ r. let w = r.1 in
          none (w.1.0, w.1.1, (w.1.2, distance_of n w.1.0.to.0 r.0 (subst (λ x. Walk edges r.0 x n) (sym w.1.3) w.2))))

  start_of : (n : ℕ) → Returns edges n → (s : ℕ) × IsStart edges s
  start_of n r =
      let t = first_of (Returns edges) returns_decided n r in (t.0, record { returns = t.1.0; least = t.1.1 })

  abbrev Stray : ℕ → Edge → Type 0
  Stray s x = (k : ℕ) → Walk edges k x.to.0 s → ⊥

  abbrev Beyond : ℕ → ℕ → Edge → Type 0
  Beyond s d x = (k : ℕ) → Walk edges k x.to.0 s → d ≤ k

  -- some edge is the nearest, or none has a walk to the start
  nearest_of : (s : ℕ) (es : List Edge) → ((e : Edge) × IsNearest edges s es e) ⊎ AllByRecursion (Stray s) es
  nearest_of s [] = inr tt
  nearest_of s (x ∷ xs) = pick (reach_decided s x.to.0) (nearest_of s xs)
    where
      closer : (d : ℕ) → IsDistance edges s x.to.0 d → (e : Edge) (near : IsNearest edges s xs e)
          → Dec (near.distance < d) → (e : Edge) × IsNearest edges s (x ∷ xs) e
      closer d at e near (yes lt) = (
        e,
        record {
          before = x ∷ near.before;
          after = near.after;
          distance = near.distance;
          parts = ap (λ (l : List Edge). x ∷ l) near.parts;
          away = near.away;
          earlier = (λ k w. let le = at.least k w in omega arith, near.earlier);
          later = near.later;
        },
      )
      closer d at e near (no ge) = (
        x,
        record {
          before = [];
          after = xs;
          distance = d;
          parts = refl;
          away = at;
          earlier = tt;
          later = subst (λ (l : List Edge). AllByRecursion (Beyond s d) l) (sym near.parts)
              (all_append (Beyond s d) near.before (e ∷ near.after)
              (all_map (λ (y : Edge). (k : ℕ) → Walk edges k y.to.0 s → near.distance < k) (Beyond s d)
              (λ y h k w. let lt = h k w in omega arith) near.before near.earlier) (
                λ k w. let le = near.away.least k w in
                    omega arith,
                all_map (λ (y : Edge). (k : ℕ) → Walk edges k y.to.0 s → near.distance ≤ k) (Beyond s d)
                    (λ y h k w. let le = h k w in omega arith) near.after near.later,
              ));
        },
      )

      pick : Dec ((d : ℕ) × IsDistance edges s x.to.0 d)
          → ((e : Edge) × IsNearest edges s xs e) ⊎ AllByRecursion (Stray s) xs
          → ((e : Edge) × IsNearest edges s (x ∷ xs) e) ⊎ AllByRecursion (Stray s) (x ∷ xs)
      pick (yes t) (inl near) = inl (closer t.0 t.1 near.0 near.1 (dec_lt near.1.distance t.0))
      pick (yes t) (inr none) = inl (
        x,
        record {
          before = [];
          after = xs;
          distance = t.0;
          parts = refl;
          away = t.1;
          earlier = tt;
          later = all_map (Stray s) (Beyond s t.0) (λ y h k w. absurd (h k w)) xs none;
        },
      )
      pick (no stray) (inl near) = inl (
        near.0,
        record {
          before = x ∷ near.1.before;
          after = near.1.after;
          distance = near.1.distance;
          parts = ap (λ (l : List Edge). x ∷ l) near.1.parts;
          away = near.1.away;
          earlier = (λ k w. absurd (stray (distance_of s x.to.0 k w)), near.1.earlier);
          later = near.1.later;
        },
      )
      pick (no stray) (inr none) = inr (λ k w. stray (distance_of s x.to.0 k w), none)

module _ {P : Type 0} (nodes : List (Node P)) (ends : NameNodes nodes) where
  abbrev es : List PlanEdge
  es = edges_of nodes

  near_at : (s n k : ℕ) → Walk es (suc k) n s → (e : Edge) × IsNearest es s (edges_at nodes n) e
  near_at s n k w = ⊎_elim (λ t. t)
      (λ none. absurd (at_target (λ t. (k : ℕ) → Walk es k t s → ⊥) nodes n none w.0 w.1 k w.2))
      (nearest_of (length nodes) es (edges_of_ends nodes ends) s (edges_at nodes n))

  way_of : (s d n : ℕ) → IsDistance es s n d → (rest : List Edge) × IsWay nodes s n rest s
  way_of s zero n at = ([], at.walk)
  way_of s (suc d) n at =
      let t = near_at s n d at.walk in
      let e = t.0 in let near = t.1 in
      let most = nearest_within nodes s n e near d at.walk in
      let less = at.least (suc near.distance) (e.to.0, nearest_leads nodes s n e near, near.away.walk) in
      let same : near.distance ≡ d = omega arith in
      let rest = way_of s d e.to.0 (subst (λ j. IsDistance es s e.to.0 j) same near.away) in
      (e ∷ rest.0, (λ here. let no = at.least 0 here in absurd (omega arith), near, rest.1))

  pub cycle_of : (n : ℕ) → Returns es n → (s : ℕ) × (first : Edge) × (rest : List Edge) × IsCycle nodes s first rest
  cycle_of n r =
      let t = start_of (length nodes) es (edges_of_ends nodes ends) n r in
      let near = near_at t.0 t.0 t.1.returns.0 t.1.returns.1 in
      let way = way_of t.0 near.1.distance near.0.to.0 near.1.away in
      (t.0, near.0, way.0, record { start = t.1; begins = near.1; goes = way.1 })

  pub reported_of : (names : List (List ℕ)) (n : ℕ) → Returns es n → (fault : Fault) × IsReported nodes names fault
  reported_of names n r = let c = cycle_of n r in (cycle_fault names c.0 c.1 c.2, (c.0, c.1, c.2, c.3, refl))

  pub meaning_of : (names : List (List ℕ)) → (r : Result Unit Fault) × CycleMeans nodes names r
  meaning_of names = ⊎_elim
      (λ t. let f = reported_of names t.0 t.1.0 in (Err f.0, f.1))
      (λ none. (Ok tt, λ n r. none n (returning_inside nodes ends n r) r))
      (first_below (Returns es) (returns_decided (length nodes) es (edges_of_ends nodes ends)) (length nodes))
