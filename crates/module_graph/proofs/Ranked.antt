-- Where no walk returns there is a numbering that rises along every edge: the length of the longest walk to a node.
use Rattle.std.proofs.Common.{◌≡◌, ◌<◌, ◌≤◌, ◌==◌, ℕ, zero, suc, List, [], ◌∷◌, map, refl, ap, ◌∙◌, sym, subst, arith}
use Rattle.std.proofs.Common.{get_or, ◌⊎◌, inl, inr, ⊎_elim, false, ne_eqb}
use Rattle.std.specs.List.{AllByRecursion, IsDistinct}
use Rattle.std.specs.Prelude.{Contains, max}
use Rattle.std.proofs.lemmas.List.Elements.{recursion_from_All, All-contains_itself, Contains-get_or}
use Rattle.std.proofs.Math.Decide.{dec_lt}
use Rattle.serial_pass.specs.declared.plan.PlanEdge.{PlanEdge}
use Rattle.serial_pass.specs.Plans.{in_edges, predecessors, HasNoCycle, HaveEndsBelow}
use Rattle.serial_pass.specs.Heights.{above_all, unroll}
use Rattle.module_graph.specs.Walks.{Leads, Walk, NoneReturns}
use Rattle.bp_faults.proofs.Lists.{all_map, below_top, map-same, all_image, all_before}
use Rattle.module_graph.proofs.Sorted.{all_into, each_into}
use Rattle.module_graph.proofs.Starts.{starts, distinct_cons, distinct_nil, distinct_short}
use Rattle.module_graph.proofs.Walking.{walk_push}

max_is : (a b : ℕ) → (max a b ≡ a) ⊎ (max a b ≡ b)
max_is a b = dec_cases (dec_lt a b)
  where
    dec_cases : Dec (a < b) → (max a b ≡ a) ⊎ (max a b ≡ b)
    dec_cases (yes lt) = inr (omega arith)
    dec_cases (no ge) = inl (omega arith)

top_pick : (f : ℕ → ℕ) (Q : ℕ → Type 0) (ms : List ℕ) → AllByRecursion Q ms
    → (above_all (map f ms) ≡ 0) ⊎ ((m : ℕ) × Q m × (above_all (map f ms) ≡ suc (f m)))
top_pick f Q [] h = inl refl
top_pick f Q (m ∷ ms) h = ⊎_elim (λ e. inr (m, h.0, e))
    (λ e. ⊎_elim (λ z. inl (e ∙ z)) (λ t. inr (t.0, t.1, e ∙ t.2)) (top_pick f Q ms h.1)) (max_is (suc (f m))
    (above_all (map f ms)))

module _ (count : ℕ) (edges : List PlanEdge) (ends : HaveEndsBelow count edges) (none : NoneReturns edges) where
  reached : (k n m : ℕ) (w : Walk edges k n m) → AllByRecursion (λ y. (j : ℕ) × Walk edges j n y) (starts edges k n m w)
  reached zero n m w = tt
  reached (suc k) n m w = (
    (0, refl),
    all_map (λ y. (j : ℕ) × Walk edges j w.0 y) (λ y. (j : ℕ) × Walk edges j n y) (λ y t. (suc t.0, (w.0, w.1, t.1)))
        (starts edges k w.0 m w.2) (reached k w.0 m w.2),
  )

  distinct : (k n m : ℕ) (w : Walk edges k n m) → IsDistinct ◌==◌ (starts edges k n m w)
  distinct zero n m w = distinct_nil
  distinct (suc k) n m w = distinct_cons n (starts edges k w.0 m w.2)
      (all_map (λ y. (j : ℕ) × Walk edges j w.0 y) (λ y. (n == y) ≡ false)
      (λ y t. ne_eqb n y (λ same. none n (t.0, (w.0, w.1, subst (λ x. Walk edges t.0 w.0 x) (sym same) t.1))))
      (starts edges k w.0 m w.2) (reached k w.0 m w.2)) (distinct k w.0 m w.2)

  walk_short : (k n m : ℕ) → Walk edges k n m → k ≤ count
  walk_short k n m w = distinct_short edges count ends k n m w (distinct k n m w)

  source_leads : (n : ℕ) → AllByRecursion (λ m. Leads edges m n) (predecessors edges n)
  source_leads n =
      all_image (λ (e : PlanEdge). Contains edges e × (e.to.0 ≡ n)) (λ m. Leads edges m n) (λ (e : PlanEdge). e.from.0)
      (λ e h. (e, h.0, refl, h.1)) (in_edges edges n)
      (all_into edges n (Contains edges) (recursion_from_All (Contains edges) edges (All-contains_itself edges)))

  -- the longest walk to a node, cut off at a length
  abbrev tall : ℕ → ℕ → ℕ
  tall k n = unroll (predecessors edges) (λ n hs. above_all hs) 0 k n

  walk_to : (k n : ℕ) → (x : ℕ) × Walk edges (tall k n) x n
  walk_to zero n = (n, refl)
  walk_to (suc k) n = ⊎_elim
      (λ e. (n, subst (λ j. Walk edges j n n) (sym e) refl))
      (λ t. let w = walk_to k t.0 in
      (w.0, subst (λ j. Walk edges j w.0 n) (sym t.2) (walk_push edges (tall k t.0) w.0 t.0 n w.1 t.1)))
      (top_pick (tall k) (λ m. Leads edges m n) (predecessors edges n) (source_leads n))

  tall_less : (k n : ℕ) → tall k n ≤ count
  tall_less k n = let w = walk_to k n in walk_short (tall k n) w.0 n w.1

  stable : (k n : ℕ) → tall k n < k → tall (suc k) n ≡ tall k n
  stable zero n lt = absurd (omega arith)
  stable (suc k) n lt = ap above_all (map-same (tall (suc k)) (tall k) (predecessors edges n)
      (all_map (λ m. tall k m < above_all (map (tall k) (predecessors edges n))) (λ m. tall (suc k) m ≡ tall k m)
      (λ m h. stable k m (omega arith)) (predecessors edges n) (below_top (tall k) (predecessors edges n))))

  source_lower : (n : ℕ) → AllByRecursion (λ m. tall (suc count) m < tall (suc count) n) (predecessors edges n)
  source_lower n =
      let most = tall_less (suc count) n in
      subst (λ h. AllByRecursion (λ m. tall (suc count) m < h) (predecessors edges n))
      (stable (suc count) n (omega arith)) (below_top (tall (suc count)) (predecessors edges n))

  -- so a numbering rises along every edge
  pub ranked : HasNoCycle edges
  ranked = record {
    rank = tall (suc count);
    rises = recursion_from_All (λ (e : PlanEdge). tall (suc count) e.from.0 < tall (suc count) e.to.0) edges
        (λ i d lt. let e = get_or edges i d in
        each_into edges e.to.0 (λ (x : PlanEdge). tall (suc count) x.from.0 < tall (suc count) e.to.0)
        (all_before (λ (x : PlanEdge). x.from.0) (λ m. tall (suc count) m < tall (suc count) e.to.0)
        (in_edges edges e.to.0) (source_lower e.to.0)) e (Contains-get_or edges i d lt) refl);
  }
