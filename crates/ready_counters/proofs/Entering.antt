-- The numbers of the edges into a node.
use Rattle.std.proofs.Common.{◌≡◌, ◌<◌, ◌+◌, ◌==◌, ℕ, suc, Bool, true, false, List, [], ◌∷◌, map, length, refl, ap}
use Rattle.std.proofs.Common.{arith, ◌∙◌, sym, subst, add-zero, zero-add}
use Rattle.std.specs.Prelude.{if◌then◌else◌}
use Rattle.std.specs.List.{AllByRecursion}
use Rattle.std.proofs.lemmas.Bool.Decides.{nat_tests}
use Rattle.serial_pass.specs.declared.plan.PlanEdge.{PlanEdge}
use Rattle.serial_pass.specs.Plans.{predecessors}
use Rattle.serial_pass.specs.InEdges.{numbers_into}
use Rattle.ready_counters.specs.Edges.{edge_source, edge_target}

module _ {X : Type 0} (f g : ℕ → X) where
  head_into : (d : PlanEdge) (k n : ℕ) (rest : List ℕ) (ds : List PlanEdge) → (d.to.0 ≡ n → f k ≡ g d.from.0)
      → map f rest ≡ map g (predecessors ds n) → (b : Bool) → (d.to.0 == n) ≡ b
      → map f (if d.to.0 == n then k ∷ rest else rest) ≡ map g (predecessors (d ∷ ds) n)
  head_into d k n rest ds here there true is = let same : d.to.0 ≡ n = grind (arith, nat_tests) in
      rw is (λ i. here same i ∷ there i)
  head_into d k n rest ds here there false is = rw is there

  map_from : (k : ℕ) (ds : List PlanEdge) (n : ℕ)
      → ((e : ℕ) → e < length ds → edge_target ds e ≡ n → f (k + e) ≡ g (edge_source ds e))
      → map f (numbers_into k ds n) ≡ map g (predecessors ds n)
  map_from k [] n h = refl
  map_from k (d ∷ ds) n h =
      head_into d k n (numbers_into (suc k) ds n) ds (λ same. ap f (sym (add-zero k)) ∙ h 0 (omega arith) same)
      (map_from (suc k) ds n
      (λ e l to. let shift : suc k + e ≡ k + suc e = omega arith in ap f shift ∙ h (suc e) (omega arith) to))
      (d.to.0 == n) refl

  -- a function of each edge into a node that is another of the edge's source
  pub into_map : (ds : List PlanEdge) (n : ℕ)
      → ((e : ℕ) → e < length ds → edge_target ds e ≡ n → f e ≡ g (edge_source ds e))
      → map f (numbers_into 0 ds n) ≡ map g (predecessors ds n)
  into_map ds n h = map_from 0 ds n (λ e l to. ap f (zero-add e) ∙ h e l to)

module _ (P : ℕ → Type 0) where
  all_if : (d : PlanEdge) (k n : ℕ) (rest : List ℕ) → (d.to.0 ≡ n → P k) → AllByRecursion P rest → (b : Bool)
      → (d.to.0 == n) ≡ b → AllByRecursion P (if d.to.0 == n then k ∷ rest else rest)
  all_if d k n rest here there true is = let same : d.to.0 ≡ n = grind (arith, nat_tests) in rw is (here same, there)
  all_if d k n rest here there false is = rw is there

  all_from : (k : ℕ) (ds : List PlanEdge) (n : ℕ) → ((e : ℕ) → e < length ds → edge_target ds e ≡ n → P (k + e))
      → AllByRecursion P (numbers_into k ds n)
  all_from k [] n h = tt
  all_from k (d ∷ ds) n h =
      all_if d k n (numbers_into (suc k) ds n) (λ same. subst P (add-zero k) (h 0 (omega arith) same))
      (all_from (suc k) ds n
      (λ e l to. let shift : k + suc e ≡ suc k + e = omega arith in subst P shift (h (suc e) (omega arith) to)))
      (d.to.0 == n) refl

  -- what holds of each edge that leads to a node holds of all of them
  pub all_into : (ds : List PlanEdge) (n : ℕ) → ((e : ℕ) → e < length ds → edge_target ds e ≡ n → P e)
      → AllByRecursion P (numbers_into 0 ds n)
  all_into ds n h = all_from 0 ds n (λ e l to. subst P (sym (zero-add e)) (h e l to))

  source_if : (d : PlanEdge) (n : ℕ) (ds : List PlanEdge) → (d.to.0 ≡ n → P d.from.0)
      → AllByRecursion P (predecessors ds n)
      → (b : Bool) → (d.to.0 == n) ≡ b → AllByRecursion P (predecessors (d ∷ ds) n)
  source_if d n ds here there true is = let same : d.to.0 ≡ n = grind (arith, nat_tests) in rw is (here same, there)
  source_if d n ds here there false is = rw is there

  -- what holds of the source of each edge that leads to a node holds of all its predecessors
  pub all_sources : (ds : List PlanEdge) (n : ℕ)
      → ((e : ℕ) → e < length ds → edge_target ds e ≡ n → P (edge_source ds e))
      → AllByRecursion P (predecessors ds n)
  all_sources [] n h = tt
  all_sources (d ∷ ds) n h =
      source_if d n ds (λ same. h 0 (omega arith) same) (all_sources ds n (λ e l to. h (suc e) (omega arith) to))
      (d.to.0 == n) refl
