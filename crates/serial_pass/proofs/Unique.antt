-- A pass has one outcome, and its first node that isn't done is bad.
use Rattle.std.proofs.Common.{◌≡◌, ◌+◌, ◌<◌, ℕ, zero, suc, List, [], ◌∷◌, map, refl, ap, arith, ◌∙◌, sym, subst, ◌⊎◌}
use Rattle.std.proofs.Common.{inl, ⊎_elim, Some, Result, Ok, Err, zero-add}
use Rattle.std.specs.List.{range_with_len, AllByRecursion}
use Rattle.std.proofs.Math.Decide.{dec_lt}
use Rattle.bp_faults.specs.declared.fault.Fault.{Fault}
use Rattle.serial_pass.specs.declared.plan.Plan.{Plan}
use Rattle.serial_pass.specs.declared.plan.PlanEdge.{PlanEdge}
use Rattle.serial_pass.specs.Plans.{predecessors, HaveEndsBelow, HasNoCycle}
use Rattle.serial_pass.specs.Heights.{height, IsBefore}
use Rattle.serial_pass.specs.Results.{NodeResult, Done, Bad, Poisoned, IsDone, cons_if, all_outs, result_of_visit}
use Rattle.serial_pass.specs.Results.{judged_result, node_result}
use Rattle.serial_pass.specs.Outcomes.{IsFirstUndone, PassOutcomeMeans}
use Rattle.serial_pass.proofs.Unrolled.{height_rises, result_equation}
use Rattle.bp_faults.proofs.Gathered.{by_height}
use Rattle.bp_faults.proofs.Lists.{all_map, both}
use Rattle.serial_pass.proofs.Predecessors.{all_predecessors}

not_both : (hm m hn n : ℕ) → (hm < hn) ⊎ ((hm ≡ hn) × (m < n)) → (hn < hm) ⊎ ((hn ≡ hm) × (n < m)) → ⊥
not_both hm m hn n x y =
    ⊎_elim (λ a. ⊎_elim (λ b. omega arith) (λ b. omega arith) y) (λ a. ⊎_elim (λ b. omega arith) (λ b. omega arith) y) x

module _ (plan : Plan) where
  -- of two nodes one is before the other
  pub ordered : (m n : ℕ) → (IsBefore plan m n) ⊎ ((IsBefore plan n m) ⊎ (m ≡ n))
  ordered m n =
      by_height (height plan m) m (height plan n) n (dec_lt (height plan m) (height plan n))
      (dec_lt (height plan n) (height plan m)) (dec_lt m n) (dec_lt n m)

  pub never_both : (m n : ℕ) → IsBefore plan m n → IsBefore plan n m → ⊥
  never_both m n x y = not_both (height plan m) m (height plan n) n x y

  -- predecessors are nodes, and come before their node
  pub before_node : HaveEndsBelow plan.count plan.edges → HasNoCycle plan.edges → (n : ℕ) → n < plan.count
      → AllByRecursion (λ m. (m < plan.count) × IsBefore plan m n) (predecessors plan.edges n)
  before_node below free n lt =
      all_map (λ m. (m < plan.count) × (height plan m < height plan n)) (λ m. (m < plan.count) × IsBefore plan m n)
      (λ m h. (h.0, inl h.1)) (predecessors plan.edges n)
      (both (λ m. m < plan.count) (λ m. height plan m < height plan n) (predecessors plan.edges n)
      (all_predecessors (λ m n. m < plan.count) plan.edges n (all_map (λ (e : PlanEdge). (e.from.0 < plan.count)
      × (e.to.0 < plan.count)) (λ (e : PlanEdge). e.from.0 < plan.count) (λ e h. h.0) plan.edges below))
      (height_rises plan below free n lt))

module _ {O : Type 0} where
  done_same : (xs ys : List O) → map Done xs ≡ map Done ys → xs ≡ ys
  done_same [] [] h = refl
  done_same [] (y ∷ ys) h = cc
  done_same (x ∷ xs) [] h = cc
  done_same (x ∷ xs) (y ∷ ys) h =
      let a : x ≡ y = cc in let b : map Done xs ≡ map Done ys = cc in λ i. a i ∷ done_same xs ys b i

  -- where all of a stretch are done, each is
  each_done : (f : ℕ → NodeResult O) (a n : ℕ) (outs : List O) → map Done outs ≡ map f (range_with_len a n) → (k : ℕ)
      → k < n → IsDone (f (a + k))
  each_done f a zero outs h k lt = absurd (omega arith)
  each_done f a (suc n) [] h k lt = cc
  each_done f a (suc n) (x ∷ xs) h zero lt =
      let e : Done x ≡ f a = cc in
      let s : a ≡ a + 0 = omega arith in
      subst (λ y. IsDone (f y)) s (subst (λ (r : NodeResult O). IsDone r) e tt)
  each_done f a (suc n) (x ∷ xs) h (suc k) lt =
      let t : map Done xs ≡ map f (range_with_len (a + 1) n) = cc in let s : (a + 1) + k ≡ a + suc k = omega arith in
      subst (λ y. IsDone (f y)) s (each_done f (a + 1) n xs t k (omega arith))

  one_more : (f : ℕ → NodeResult O) (m : ℕ) (ms : List ℕ) (r : NodeResult O) → f m ≡ r → IsDone r → (outs : List O)
      → all_outs (map f ms) ≡ Some outs → (all : List O) × (all_outs (f m ∷ map f ms) ≡ Some all)
  one_more f m ms (Done out) is done outs h =
      (out ∷ outs, ap (λ (r : NodeResult O). all_outs (r ∷ map f ms)) is ∙ ap (cons_if out) h)
  one_more f m ms (Bad fault) is done outs h = absurd done
  one_more f m ms Poisoned is done outs h = absurd done

  -- where all predecessors are done, so are their results
  all_done : (f : ℕ → NodeResult O) (ms : List ℕ) → AllByRecursion (λ m. IsDone (f m)) ms
      → (outs : List O) × (all_outs (map f ms) ≡ Some outs)
  all_done f [] h = ([], refl)
  all_done f (m ∷ ms) h = let t = all_done f ms h.1 in one_more f m ms (f m) refl h.0 t.0 t.1

  bad_if_undone : (r : NodeResult O) (m : Result O Fault) → r ≡ result_of_visit m → (IsDone r → ⊥)
      → (fault : Fault) × (r ≡ Bad fault)
  bad_if_undone r (Ok out) is undone = absurd (undone (subst (λ (x : NodeResult O). IsDone x) (sym is) tt))
  bad_if_undone r (Err fault) is undone = (fault, is)

  module _ (mean : ℕ → List O → Result O Fault) (plan : Plan) where
    -- the first node that isn't done has done predecessors, so it has a fault of its own
    pub bad_at_first : HaveEndsBelow plan.count plan.edges → HasNoCycle plan.edges → (n : ℕ)
        → IsFirstUndone (node_result mean plan) plan n → (fault : Fault) × (node_result mean plan n ≡ Bad fault)
    bad_at_first below free n first =
        let t = all_done (node_result mean plan) (predecessors plan.edges n)
        (all_map (λ m. (m < plan.count) × IsBefore plan m n) (λ m. IsDone (node_result mean plan m))
        (λ m h. first.first m h.0 h.1) (predecessors plan.edges n) (before_node plan below free n first.inside)) in
        bad_if_undone (node_result mean plan n) (mean n t.0)
        (result_equation plan below free mean n first.inside ∙ ap (judged_result (mean n)) t.1) first.undone

    first_same : (m n : ℕ) → IsFirstUndone (node_result mean plan) plan m → IsFirstUndone (node_result mean plan) plan n
        → m ≡ n
    first_same m n a b =
        ⊎_elim (λ before. absurd (a.undone (b.first m a.inside before)))
        (λ rest.
        ⊎_elim (λ before. absurd (b.undone (a.first n b.inside before))) (λ same. same) rest) (ordered plan m n)

    bad_same : (r : NodeResult O) (f g : Fault) → r ≡ Bad f → r ≡ Bad g → f ≡ g
    bad_same r f g a b = let e : Bad f ≡ Bad g = sym a ∙ b in cc

    none_undone : (outs : List O) → PassOutcomeMeans mean plan (Ok outs) → (n : ℕ)
        → IsFirstUndone (node_result mean plan) plan n → ⊥
    none_undone outs all n first =
        first.undone (subst (λ y. IsDone (node_result mean plan y)) (zero-add n)
        (each_done (node_result mean plan) 0 plan.count outs all n first.inside))

    -- a pass has at most one outcome
    pub outcome_unique : (r s : Result (List O) (ℕ × Fault)) → PassOutcomeMeans mean plan r
        → PassOutcomeMeans mean plan s → r ≡ s
    outcome_unique (Ok xs) (Ok ys) a b = ap Ok (done_same xs ys (a ∙ sym b))
    outcome_unique (Ok xs) (Err y) a b = absurd (none_undone xs a y.0 b.0)
    outcome_unique (Err x) (Ok ys) a b = absurd (none_undone ys b x.0 a.0)
    outcome_unique (Err x) (Err y) a b =
        let same = first_same x.0 y.0 a.0 b.0 in
        let faults = bad_same (node_result mean plan y.0) x.1 y.1 (ap (node_result mean plan) (sym same) ∙ a.1) b.1 in
        λ i. Err (same i, faults i)
