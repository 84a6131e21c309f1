-- Each pass has an outcome.
use Rattle.std.proofs.Common.{◌≡◌, ◌+◌, ◌<◌, ℕ, zero, suc, List, [], ◌∷◌, map, length, get_or, take, refl, ap, arith}
use Rattle.std.proofs.Common.{◌∙◌, sym, subst, Result, Ok, Err}
use Rattle.std.specs.List.{AllByRecursion, range_with_len}
use Rattle.std.proofs.Math.Seq.{take-length}
use Rattle.std.proofs.lemmas.List.{take_more}
use Rattle.std.proofs.lemmas.List.Elements.{recursion_from_All}
use Rattle.std.proofs.lemmas.List.FromFn.{get_or-range_with_len, length-range_with_len}
use Rattle.bp_faults.specs.declared.fault.Fault.{Fault}
use Rattle.serial_pass.specs.declared.plan.Plan.{Plan}
use Rattle.serial_pass.specs.Plans.{IsPlan, HasNoCycle}
use Rattle.serial_pass.specs.Orders.{IsSerial}
use Rattle.serial_pass.specs.Results.{NodeResult, Done, Bad, Poisoned, IsDone, node_result}
use Rattle.serial_pass.specs.Outcomes.{IsFirstUndone, PassOutcomeMeans}
use Rattle.serial_pass.proofs.Legal.{node_at, stands_before}
use Rattle.serial_pass.proofs.Sorted.{the_order, the_order_is_serial}
use Rattle.serial_pass.proofs.Unique.{bad_at_first}
use Rattle.bp_faults.proofs.Lists.{all_contained, all_pushed}

module _ {O : Type 0} where
  one_done : (f : ℕ → NodeResult O) (n : ℕ) (ns : List ℕ) (r : NodeResult O) → f n ≡ r → IsDone r → (outs : List O)
      → map Done outs ≡ map f ns → (all : List O) × (map Done all ≡ f n ∷ map f ns)
  one_done f n ns (Done out) is done outs h = (out ∷ outs, let back = sym is in λ i. back i ∷ h i)
  one_done f n ns (Bad fault) is done outs h = absurd done
  one_done f n ns Poisoned is done outs h = absurd done

  outs_of_done : (f : ℕ → NodeResult O) (ns : List ℕ) → AllByRecursion (λ n. IsDone (f n)) ns
      → (outs : List O) × (map Done outs ≡ map f ns)
  outs_of_done f [] h = ([], refl)
  outs_of_done f (n ∷ ns) h = let t = outs_of_done f ns h.1 in one_done f n ns (f n) refl h.0 t.0 t.1

  module _ (mean : ℕ → List O → Result O Fault) (plan : Plan) (is_plan : IsPlan plan) (free : HasNoCycle plan.edges)
      (order : List ℕ) (serial : IsSerial plan order) where
    -- at the first node of the order that isn't done the pass has its fault
    undone_at : (i : ℕ) → i < length order → AllByRecursion (λ n. IsDone (node_result mean plan n)) (take i order)
        → (IsDone (node_result mean plan (get_or order i 0)) → ⊥)
        → (outcome : Result (List O) (ℕ × Fault)) × PassOutcomeMeans mean plan outcome
    undone_at i lt done undone =
        let first : IsFirstUndone (node_result mean plan) plan (get_or order i 0) = record {
          inside = node_at plan order serial i 0 lt;
          undone = undone;
          first =
              λ m lm before. all_contained (λ n. IsDone (node_result mean plan n)) (take i order) m done
              (stands_before plan order serial m i 0 lm lt before);
        } in
        let bad = bad_at_first mean plan is_plan.ends free (get_or order i 0) first in
        (Err (get_or order i 0, bad.0), (first, bad.1))

    all_are_done : AllByRecursion (λ n. IsDone (node_result mean plan n)) order
        → (outcome : Result (List O) (ℕ × Fault)) × PassOutcomeMeans mean plan outcome
    all_are_done done =
        let each = recursion_from_All (λ n. IsDone (node_result mean plan n)) (range_with_len 0 plan.count)
        (λ k d lt.
        all_contained (λ n. IsDone (node_result mean plan n)) order (get_or (range_with_len 0 plan.count) k d) done
        (serial.each_once.each (get_or (range_with_len 0 plan.count) k d) (let many = length-range_with_len 0
        plan.count in let e = get_or-range_with_len 0 plan.count k d (omega arith) in omega arith))) in
        let outs = outs_of_done (node_result mean plan) (range_with_len 0 plan.count) each in
        (Ok outs.0, outs.1)

    by_result : (k i : ℕ) → i + suc k ≡ length order
        → AllByRecursion (λ n. IsDone (node_result mean plan n)) (take i order) → (r : NodeResult O)
        → node_result mean plan (get_or order i 0) ≡ r
        → (AllByRecursion (λ n. IsDone (node_result mean plan n)) (take (i + 1) order)
        → (outcome : Result (List O) (ℕ × Fault)) × PassOutcomeMeans mean plan outcome)
        → (outcome : Result (List O) (ℕ × Fault)) × PassOutcomeMeans mean plan outcome
    by_result k i many done (Done out) is next =
        next (subst (λ (l : List ℕ). AllByRecursion (λ n. IsDone (node_result mean plan n)) l)
        (sym (take_more order i 0 (omega arith)))
        (all_pushed (λ n. IsDone (node_result mean plan n)) (take i order) (get_or order i 0) done
        (subst (λ (r : NodeResult O). IsDone r) (sym is) tt)))
    by_result k i many done (Bad fault) is next =
        undone_at i (omega arith) done (λ d. subst (λ (r : NodeResult O). IsDone r) is d)
    by_result k i many done Poisoned is next =
        undone_at i (omega arith) done (λ d. subst (λ (r : NodeResult O). IsDone r) is d)

    search_from : (k i : ℕ) → i + k ≡ length order
        → AllByRecursion (λ n. IsDone (node_result mean plan n)) (take i order)
        → (outcome : Result (List O) (ℕ × Fault)) × PassOutcomeMeans mean plan outcome
    search_from zero i many done =
        let whole : i ≡ length order = omega arith in
        all_are_done (subst (λ (l : List ℕ). AllByRecursion (λ n. IsDone (node_result mean plan n)) l)
        (ap (λ j. take j order) whole ∙ take-length order) done)
    search_from (suc k) i many done =
        by_result k i many done (node_result mean plan (get_or order i 0)) refl (search_from k (i + 1) (omega arith))

  pub outcome_exists : (mean : ℕ → List O → Result O Fault) (plan : Plan) → IsPlan plan → HasNoCycle plan.edges
      → (outcome : Result (List O) (ℕ × Fault)) × PassOutcomeMeans mean plan outcome
  outcome_exists mean plan is_plan free =
      search_from mean plan is_plan free (the_order plan) (the_order_is_serial plan) (length (the_order plan)) 0
      (omega arith) tt
