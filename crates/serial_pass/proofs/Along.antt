-- A pass along the serial order.
use Rattle.std.proofs.Common.{◌≡◌, ◌≢◌, ◌+◌, ◌<◌, ◌≤◌, ℕ, zero, suc, List, [], ◌∷◌, ◌++◌, map, length, get_or, take}
use Rattle.std.proofs.Common.{replicate, refl, ap, arith, ◌∙◌, sym, subst, Option, Some, None, Result, Ok, Err, IsSome}
use Rattle.std.proofs.Common.{All, length-set, zero-add, add-zero}
use Rattle.std.specs.Prelude.{slice_set, IsErr}
use Rattle.std.specs.Result.{IsErrAnd}
use Rattle.std.specs.List.{AllByRecursion, Contains, range_with_len}
use Rattle.std.specs.declared.sync.Arc.{Arc}
use Rattle.std.specs.Arc.{arc_value}
use Rattle.std.proofs.lemmas.Option.{slice_get-get_or}
use Rattle.std.proofs.lemmas.List.{take_more, length-map}
use Rattle.std.proofs.Math.Seq.{take-length}
use Rattle.std.proofs.Math.ListN.{get_or-map}
use mathlib.Core.Logic.{dite}
use native.Mathlib.Decide.{ℕ_discrete}
use Rattle.bp_faults.specs.declared.fault.Fault.{Fault}
use Rattle.bp_faults.specs.declared.ids.NodeId.{NodeId}
use Rattle.serial_pass.specs.declared.plan.Plan.{Plan}
use Rattle.serial_pass.specs.declared.error.PassError.{PassError}
use Rattle.serial_pass.specs.declared.error.PassError.TheVariants.{At, OutOfMemory}
use Rattle.serial_pass.specs.Plans.{predecessors, HasNoCycle, IsPlan}
use Rattle.serial_pass.specs.Heights.{IsBefore}
use Rattle.serial_pass.specs.Orders.{IsSerial, numbers}
use Rattle.serial_pass.specs.Results.{NodeResult, Done, Bad, IsDone, node_result}
use Rattle.serial_pass.specs.Outcomes.{PassOutcomeMeans, AnswersPass}
use Rattle.serial_pass.specs.Made.{made_at, value_of, AnswersVisit, IsMade}
use Rattle.serial_pass.proofs.Legal.{node_at, stands_before, predecessors_before}
use Rattle.bp_faults.proofs.Lists.{all_contained, all_map, all_pushed, get_else, get_here}

none_made : (O A : Type 0) (n k : ℕ) → made_at {O = O} {A = A} (replicate n None) k ≡ None
none_made O A zero k = refl
none_made O A (suc n) zero = refl
none_made O A (suc n) (suc k) = none_made O A n k

module _ {O A : Type 0} (results : ℕ → NodeResult O) (count : ℕ) where
  module _ (done : List ℕ) (made : List (Option (Arc O A))) (is : IsMade results count done made) where
    done_if : (m : ℕ) (r : Option O) → made_at made m ≡ r → IsSome r → IsDone (results m)
    done_if m None e h = cc
    done_if m (Some o) e h = subst (λ (x : NodeResult O). IsDone x) (sym (is.right m o e)) tt

    -- a node of which something was made is done
    pub done_made : (m : ℕ) → Contains done m → IsDone (results m)
    done_made m c = done_if m (made_at made m) refl (all_contained (λ n. IsSome (made_at made n)) done m is.filled c)

    module _ (n : ℕ) (shared : Arc O A) (lt : n < count) (out : results n ≡ Done (arc_value shared)) where
      here : made_at (slice_set made n (Some shared)) n ≡ Some (arc_value shared)
      here = ap value_of (get_here made n (Some shared) (subst (λ x. n < x) (sym is.many) lt))

      elsewhere : (m : ℕ) → m ≢ n → made_at (slice_set made n (Some shared)) m ≡ made_at made m
      elsewhere m ne = ap value_of (get_else made n m (Some shared) ne)

      still_filled : (m : ℕ) → IsSome (made_at made m) → IsSome (made_at (slice_set made n (Some shared)) m)
      still_filled m h = dite (ℕ_discrete m n)
          (λ same. subst (λ x. IsSome (made_at (slice_set made n (Some shared)) x)) (sym same)
          (subst (λ (r : Option O). IsSome r) (sym here) refl))
          (λ other. subst (λ (r : Option O). IsSome r) (sym (elsewhere m other)) h)

      still_right : (m : ℕ) (o : O) → made_at (slice_set made n (Some shared)) m ≡ Some o → results m ≡ Done o
      still_right m o e = dite (ℕ_discrete m n)
          (λ same. let f : Some (arc_value shared) ≡ Some o = sym here
          ∙ ap (made_at (slice_set made n (Some shared))) (sym same)
          ∙ e in
          let g : arc_value shared ≡ o = cc in ap results same ∙ out ∙ ap Done g)
          (λ other. is.right m o (sym (elsewhere m other) ∙ e))

      -- one node more is made
      pub made_more : IsMade results count (done ++ n ∷ []) (slice_set made n (Some shared))
      made_more = record {
        many = length-set made n (Some shared) ∙ is.many;
        filled = all_pushed (λ m. IsSome (made_at (slice_set made n (Some shared)) m)) done n
            (all_map (λ m. IsSome (made_at made m))
            (λ m. IsSome (made_at (slice_set made n (Some shared)) m)) still_filled done is.filled)
            (subst (λ (r : Option O). IsSome r) (sym here) refl);
        right = still_right;
      }

  filled_there : (x : Option (Arc O A)) → IsSome (value_of (Some x)) → IsSome x
  filled_there None h = cc
  filled_there (Some x) h = refl

  module _ (order : List ℕ) (made : List (Option (Arc O A))) (is : IsMade results count order made) where
    -- where the whole order is made, something stands in each slot
    pub all_filled : ((n : ℕ) → n < count → Contains order n) → All IsSome made
    all_filled each k d lk =
        filled_there (get_or made k d)
        (subst (λ (r : Option (Option (Arc O A))). IsSome (value_of r)) (slice_get-get_or made k d lk)
        (all_contained (λ n. IsSome (made_at made n)) order k is.filled (each k (subst (λ x. k < x) is.many lk))))

  from_index : (a : ℕ) (outs : List (Arc O A))
      → ((k : ℕ) (o : O) → made_at (map Some outs) k ≡ Some o → results (a + k) ≡ Done o)
      → map Done (map arc_value outs) ≡ map results (range_with_len a (length outs))
  from_index a [] right = refl
  from_index a (x ∷ outs) right =
      let first : Done (arc_value x) ≡ results a = sym (ap results (sym (add-zero a)) ∙ right 0 (arc_value x) refl) in
      let rest : map Done (map arc_value outs) ≡ map results (range_with_len (a + 1) (length outs)) = from_index (a + 1)
      outs (λ k o e. let n : (a + 1) + k ≡ a + suc k = omega arith in ap results n ∙ right (suc k) o e) in
      λ j. first j ∷ rest j

  -- what stands in the slots is the results by node number
  pub outs_right : (done : List ℕ) (made : List (Option (Arc O A))) → IsMade results count done made
      → (outs : List (Arc O A)) → map Some outs ≡ made
      → map Done (map arc_value outs) ≡ map results (range_with_len 0 count)
  outs_right done made is outs same =
      from_index 0 outs (λ k o e. ap results (zero-add k) ∙ is.right k o (ap (λ l. made_at l k) (sym same) ∙ e))
      ∙ ap (λ (n : ℕ). map results (range_with_len 0 n)) (sym (length-map outs Some) ∙ ap length same ∙ is.many)

module _ (plan : Plan) (nodes : List NodeId) (serial : IsSerial plan (numbers nodes)) (i : ℕ) (d : NodeId)
    (lt : i < length nodes) where
  lt_numbers : i < length (numbers nodes)
  lt_numbers = omega (arith, length-map nodes (λ (n : NodeId). n.0))

  turn : get_or (numbers nodes) i d.0 ≡ (get_or nodes i d).0
  turn = get_or-map (λ (n : NodeId). n.0) nodes i d

  pub inside_at : (get_or nodes i d).0 < plan.count
  inside_at = subst (λ n. n < plan.count) turn (node_at plan (numbers nodes) serial i d.0 lt_numbers)

  module _ {O A : Type 0} (mean : ℕ → List O → Result O Fault) (is_plan : IsPlan plan) (free : HasNoCycle plan.edges)
      (made : List (Option (Arc O A)))
      (going : IsMade (node_result mean plan) plan.count (take i (numbers nodes)) made) where
    -- the predecessors of the node whose turn it is are made
    pub ready_at : AllByRecursion (λ m. IsSome (made_at made m)) (predecessors plan.edges (get_or nodes i d).0)
    ready_at = subst (λ n. AllByRecursion (λ m. IsSome (made_at made m)) (predecessors plan.edges n)) turn
        (all_map (Contains (take i (numbers nodes))) (λ m. IsSome (made_at made m))
        (λ m c. all_contained (λ n. IsSome (made_at made n)) (take i (numbers nodes)) m going.filled c)
        (predecessors plan.edges (get_or (numbers nodes) i d.0)) (predecessors_before plan
        (numbers nodes) serial is_plan.ends free i d.0 lt_numbers))

    -- a fault at the node whose turn it is is the pass's
    fault_at : (fault : Fault) → node_result mean plan (get_or nodes i d).0 ≡ Bad fault
        → PassOutcomeMeans mean plan (Err ((get_or nodes i d).0, fault))
    fault_at fault is = (
      record {
        inside = inside_at;
        undone = λ done. subst (λ (r : NodeResult O). IsDone r) is done;
        first = λ m lm before. done_made (node_result mean plan) plan.count (take i (numbers nodes)) made going m
            (stands_before plan (numbers nodes) serial m i d.0 lm lt_numbers
            (subst (λ n. IsBefore plan m n) (sym turn) before));
      },
      is,
    )

    -- what the visit refuses is what the pass refuses
    pub refused_at : (e : PassError)
        → AnswersVisit {O = O} {A = A} (get_or nodes i d).0 (node_result mean plan (get_or nodes i d).0) (Err e)
        → AnswersPass mean plan (Err e)
    refused_at (At n fault) h = subst (λ m. PassOutcomeMeans mean plan (Err (m, fault))) (sym h.0) (fault_at fault h.1)
    refused_at OutOfMemory h = tt

    pub made_next : (shared : Arc O A) → node_result mean plan (get_or nodes i d).0 ≡ Done (arc_value shared)
        → IsMade (node_result mean plan) plan.count (take (i + 1) (numbers nodes))
        (slice_set made (get_or nodes i d).0 (Some shared))
    made_next shared is =
        subst (λ done.
        IsMade (node_result mean plan) plan.count done (slice_set made (get_or nodes i d).0 (Some shared)))
        (sym (take_more (numbers nodes) i d.0 lt_numbers ∙ ap (λ n. take i (numbers nodes) ++ n ∷ []) turn))
        (made_more (node_result mean plan) plan.count (take i (numbers nodes)) made going
        (get_or nodes i d).0 shared inside_at is)

pub err_of : {T E : Type 0} (r : Result T E) (e : E) → IsErr r → IsErrAnd r (λ y. y ≡ e) → r ≡ Err e
err_of (Ok x) e h k = cc
err_of (Err y) e h k = ap Err k

-- at the end of the order each node stands in what was taken of it
pub each_taken : (plan : Plan) (nodes : List NodeId) (serial : IsSerial plan (numbers nodes)) (i : ℕ) → length nodes ≤ i
    → i ≤ length nodes → (n : ℕ) → n < plan.count → Contains (take i (numbers nodes)) n
each_taken plan nodes serial i le ge n lt =
    let same : i ≡ length (numbers nodes) = omega (arith, length-map nodes (λ (n : NodeId). n.0)) in
    subst (λ (l : List ℕ). Contains l n) (sym (ap (λ j. take j (numbers nodes)) same ∙ take-length (numbers nodes)))
    (serial.each_once.each n lt)
