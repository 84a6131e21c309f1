-- A visit of a node whose predecessors are made.
use Rattle.std.proofs.Common.{◌≡◌, ◌<◌, if◌then◌else◌, ℕ, suc, List, [], ◌∷◌, map, length, refl, ap, ◌∙◌, sym, subst}
use Rattle.std.proofs.Common.{Option, Some, None, Result, IsSome, Bool, true, false}
use Rattle.std.specs.List.{AllByRecursion}
use Rattle.std.specs.declared.sync.Arc.{Arc}
use Rattle.std.specs.Arc.{arc_value}
use Rattle.std.proofs.lemmas.List.{length-map}
use Rattle.bp_faults.specs.declared.fault.Fault.{Fault}
use Rattle.serial_pass.specs.declared.plan.Plan.{Plan}
use Rattle.serial_pass.specs.declared.plan.PlanEdge.{PlanEdge}
use Rattle.serial_pass.specs.Plans.{in_edges, sources, predecessors, HasNoCycle, IsPlan}
use Rattle.serial_pass.specs.Results.{NodeResult, cons_if, all_outs, judged_result, result_of_visit, node_result}
use Rattle.serial_pass.specs.Made.{made_at, all_of, AreRight}
use Rattle.serial_pass.proofs.Unrolled.{result_equation}

some_of : {X : Type 0} (r : Option X) → IsSome r → (x : X) × (r ≡ Some x)
some_of None h = cc
some_of (Some x) h = (x, refl)

module _ {O A : Type 0} (results : ℕ → NodeResult O) (made : List (Option (Arc O A)))
    (right : AreRight results made) where
  -- where all of them are made, what was made is what the results say
  ready_outs : (ms : List ℕ) → AllByRecursion (λ m. IsSome (made_at made m)) ms
      → (outs : List O) × (all_of (map (made_at made) ms) ≡ Some outs) × (all_outs (map results ms) ≡ Some outs)
      × (length outs ≡ length ms)
  ready_outs [] h = ([], refl, refl, refl)
  ready_outs (m ∷ ms) h =
      let o = some_of (made_at made m) h.0 in let t = ready_outs ms h.1 in (
        o.0 ∷ t.0,
        ap (λ (r : Option O). all_of (r ∷ map (made_at made) ms)) o.1 ∙ ap (cons_if o.0) t.1,
        ap (λ (r : NodeResult O). all_outs (r ∷ map results ms)) (right m o.0 o.1) ∙ ap (cons_if o.0) t.2,
        ap suc t.3,
      )

module _ {O A : Type 0} (mean : ℕ → List O → Result O Fault) (plan : Plan) (is_plan : IsPlan plan)
    (free : HasNoCycle plan.edges)
    (n : ℕ) (lt : n < plan.count) (made : List (Option (Arc O A))) (right : AreRight (node_result mean plan) made)
    (ready : AllByRecursion (λ m. IsSome (made_at made m)) (predecessors plan.edges n))
    (whole : Bool) (ins : List (Arc O A)) (es : List PlanEdge) (edges_are : es ≡ in_edges plan.edges n)
    (says : (if whole then Some (map arc_value ins) else None) ≡ all_of (map (made_at made) (sources es))) where
  gathered : (if whole then Some (map arc_value ins) else None)
      ≡ all_of (map (made_at made) (predecessors plan.edges n))
  gathered = says ∙ ap (λ (l : List PlanEdge). all_of (map (made_at made) (sources l))) edges_are

  pub not_missing : whole ≡ false → ⊥
  not_missing none =
      let t = ready_outs (node_result mean plan) made right (predecessors plan.edges n) ready in
      let e : Some t.0 ≡ None =
      sym t.1 ∙ sym gathered ∙ ap (λ (b : Bool). if b then Some (map arc_value ins) else None) none in
      cc

  module _ (found : whole ≡ true) (passed : List (Arc O A)) (slice : passed ≡ ins) where
    all_passed : all_of (map (made_at made) (predecessors plan.edges n)) ≡ Some (map arc_value passed)
    all_passed =
        sym gathered
        ∙ ap (λ (b : Bool). if b then Some (map arc_value ins) else None) found
        ∙ ap (λ (l : List (Arc O A)). Some (map arc_value l)) (sym slice)

    -- what was passed is what the meaning takes
    pub result_gathered : (node_result mean plan n ≡ result_of_visit (mean n (map arc_value passed)))
        × (length (map arc_value passed) ≡ length (predecessors plan.edges n))
    result_gathered =
        let t = ready_outs (node_result mean plan) made right (predecessors plan.edges n) ready in
        let e : Some t.0 ≡ Some (map arc_value passed) = sym t.1 ∙ all_passed in
        let same : t.0 ≡ map arc_value passed = cc in (
          result_equation plan is_plan.ends free mean n lt
              ∙ ap (judged_result (mean n)) t.2
              ∙ ap (λ (l : List O). result_of_visit (mean n l)) same,
          ap length (sym same) ∙ t.3,
        )

    pub taken_many : (P : ℕ → Type 0) → P (length (predecessors plan.edges n)) → P (length passed)
    taken_many P h = subst P (sym result_gathered.1 ∙ length-map passed arc_value) h

    pub result_is : (m : Result O Fault) → mean n (map arc_value passed) ≡ m
        → node_result mean plan n ≡ result_of_visit m
    result_is m is = result_gathered.0 ∙ ap result_of_visit is
