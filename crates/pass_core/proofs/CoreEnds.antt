-- Where a core begins, and what it gives at its end.
use Rattle.std.proofs.Common.{◌≡◌, ◌+◌, ◌<◌, ℕ, zero, suc, true, false, List, [], ◌∷◌, map, length, replicate, refl, ap}
use Rattle.std.proofs.Common.{arith, ◌∙◌, sym, subst, Option, Some, None, Result, IsSome, All, zero-add, add-zero}
use Rattle.std.specs.Prelude.{slice_get}
use Rattle.std.specs.List.{range_with_len}
use Rattle.std.proofs.lemmas.List.{length-map, length-replicate}
use Rattle.std.proofs.lemmas.List.FromFn.{length-range_with_len}
use Rattle.std.proofs.lemmas.Option.{get_or_from_slice_get}
use Rattle.bp_faults.specs.declared.fault.Fault.{Fault}
use Rattle.serial_pass.specs.declared.plan.Plan.{Plan}
use Rattle.pass_core.specs.declared.published.Published.{Published}
use Rattle.serial_pass.specs.Plans.{predecessors, HasNoCycle, IsPlan}
use Rattle.serial_pass.specs.InEdges.{AreStarts}
use Rattle.serial_pass.specs.Outcomes.{TakesPlan}
use Rattle.serial_pass.specs.Results.{NodeResult, node_result}
use Rattle.pass_core.specs.Shown.{published_result}
use Rattle.pass_core.specs.CoreStates.{CoreState, beginning, IsFinished}
use Rattle.pass_core.specs.CoreKept.{IsCore, shown_in}
use Rattle.pass_core.proofs.Marks.{get_blank}
use Rattle.pass_core.proofs.Sound.{begins_sound, begins_counted, begins_empty}

pub none_shown : (O : Type 0) (n : ℕ) → map (shown_in {O = O}) (replicate n None) ≡ replicate n None
none_shown O zero = refl
none_shown O (suc n) = ap (λ (l : List (Option (NodeResult O))). None ∷ l) (none_shown O n)

pub begins_core : {O : Type 0} (mean : ℕ → List O → Result O Fault) (takes : ℕ → ℕ → Type 0) (plan : Plan)
    (starts : List ℕ) → IsPlan plan → HasNoCycle plan.edges → TakesPlan takes plan → AreStarts plan starts
    → IsCore mean takes plan starts (beginning plan)
    (map (λ n. length (predecessors plan.edges n)) (range_with_len 0 plan.count)) (replicate plan.count None) 0
begins_core mean takes plan starts is_plan free takes_plan are = record {
  is_plan = is_plan;
  free = free;
  takes_plan = takes_plan;
  are_starts = are;
  reached = ([], record { allowed = tt; there = refl }, refl);
  sound = begins_sound mean plan is_plan free;
  unfetched_many =
      length-map (range_with_len 0 plan.count) (λ n. length (predecessors plan.edges n))
      ∙ length-range_with_len 0 plan.count;
  unfetched_are = begins_counted mean plan is_plan free;
  published_many = length-replicate plan.count None;
  right = λ n p h. let no : None ≡ Some p = get_blank plan.count None n (Some p) h in cc;
  visited = λ n was. let no : false ≡ true = get_blank plan.count false n true was.0 in absurd cc;
  counted = sym (begins_empty mean plan is_plan free);
}

module _ {O : Type 0} (mean : ℕ → List O → Result O Fault) (takes : ℕ → ℕ → Type 0) (plan : Plan) (starts : List ℕ)
    (s : CoreState O) (unfetched : List ℕ) (published : List (Option (Published O))) (steps : ℕ)
    (core : IsCore mean takes plan starts s unfetched published steps) (done : IsFinished plan s) where
  -- at the end something is published of each node
  pub all_published : All IsSome published
  all_published k d lt =
      let there = core.visited k (done.visited k (subst (λ x. k < x) core.published_many lt)) in
      subst (λ (x : Option (Published O)). IsSome x)
      (sym (get_or_from_slice_get published k (Some there.0) d there.1)) refl

  from_index : (a : ℕ) (outs : List (Published O)) → ((k : ℕ) (p : Published O)
      → slice_get (map Some outs) k ≡ Some (Some p) → published_result p ≡ node_result mean plan (a + k))
      → map published_result outs ≡ map (node_result mean plan) (range_with_len a (length outs))
  from_index a [] right = refl
  from_index a (x ∷ outs) right =
      let first : published_result x ≡ node_result mean plan a =
      right 0 x refl ∙ ap (node_result mean plan) (add-zero a) in
      let rest : map published_result outs ≡ map (node_result mean plan) (range_with_len (a + 1) (length outs)) =
      from_index (a + 1) outs
      (λ k p h. let n : a + suc k ≡ (a + 1) + k = omega arith in right (suc k) p h ∙ ap (node_result mean plan) n) in
      λ j. first j ∷ rest j

  pub outs_are : (outs : List (Published O)) → map Some outs ≡ published
      → map published_result outs ≡ map (node_result mean plan) (range_with_len 0 plan.count)
  outs_are outs same =
      from_index 0 outs (λ k p h. (core.right k p (ap (λ l. slice_get l k) (sym same) ∙ h)).0
      ∙ ap (node_result mean plan) (sym (zero-add k)))
      ∙ ap (λ (n : ℕ). map (node_result mean plan) (range_with_len 0 n))
      (sym (length-map outs Some) ∙ ap length same ∙ core.published_many)
