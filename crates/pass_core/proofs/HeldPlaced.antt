-- The in-edges of a node hold what stands between two indices of the table.
use Rattle.std.proofs.Common.{◌≡◌, ◌+◌, ◌-◌, ◌<◌, ◌≤◌, ℕ, List, map, length, take, drop, ap, arith, ◌∙◌, sym, Option}
use Rattle.std.proofs.Common.{Some, Result, zero-add}
use Rattle.std.specs.Prelude.{slice_get, slice_index}
use Rattle.std.specs.List.{range_with_len}
use Rattle.std.proofs.lemmas.List.{length-map}
use Rattle.bp_faults.specs.declared.fault.Fault.{Fault}
use Rattle.serial_pass.specs.declared.plan.Plan.{Plan}
use Rattle.pass_core.specs.declared.published.Published.{Published}
use Rattle.serial_pass.specs.Plans.{predecessors, IsPlan}
use Rattle.serial_pass.specs.InEdges.{AreStarts, edges_below, numbers_into}
use Rattle.serial_pass.specs.Laws.{EdgeNumbersAreTogether, StartsOfEdgesRise}
use Rattle.serial_pass.specs.Results.{NodeResult, judged_result, all_outs}
use Rattle.pass_core.specs.CoreStates.{from_of, result_in}
use Rattle.pass_core.specs.CoreKept.{shown_in}
use Rattle.pass_core.proofs.Marks.{get_mapped}
use Rattle.pass_core.proofs.Numbered.{into_sources}
use Rattle.pass_core.proofs.PlacedValues.{placed_values}

module _ (rise : StartsOfEdgesRise) (plan : Plan) (starts : List ℕ) (is_plan : IsPlan plan)
    (are : AreStarts plan starts) (n : ℕ) (inside : n < plan.count) where
  pub starts_rise : slice_index starts n ≤ slice_index starts (n + 1)
  starts_rise =
      let a = are.begins n (omega arith) in
      let b = are.begins (n + 1) (omega arith) in
      let rises = (rise plan.edges n).0 in
      omega arith

  pub starts_end : slice_index starts (n + 1) ≤ length plan.edges
  starts_end = let b = are.begins (n + 1) (omega arith) in let all = (rise plan.edges (n + 1)).1 in omega arith

  module _ (together : EdgeNumbersAreTogether) {O : Type 0} (filled : List (Option (Published O)))
      (many : length filled ≡ length plan.edges) where
    held_values : map (λ e. result_in (slice_get (map shown_in filled) e)) (numbers_into 0 plan.edges n)
        ≡ map (λ (h : Option (Published O)). result_in (Some (shown_in h)))
        (take (slice_index starts (n + 1) - slice_index starts n) (drop (slice_index starts n) filled))
    held_values =
        let f : ℕ → NodeResult O = λ e. result_in (slice_get (map shown_in filled) e) in
        let below = edges_below plan.edges n in
        let next = edges_below plan.edges (n + 1) in
        let rises = (rise plan.edges n).0 in
        let all = (rise plan.edges (n + 1)).1 in
        rw (are.begins n (omega arith), are.begins (n + 1) (omega arith))
        (ap (map f) (together plan.edges n is_plan.by_target)
        ∙ ap (λ j. map f (range_with_len j (next - below))) (sym (zero-add below))
        ∙ placed_values f (λ (h : Option (Published O)). result_in (Some (shown_in h))) filled 0 below (next - below)
        (omega arith) (λ i x is.
        ap result_in (ap (slice_get (map shown_in filled)) (zero-add i) ∙ get_mapped shown_in filled i x is)))

    module _ (slice : List (Option (Published O))) (is : slice
        ≡ take (slice_index starts (n + 1) - slice_index starts n) (drop (slice_index starts n) filled)) where
      -- what the meaning gives for the slice is what it gives for what the in-edges hold
      pub slice_judged : (mean : List O → Result O Fault)
          → judged_result mean (all_outs (map (λ (h : Option (Published O)). result_in (Some (shown_in h))) slice))
          ≡ judged_result mean
          (all_outs (map (λ e. result_in (slice_get (map shown_in filled) e)) (numbers_into 0 plan.edges n)))
      slice_judged mean =
          ap (λ (rs : List (NodeResult O)). judged_result mean (all_outs rs))
          (ap (map (λ (h : Option (Published O)). result_in (Some (shown_in h)))) is ∙ sym held_values)

      pub slice_many : length (predecessors plan.edges n) ≡ length slice
      slice_many =
          sym (ap length (into_sources (from_of plan) 0 plan.edges n (λ i. ap (from_of plan) (zero-add i))))
          ∙ length-map (numbers_into 0 plan.edges n) (from_of plan)
          ∙ sym (length-map (numbers_into 0 plan.edges n) (λ e. result_in (slice_get (map shown_in filled) e)))
          ∙ ap length held_values
          ∙ length-map (take (slice_index starts (n + 1) - slice_index starts n) (drop (slice_index starts n) filled))
          (λ (h : Option (Published O)). result_in (Some (shown_in h)))
          ∙ ap length (sym is)
