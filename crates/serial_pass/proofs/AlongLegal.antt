-- A run along a legal order.
use Rattle.std.proofs.Common.{◌≡◌, ◌+◌, ◌<◌, ◌≤◌, ℕ, List, [], ◌∷◌, ◌++◌, length, get_or, take, ap, arith, ◌∙◌, sym}
use Rattle.std.proofs.Common.{subst, Option, Some, Result, IsSome}
use Rattle.std.specs.Prelude.{slice_index, slice_set}
use Rattle.std.specs.List.{AllByRecursion, Contains}
use Rattle.std.specs.declared.sync.Arc.{Arc}
use Rattle.std.specs.Arc.{arc_value}
use Rattle.std.proofs.Math.Seq.{take-length}
use Rattle.std.proofs.lemmas.List.{take_more, length-map, get_or-map}
use Rattle.std.proofs.lemmas.List.Elements.{All-from_recursion}
use Rattle.bp_faults.specs.declared.fault.Fault.{Fault}
use Rattle.bp_faults.specs.declared.ids.NodeId.{NodeId}
use Rattle.serial_pass.specs.declared.plan.Plan.{Plan}
use Rattle.serial_pass.specs.Plans.{predecessors}
use Rattle.serial_pass.specs.Orders.{IsLegal, numbers}
use Rattle.serial_pass.specs.Results.{Done, node_result}
use Rattle.serial_pass.specs.Made.{made_at, IsMade}
use Rattle.serial_pass.proofs.Along.{made_more}
use Rattle.bp_faults.proofs.Lists.{all_map, all_contained}

module _ (plan : Plan) (nodes : List NodeId) (legal : IsLegal plan (numbers nodes)) where
  module _ (i : ℕ) (lt : i < length nodes) where
    lt_numbers : i < length (numbers nodes)
    lt_numbers = omega (arith, length-map nodes (λ (n : NodeId). n.0))

    turn : slice_index (numbers nodes) i ≡ (get_or nodes i (record { 0 = 0 })).0
    turn = get_or-map (λ (n : NodeId). n.0) nodes i (record { 0 = 0 }) 0 lt

    pub inside_at : (get_or nodes i (record { 0 = 0 })).0 < plan.count
    inside_at =
        subst (λ n. n < plan.count) turn
        (All-from_recursion (λ n. n < plan.count) (numbers nodes) legal.each_once.nodes i 0 lt_numbers)

    module _ {O A : Type 0} (mean : ℕ → List O → Result O Fault) (made : List (Option (Arc O A)))
        (going : IsMade (node_result mean plan) plan.count (take i (numbers nodes)) made) where
      -- the predecessors of the node whose turn it is are made
      pub ready_at : AllByRecursion (λ m. IsSome (made_at made m))
          (predecessors plan.edges (get_or nodes i (record { 0 = 0 })).0)
      ready_at = subst (λ n. AllByRecursion (λ m. IsSome (made_at made m)) (predecessors plan.edges n)) turn
          (all_map (Contains (take i (numbers nodes))) (λ m. IsSome (made_at made m))
          (λ m c. all_contained (λ n. IsSome (made_at made n)) (take i (numbers nodes)) m going.filled c)
          (predecessors plan.edges (slice_index (numbers nodes) i)) (legal.after i lt_numbers))

      pub made_next : (shared : Arc O A)
          → node_result mean plan (get_or nodes i (record { 0 = 0 })).0 ≡ Done (arc_value shared)
          → IsMade (node_result mean plan) plan.count (take (i + 1) (numbers nodes))
          (slice_set made (get_or nodes i (record { 0 = 0 })).0 (Some shared))
      made_next shared is =
          subst (λ done. IsMade (node_result mean plan) plan.count done
          (slice_set made (get_or nodes i (record { 0 = 0 })).0 (Some shared)))
          (sym (take_more (numbers nodes) i 0 lt_numbers ∙ ap (λ n. take i (numbers nodes) ++ n ∷ []) turn))
          (made_more (node_result mean plan) plan.count (take i (numbers nodes)) made going
          (get_or nodes i (record { 0 = 0 })).0 shared inside_at is)

  -- at the end of the order each node stands in what was taken of it
  pub each_taken : (i : ℕ) → length nodes ≤ i → i ≤ length nodes → (n : ℕ) → n < plan.count
      → Contains (take i (numbers nodes)) n
  each_taken i le ge n lt =
      let same : i ≡ length (numbers nodes) = omega (arith, length-map nodes (λ (n : NodeId). n.0)) in
      subst (λ (l : List ℕ). Contains l n) (sym (ap (λ j. take j (numbers nodes)) same ∙ take-length (numbers nodes)))
      (legal.each_once.each n lt)
