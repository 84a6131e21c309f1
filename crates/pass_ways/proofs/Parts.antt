-- Parts of passes: lists of nodes of which each was ready.
use Rattle.std.proofs.Common.{◌≡◌, ◌≢◌, ◌<◌, ◌≤◌, ℕ, zero, suc, List, [], ◌∷◌, length, take, refl, ap, sym, ◌∙◌}
use Rattle.std.proofs.Common.{subst, arith}
use Rattle.std.specs.Prelude.{slice_index}
use Rattle.std.specs.List.{AllByRecursion, AllPairs, Contains}
use Rattle.std.proofs.lemmas.List.{get_or-take, length-take-le, take-map}
use Rattle.bp_faults.specs.declared.ids.NodeId.{NodeId}
use Rattle.bp_faults.proofs.Lists.{contains_earlier, same_at}
use Rattle.serial_pass.specs.declared.plan.Plan.{Plan}
use Rattle.serial_pass.specs.Orders.{numbers}
use Rattle.pass_core.specs.OrderOutcomes.{IsReadyAfter, IsReadyAt, IsFirstRefused, IsShort}
use Rattle.pass_ways.specs.OrderFiles.{IsPart}
use Rattle.pass_ways.proofs.Lacking.{one_lacks, fewer_where_one_lacks}

pub take_take : {X : Type 0} (xs : List X) (i j : ℕ) → j ≤ i → take j (take i xs) ≡ take j xs
take_take xs i zero le = refl
take_take [] zero (suc j) le = refl
take_take [] (suc i) (suc j) le = refl
take_take (x ∷ xs) zero (suc j) le = absurd (omega arith)
take_take (x ∷ xs) (suc i) (suc j) le = ap (λ (l : List _). x ∷ l) (take_take xs i j (omega arith))

all_from_each : (P : ℕ → Type 0) (xs : List ℕ) → ((i : ℕ) → i < length xs → P (slice_index xs i)) → AllByRecursion P xs
all_from_each P [] h = tt
all_from_each P (x ∷ xs) h = (h 0 (omega arith), all_from_each P xs (λ i lt. h (suc i) (omega arith)))

module _ (plan : Plan) (order : List ℕ) (ready : (index : ℕ) → index < length order → IsReadyAt plan order index) where
  pub ready_inside : AllByRecursion (λ n. n < plan.count) order
  ready_inside = all_from_each (λ n. n < plan.count) order (λ i lt. (ready i lt).inside)

  pub ready_apart : AllPairs (λ m n. m ≢ n) order
  ready_apart i j d lt within same =
      (ready j within).unvisited (contains_earlier order (slice_index order j) j i lt within (same_at order i
      (slice_index order j) d (omega arith) ∙ same ∙ same_at order j d 0 within))

  pub short_fewer : ((n : ℕ) × (n < plan.count) × (Contains order n → ⊥)) → length order < plan.count
  short_fewer missing = fewer_where_one_lacks order plan.count missing.0 ready_inside ready_apart missing.1 missing.2

module _ (plan : Plan) (order : List ℕ) where
  -- before the first entry that is refused some node isn't visited
  pub refused_part : (k : ℕ) → IsFirstRefused plan order k → length order ≤ plan.count → IsPart plan (take k order)
  refused_part k first few =
      let many : length (take k order) ≡ k = length-take-le k order (let e = first.inside in omega arith) in
      let ready : (index : ℕ) → index < length (take k order) → IsReadyAt plan (take k order) index = λ index lt.
      let less : index < k = omega arith in
      subst (λ (l : List ℕ). IsReadyAfter plan l (slice_index (take k order) index)) (sym (take_take order k index
      (omega arith)))
      (subst (IsReadyAfter plan (take index order)) (sym (get_or-take k order index 0 less)) (first.ready index less))
      in
      let e = first.inside in
      record { ready = ready; missing = one_lacks (take k order) plan.count (omega arith) }

  -- a list that is short of nodes is a part
  pub short_part : (many : ℕ) → IsShort plan order many → IsPart plan order
  short_part many short = record { ready = short.ready; missing = short.missing }

  -- a part has fewer entries than the plan has nodes
  pub part_fewer : IsPart plan order → length order < plan.count
  part_fewer part = short_fewer plan order part.ready part.missing

pub numbers_taken : (k : ℕ) (order : List NodeId) → take k (numbers order) ≡ numbers (take k order)
numbers_taken k order = take-map (λ (n : NodeId). n.0) k order
