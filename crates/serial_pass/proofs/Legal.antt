-- The serial order is legal.
use Rattle.std.proofs.Common.{◌≡◌, ◌<◌, ℕ, List, length, get_or, take, ap, arith, ◌∙◌, sym, subst}
use Rattle.std.specs.List.{AllByRecursion, Contains}
use Rattle.std.proofs.Math.Decide.{dec_lt}
use Rattle.std.proofs.lemmas.List.Elements.{All-from_recursion}
use mathlib.Core.Logic.{dite}
use Rattle.serial_pass.specs.declared.plan.Plan.{Plan}
use Rattle.serial_pass.specs.Plans.{predecessors, HaveEndsBelow, HasNoCycle}
use Rattle.serial_pass.specs.Heights.{IsBefore}
use Rattle.serial_pass.specs.Orders.{IsSerial, IsLegal}
use Rattle.serial_pass.proofs.Unique.{never_both, before_node}
use Rattle.bp_faults.proofs.Lists.{all_map, contains_earlier, same_at}

module _ (plan : Plan) (order : List ℕ) (serial : IsSerial plan order) where
  pub node_at : (i d : ℕ) → i < length order → get_or order i d < plan.count
  node_at i d lt = All-from_recursion (λ n. n < plan.count) order serial.each_once.nodes i d lt

  -- a node that comes before another stands at an earlier index
  stands_earlier : (m i k d : ℕ) → i < length order → k < length order → get_or order k m ≡ m
      → IsBefore plan m (get_or order i d) → k < i
  stands_earlier m i k d li lk there before = dite (dec_lt k i)
      (λ less. less)
      (λ not_less. dite (dec_lt i k)
      (λ more. absurd (never_both plan m (get_or order i d) before
      (subst (λ x. IsBefore plan (get_or order i d) x) (same_at order k d m lk ∙ there) (serial.sorted i k d more lk))))
      (λ same. let e : k ≡ i = omega arith in
      let here : m ≡ get_or order i d = sym there ∙ same_at order k m d lk ∙ ap (λ j. get_or order j d) e in
      let itself : IsBefore plan m m = subst (λ x. IsBefore plan m x) (sym here) before in
      absurd (never_both plan m m itself itself)))

  pub stands_before : (m i d : ℕ) → m < plan.count → i < length order → IsBefore plan m (get_or order i d)
      → Contains (take i order) m
  stands_before m i d lm li before =
      let t = serial.each_once.each m lm in
      contains_earlier order m i t.0 (stands_earlier m i t.0 d li t.1 t.2 before) li t.2

  pub predecessors_before : HaveEndsBelow plan.count plan.edges → HasNoCycle plan.edges → (i d : ℕ) → i < length order
      → AllByRecursion (Contains (take i order)) (predecessors plan.edges (get_or order i d))
  predecessors_before below free i d li =
      all_map (λ m. (m < plan.count) × IsBefore plan m (get_or order i d)) (Contains (take i order))
      (λ m h. stands_before m i d h.0 li h.1)
      (predecessors plan.edges (get_or order i d)) (before_node plan below free (get_or order i d) (node_at i d li))

  pub serial_is_legal : HaveEndsBelow plan.count plan.edges → HasNoCycle plan.edges → IsLegal plan order
  serial_is_legal below free = record {
    each_once = serial.each_once;
    after = λ i li. predecessors_before below free i 0 li;
  }
