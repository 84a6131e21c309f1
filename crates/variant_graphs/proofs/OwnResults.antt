-- A pass makes what nodes have of their own.
use Rattle.std.proofs.Common.{◌≡◌, ◌∙◌, ◌<◌, ap, subst, sym, refl, arith, length, map, get_or, zero-add, ℕ, zero, suc}
use Rattle.std.proofs.Common.{List, [], ◌∷◌, Some, Result, Ok}
use Rattle.std.specs.Prelude.{slice_get, Contains}
use Rattle.std.specs.List.{AllByRecursion, range_with_len}
use Rattle.std.proofs.lemmas.List.{length-map, same_lists}
use Rattle.std.proofs.lemmas.List.Elements.{Contains-get_or}
use Rattle.std.proofs.lemmas.List.FromFn.{length-map-range_with_len, get_or-map-range_with_len}
use Rattle.std.proofs.lemmas.Option.{slice_get_within}
use Rattle.bp_faults.proofs.Lists.{same_at, some_there}
use Rattle.bp_faults.specs.declared.fault.Fault.{Fault}
use Rattle.serial_pass.specs.Laws.{OneSolution, PredecessorsAreNodes}
use Rattle.serial_pass.specs.Outcomes.{PassOutcomeMeans}
use Rattle.serial_pass.specs.Plans.{IsPlan, HasNoCycle, predecessors}
use Rattle.serial_pass.specs.Results.{NodeResult, Done, Poisoned, all_outs, cons_if, judged_result, node_result}
use Rattle.serial_pass.specs.Results.{result_of_visit}
use Rattle.graph_nodes.specs.declared.graph.Node.{Node}
use Rattle.module_graph.specs.declared.direction.Direction.{Direction}
use Rattle.module_graph.specs.Planned.{plan_edges, plan_of}

module _ {P O : Type 0} (own : Node P → O) where
  own_here : (nodes : List (Node P)) (n : ℕ) (x : Node P) → slice_get nodes n ≡ Some x
      → get_or (map own nodes) n (own x) ≡ own x
  own_here [] n x is = refl
  own_here (y ∷ ys) zero x is = cc
  own_here (y ∷ ys) (suc n) x is = own_here ys n x is

  has_own : (nodes : List (Node P)) (n : ℕ) (x : Node P) → slice_get nodes n ≡ Some x
      → Contains (map own nodes) (own x)
  has_own nodes n x is =
      let long = length-map nodes own in
      let lt = slice_get_within nodes n x is in
      subst (Contains (map own nodes)) (own_here nodes n x is)
      (Contains-get_or (map own nodes) n (own x) (omega arith))

  -- the result of a node is what it has
  abbrev own_result : List (Node P) → ℕ → NodeResult O
  own_result nodes n = get_or (map Done (map own nodes)) n Poisoned

  own_at : (nodes : List (Node P)) (n : ℕ) (x : Node P) → slice_get nodes n ≡ Some x
      → own_result nodes n ≡ Done (own x)
  own_at [] n x is = cc
  own_at (y ∷ ys) zero x is = cc
  own_at (y ∷ ys) (suc n) x is = own_at ys n x is

  -- what some nodes have is all there
  all_own : (nodes : List (Node P)) (ms : List ℕ) → AllByRecursion (λ m. m < length nodes) ms
      → (ins : List O) × (all_outs (map (own_result nodes) ms) ≡ Some ins)
      × AllByRecursion (Contains (map own nodes)) ins
  all_own nodes [] h = ([], refl, tt)
  all_own nodes (m ∷ ms) h =
      let x = some_there nodes m h.0 in
      let rest = all_own nodes ms h.1 in (
        own x.0 ∷ rest.0,
        ap (λ (r : NodeResult O). all_outs (r ∷ map (own_result nodes) ms)) (own_at nodes m x.0 x.1)
            ∙ ap (cons_if (own x.0)) rest.1,
        (has_own nodes m x.0 x.1, rest.2),
      )

  module _ (solution : OneSolution O) (inside : PredecessorsAreNodes) (dir : Direction) (nodes : List (Node P))
      (mean : ℕ → List O → Result O Fault) (is_plan : IsPlan (plan_of dir nodes))
      (free : HasNoCycle (plan_edges dir nodes))
      (keeps : (n : ℕ) (ins : List O) (x : Node P) → slice_get nodes n ≡ Some x
      → AllByRecursion (Contains (map own nodes)) ins → mean n ins ≡ Ok (own x)) where
    equation : (n : ℕ) → n < length nodes
        → own_result nodes n
        ≡ judged_result (mean n) (all_outs (map (own_result nodes) (predecessors (plan_edges dir nodes) n)))
    equation n lt =
        let x = some_there nodes n lt in
        let ins = all_own nodes (predecessors (plan_edges dir nodes) n)
        (inside (length nodes) (plan_edges dir nodes) n is_plan.ends) in
        own_at nodes n x.0 x.1 ∙ ap result_of_visit (sym (keeps n ins.0 x.0 x.1 ins.2))
        ∙ ap (judged_result (mean n)) (sym ins.1)

    pub own_made : PassOutcomeMeans mean (plan_of dir nodes) (Ok (map own nodes))
    own_made =
        let results = node_result mean (plan_of dir nodes) in
        let made = map Done (map own nodes) in
        let long : length made ≡ length nodes = length-map (map own nodes) Done ∙ length-map nodes own in
        same_lists made (map results (range_with_len 0 (length nodes)))
        (long ∙ sym (length-map-range_with_len results 0 (length nodes)))
        (λ k d lt. let below : k < length nodes = omega (arith, lt, long) in
        same_at made k d Poisoned lt
        ∙ solution mean (plan_of dir nodes) (own_result nodes) is_plan free equation k below
        ∙ sym (get_or-map-range_with_len results 0 (length nodes) k k d below (zero-add k)))
