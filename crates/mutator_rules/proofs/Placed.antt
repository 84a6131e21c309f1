-- The edges that lead to each node stand where those of its predecessors stand in the plan from the top down.
use Rattle.std.proofs.Common.{◌≡◌, ◌+◌, ◌-◌, ◌<◌, ◌≤◌, ◌^◌, ℕ, List, [], ◌∷◌, map, length, get_or, take, drop, refl, ap}
use Rattle.std.proofs.Common.{◌∙◌, sym, arith, eq-eqb, ne_eqb, zero-add, length-drop}
use Rattle.std.specs.Prelude.{slice_index, slice_range}
use Rattle.std.specs.List.{range_with_len}
use Rattle.std.proofs.Math.Decide.{dec_lt}
use Rattle.std.proofs.lemmas.Bool.Decides.{nat_tests}
use Rattle.std.proofs.lemmas.List.{length-map, length-take-le, take-map, drop-map, get_or-take, get_or-drop, ext_get_or}
use Rattle.std.proofs.lemmas.List.FromFn.{fill_by_all, get_or-map-range_with_len, length-map-range_with_len}
use mathlib.Core.Logic.{dite}
use Rattle.bp_faults.specs.declared.ids.NodeId.{NodeId}
use Rattle.serial_pass.specs.declared.plan.Plan.{Plan}
use Rattle.serial_pass.specs.declared.plan.PlanEdge.{PlanEdge}
use Rattle.serial_pass.specs.Plans.{in_edges, predecessors}
use Rattle.serial_pass.specs.InEdges.{edges_below, AreStarts}
use Rattle.graph_nodes.specs.declared.graph.EdgeKind.{EdgeKind}
use Rattle.graph_nodes.specs.declared.graph.EdgeKind.TheVariants.{Static}
use Rattle.graph_nodes.specs.declared.graph.Node.{Node}
use Rattle.module_graph.specs.declared.direction.Direction.TheVariants.{TopDown}
use Rattle.module_graph.specs.Planned.{plan_of}
use Rattle.mutator_rules.specs.Arrivals.{arrivals, all_arrivals}
use Rattle.mutator_rules.specs.Inside.{AreCuts, HaveRoom, StandFrom, pieces}
use Rattle.mutator_rules.specs.Laws.{PredecessorsAreArrivals}

below_hit : (e : PlanEdge) (es : List PlanEdge) (n : ℕ) → e.to.0 < n → edges_below (e ∷ es) n ≡ edges_below es n + 1
below_hit e es n lt = grind (arith, nat_tests)

below_miss : (e : PlanEdge) (es : List PlanEdge) (n : ℕ) → n ≤ e.to.0 → edges_below (e ∷ es) n ≡ edges_below es n
below_miss e es n le = grind (arith, nat_tests)

within_all : (es : List PlanEdge) (n : ℕ) → edges_below es n ≤ length es
within_all [] n = omega arith
within_all (e ∷ es) n = let rest = within_all es n in grind (arith, nat_tests)

below_le : (es : List PlanEdge) (a b : ℕ) → a ≤ b → edges_below es a ≤ edges_below es b
below_le [] a b le = omega arith
below_le (e ∷ es) a b le = let rest = below_le es a b le in grind (arith, nat_tests)

-- the edges below the next number are those below a number and those to it
below_more : (es : List PlanEdge) (n : ℕ) → edges_below es (n + 1) ≡ edges_below es n + length (in_edges es n)
below_more [] n = refl
below_more (e ∷ es) n =
    let rest = below_more es n in
    dite (dec_lt e.to.0 n)
    (λ less. rw (below_hit e es n less, below_hit e es (n + 1) (omega arith), ne_eqb e.to.0 n (λ same. omega arith))
    (omega arith))
    (λ other. dite (dec_lt n e.to.0)
    (λ more. rw (
      below_miss e es n (omega arith),
      below_miss e es (n + 1) (omega arith),
      ne_eqb e.to.0 n
          (λ same. omega arith),
    ) rest)
    (λ both. let same : e.to.0 ≡ n = omega arith in
    rw (below_miss e es n (omega arith), below_hit e es (n + 1) (omega arith), eq-eqb e.to.0 n same) (omega arith)))

pub cuts_of : (plan : Plan) (starts : List ℕ) (count : ℕ) → AreStarts plan starts → count ≡ length plan.edges
    → AreCuts starts count
cuts_of plan starts count st same = record {
  rise = λ n lt.
      let many = st.many in
      let from = st.begins n (omega arith) in
      let to = st.begins (n + 1) (omega arith) in
      let rises = below_le plan.edges n (n + 1) (omega arith) in
      omega arith;
  within = λ n lt.
      let many = st.many in
      let to = st.begins (n + 1) (omega arith) in
      let inside = within_all plan.edges (n + 1) in
      omega arith;
}

module _ {P : Type 0} (nodes : List (Node P)) (plan : Plan) (starts : List ℕ) (law : PredecessorsAreArrivals P)
    (is : plan ≡ plan_of TopDown nodes) (st : AreStarts plan starts) where
  count_is : plan.count ≡ length nodes
  count_is = ap (λ (p : Plan). p.count) is

  pub many_starts : length starts ≡ length nodes + 1
  many_starts = st.many ∙ ap (λ k. k + 1) count_is

  -- the edges that lead to a node end where those of the next begin
  pub ended : (t : ℕ) → t < length nodes → slice_index starts t + length (arrivals nodes t) ≡ slice_index starts (t + 1)
  ended t lt =
      let count = count_is in
      let from = st.begins t (omega arith) in
      let to = st.begins (t + 1) (omega arith) in
      let more = below_more plan.edges t in
      let many : length (in_edges plan.edges t) ≡ length (arrivals nodes t) =
      sym (length-map (in_edges plan.edges t) (λ (e : PlanEdge). e.from.0))
      ∙ ap (λ (p : Plan). length (predecessors p.edges t)) is
      ∙ ap length (law nodes t lt) ∙ length-map (arrivals nodes t) (λ (a : NodeId × EdgeKind). a.0.0) in
      omega arith

  pub room_of : length plan.edges < 2 ^ 32 → (count : ℕ) → count ≡ length plan.edges → HaveRoom
      (slice_index starts) nodes count
  room_of few count same = record {
    apart = λ t u less lt.
        let many = count_is in
        let end = ended t (omega arith) in
        let from = st.begins (t + 1) (omega arith) in
        let to = st.begins u (omega arith) in
        let rises = below_le plan.edges (t + 1) u (omega arith) in
        omega arith;
    within = λ t lt.
        let many = count_is in
        let end = ended t lt in
        let from = st.begins (t + 1) (omega arith) in
        let inside = within_all plan.edges (t + 1) in
        omega arith;
    few = omega arith;
  }

  module _ (items : List (NodeId × EdgeKind)) (all : length items ≡ length plan.edges)
      (stand : StandFrom (length nodes) (slice_index starts) (arrivals nodes) items) where
    abbrev cut_at : ℕ → List (NodeId × EdgeKind)
    cut_at n = slice_range items (slice_index starts n) (slice_index starts (n + 1))

    abbrev none : NodeId × EdgeKind
    none = (record { 0 = 0 }, Static)

    cut_is : (t : ℕ) → t < length nodes → cut_at t ≡ arrivals nodes t
    cut_is t lt =
        let many = count_is in
        let a = slice_index starts t in
        let b = slice_index starts (t + 1) in
        let end = ended t lt in
        let to = st.begins (t + 1) (omega arith) in
        let inside = within_all plan.edges (t + 1) in
        let rest = length-drop (slice_index starts t) items in
        let size : length (cut_at t) ≡ slice_index starts (t + 1) - slice_index starts t =
        length-take-le (slice_index starts (t + 1) - slice_index starts t) (drop (slice_index starts t) items)
        (omega arith) in
        ext_get_or none (cut_at t) (arrivals nodes t) (omega arith)
        (λ i li.
        get_or-take (slice_index starts (t + 1) - slice_index starts t) (drop (slice_index starts t) items) i none
        (omega arith)
        ∙ get_or-drop (slice_index starts t) items i none
        ∙ stand t i none lt (omega arith))

    pub cut_all : pieces starts items ≡ all_arrivals nodes
    cut_all =
        let many = many_starts in
        let size : length starts - 1 ≡ length nodes = omega arith in
        fill_by_all (arrivals nodes) (pieces starts items) (length nodes) [] (length-map-range_with_len cut_at 0
        (length starts - 1) ∙ size)
        (λ k lk. get_or-map-range_with_len cut_at 0 (length starts - 1) k k [] (omega arith) (zero-add k) ∙ cut_is k lk)

-- what is made of each item is cut at the same places
module _ {A B : Type 0} (f : A → B) (items : List A) where
  slice_map : (a b : ℕ) → slice_range (map f items) a b ≡ map f (slice_range items a b)
  slice_map a b = ap (take (b - a)) (drop-map f a items) ∙ take-map f (b - a) (drop a items)

  cut_each : (starts numbers : List ℕ)
      → map (λ n. slice_range (map f items) (slice_index starts n) (slice_index starts (n + 1))) numbers
      ≡ map (map f) (map (λ n. slice_range items (slice_index starts n) (slice_index starts (n + 1))) numbers)
  cut_each starts [] = refl
  cut_each starts (n ∷ numbers) =
      ap (λ (l : List B). l ∷ map (λ n. slice_range (map f items) (slice_index starts n) (slice_index starts
      (n + 1))) numbers)
      (slice_map (slice_index starts n) (slice_index starts (n + 1)))
      ∙ ap (λ (ls : List (List B)). map f (slice_range items (slice_index starts n) (slice_index starts
      (n + 1))) ∷ ls) (cut_each starts numbers)

  pub cut_map : (starts : List ℕ) → pieces starts (map f items) ≡ map (map f) (pieces starts items)
  cut_map starts = cut_each starts (range_with_len 0 (length starts - 1))

-- how many lists are cut, and each of them
module _ {A : Type 0} (starts : List ℕ) (items : List A) where
  pub cut_many : length (pieces starts items) ≡ length starts - 1
  cut_many =
      length-map-range_with_len (λ n. slice_range items (slice_index starts n) (slice_index starts (n + 1))) 0
      (length starts - 1)

  pub cut_read : (n : ℕ) → n < length starts - 1
      → get_or (pieces starts items) n [] ≡ slice_range items (slice_index starts n) (slice_index starts (n + 1))
  cut_read n lt =
      get_or-map-range_with_len (λ n. slice_range items (slice_index starts n) (slice_index starts (n + 1))) 0
      (length starts - 1)
      n n [] lt (zero-add n)
