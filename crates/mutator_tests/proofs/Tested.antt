-- The graphs of the tests.
use Rattle.std.proofs.Common.{◌≡◌, ◌≢◌, ◌∙◌, ◌+◌, ◌<◌, ◌≤◌, ◌^◌, ◌++◌, ℕ, zero, suc, List, [], ◌∷◌, length, map, get_or}
use Rattle.std.proofs.Common.{take, ap, sym, subst, arith, zero-add, Option, Result, Ok, Err}
use Rattle.std.specs.List.{AllByRecursion, AllPairs, range_with_len}
use Rattle.std.specs.Option.{option_map_or}
use Rattle.std.proofs.lemmas.List.{length-append, length-map}
use Rattle.std.proofs.lemmas.List.FromFn.{length-map-range_with_len, get_or-map-range_with_len, map-range_with_len_more}
use Rattle.bp_faults.specs.declared.fault.Fault.{Fault}
use Rattle.bp_faults.specs.declared.ids.ModuleId.{ModuleId}
use Rattle.bp_faults.specs.declared.ids.NodeId.{NodeId}
use Rattle.bp_faults.proofs.Lists.{all_pushed, take-more, take-past}
use Rattle.graph_nodes.specs.declared.graph.Edge.{Edge}
use Rattle.graph_nodes.specs.declared.graph.Node.{Node}
use Rattle.graph_nodes.specs.declared.variation.Variation.{Variation}
use Rattle.graph_nodes.specs.declared.variation.Variation.TheVariants.{Empty, PerSource}
use Rattle.module_graph.specs.Graphs.{outward, edges_of, IsNumbered}
use Rattle.module_graph.specs.Laws.{OneMoreNode}
use Rattle.mutator_rules.specs.declared.split.Split.{Split}
use Rattle.mutator_rules.specs.Idle.{LeavesAll}
use Rattle.mutator_kinds.specs.BottomUp.{ResultsDiffer}
use Rattle.mutator_tests.specs.Kinds.{OwnModules, numbered_variant, split_at, staying, number_at}

pub own_pushed : (k : ℕ) (xs : List (Node NodeId)) (x : Node NodeId) → OwnModules k xs → x.«module».0 ≡ k + length xs
    → OwnModules k (xs ++ x ∷ [])
own_pushed k [] x h is = (is ∙ omega arith, tt)
own_pushed k (y ∷ ys) x h is = (h.0, own_pushed (suc k) ys x h.1 (is ∙ omega arith))

own_at : (k : ℕ) (xs : List (Node NodeId)) (i : ℕ) (d : Node NodeId) → OwnModules k xs → i < length xs
    → (get_or xs i d).«module».0 ≡ k + i
own_at k [] i d h lt = absurd (omega arith)
own_at k (x ∷ xs) zero d h lt = h.0 ∙ omega arith
own_at k (x ∷ xs) (suc i) d h lt = own_at (suc k) xs i d h.1 (omega arith) ∙ omega arith

pub own_differ : (xs : List (Node NodeId)) → OwnModules 0 xs
    → AllPairs (λ (x y : Node NodeId). x.«module» ≡ y.«module» → x.vars ≡ y.vars → ⊥) xs
own_differ xs h i j d lt inside same vars =
    let a = own_at 0 xs i d h (omega arith) in
    let b = own_at 0 xs j d h inside in
    let e = ap (λ (m : ModuleId). m.0) same in
    omega (arith, a, b, e, lt)

-- the nodes so far
pub record IsNumberedSoFar (nodes : List (Node NodeId)) (count many : ℕ) : Type 0 where
  pub ends : AllByRecursion (λ (x : Node NodeId). AllByRecursion (λ (e : Edge). e.to.0 < count) x.edges) nodes
  pub counted : many ≡ length (edges_of nodes)
  pub few : many < 2 ^ 32

pub so_far_more : OneMoreNode NodeId → (nodes : List (Node NodeId)) (i many : ℕ) (x : Node NodeId) (es : List Edge)
    → i < length nodes → x ≡ get_or nodes i x → es ≡ x.edges → IsNumberedSoFar (take i nodes) (length nodes) many
    → AllByRecursion (λ (e : Edge). e.to.0 < length nodes) es → many + length es < 2 ^ 32
    → IsNumberedSoFar (take (i + 1) nodes) (length nodes) (many + length es)
so_far_more one nodes i many x es lt read of so_far inside few =
    let more = take-more nodes i x lt read in
    let edges : length (edges_of (take (i + 1) nodes)) ≡ length (edges_of (take i nodes)) + length x.edges =
    ap (λ (l : List (Node NodeId)). length (edges_of l)) more
    ∙ ap length (one (take i nodes) x)
    ∙ length-append (edges_of (take i nodes)) (map (outward (length (take i nodes))) x.edges)
    ∙ ap (λ n. length (edges_of (take i nodes)) + n) (length-map x.edges (outward (length (take i nodes)))) in
    let same = ap length of in
    let old = so_far.counted in
    record {
      ends =
          subst (λ (l : List (Node NodeId)). AllByRecursion (λ (y : Node NodeId).
          AllByRecursion (λ (e : Edge). e.to.0 < length nodes) y.edges) l) (sym more)
          (all_pushed (λ (y : Node NodeId). AllByRecursion (λ (e : Edge). e.to.0 < length nodes) y.edges)
          (take i nodes) x so_far.ends
          (subst (λ (l : List Edge). AllByRecursion (λ (e : Edge). e.to.0 < length nodes) l) of inside));
      counted = omega (arith, edges, same, old);
      few = few;
    }

pub all_numbered : (nodes : List (Node NodeId)) (i many : ℕ) → length nodes ≤ i
    → IsNumberedSoFar (take i nodes) (length nodes) many → length nodes < 2 ^ 32 → IsNumbered nodes
all_numbered nodes i many le so_far few =
    let whole = take-past i nodes le in
    let edges = ap (λ (l : List (Node NodeId)). length (edges_of l)) whole in
    let count = so_far.counted in
    let lt = so_far.few in
    record {
      few_nodes = few;
      few_edges = omega (arith, edges, count, lt);
      ends =
          subst (λ (l : List (Node NodeId)). AllByRecursion (λ (x : Node NodeId).
          AllByRecursion (λ (e : Edge). e.to.0 < length nodes) x.edges) l) whole so_far.ends;
    }

source_of : Variation → ℕ
source_of (PerSource i) = i
source_of v = 0

made_or : Split NodeId → Result (Split NodeId) Fault → Split NodeId
made_or d (Ok made) = made
made_or d (Err fault) = d

pub variants_differ : (nodes : List (Node NodeId))
    → ResultsDiffer (λ nodes n (ins : List (Split NodeId)). split_at nodes n) nodes
unfolding made_or source_of
variants_differ nodes n ins made lt is =
    subst (λ (s : Split NodeId). AllPairs (λ (b c : Variation × NodeId). b.0 ≢ c.0) s.variants)
    (ap (made_or made) is) pairs
  where
    pairs : AllPairs (λ (b c : Variation × NodeId). b.0 ≢ c.0)
        (map numbered_variant (range_with_len 0 (number_at nodes n)))
    pairs i j d less inside same =
        let count = number_at nodes n in
        let many = length-map-range_with_len numbered_variant 0 count in
        let a = get_or-map-range_with_len numbered_variant 0 count i i d (omega (arith, many)) (omega arith) in
        let b = get_or-map-range_with_len numbered_variant 0 count j j d (omega (arith, many)) (omega arith) in
        let e : i ≡ j =
        ap source_of (ap (λ (p : Variation × NodeId). p.0) (sym a) ∙ same ∙ ap (λ (p : Variation × NodeId). p.0) b) in
        omega (arith, e, less)

pub number_is : (nodes : List (Node NodeId)) (n : ℕ) (x : Node NodeId) → n < length nodes → x ≡ get_or nodes n x
    → x.payload.0 ≡ number_at nodes n
number_is [] n x lt is = absurd (omega arith)
number_is (y ∷ ys) zero x lt is = ap (λ (z : Node NodeId). z.payload.0) is
number_is (y ∷ ys) (suc n) x lt is = number_is ys n x (omega arith) is

pub one_more_variant : (old new : List (Variation × NodeId)) (i : ℕ) → old ≡ map numbered_variant (range_with_len 0 i)
    → new ≡ old ++ numbered_variant i ∷ [] → new ≡ map numbered_variant (range_with_len 0 (i + 1))
one_more_variant old new i was grown =
    grown
    ∙ ap (λ l. l ++ numbered_variant i ∷ []) was
    ∙ sym (map-range_with_len_more numbered_variant 0 i i (zero-add i))

abbrev stays_by : Option (Node NodeId) → Result (Split NodeId) Fault
stays_by o = Ok (record {
  variants = (Empty, record { 0 = option_map_or (λ (x : Node NodeId). x.payload.0) o 0 }) ∷ [];
  requests = [];
})

pub nodes_stay : (nodes : List (Node NodeId)) → LeavesAll (λ nodes n (ins : List (Split NodeId)). staying nodes n) nodes
nodes_stay nodes n ins x is = ap stays_by is
