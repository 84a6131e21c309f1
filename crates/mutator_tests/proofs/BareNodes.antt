-- The graphs of the tests are valid where no walk in them returns.
use Rattle.std.proofs.Common.{◌≡◌, ◌≢◌, ◌+◌, ◌*◌, ◌<◌, ◌≤◌, ◌==◌, ℕ, zero, suc, Bool, true, false, cond, List, [], ◌∷◌}
use Rattle.std.proofs.Common.{◌++◌, length}
use Rattle.std.proofs.Common.{map, get_or, add-zero, ap, arith, length-append, subst, Ok, Result}
use Rattle.std.specs.List.{AllByRecursion, AllPairs}
use Rattle.std.specs.Prelude.{slice_get, ⊤}
use Rattle.std.proofs.lemmas.List.{length-map}
use Rattle.bp_faults.specs.declared.ids.ModuleId.{ModuleId}
use Rattle.bp_faults.specs.declared.ids.NodeId.{NodeId}
use Rattle.graph_nodes.specs.declared.graph.Edge.{Edge}
use Rattle.graph_nodes.specs.declared.graph.Node.{Node}
use Rattle.graph_nodes.specs.declared.variation.Variation.{Variation}
use Rattle.graph_nodes.specs.declared.variation.Variation.TheVariants.{Empty, Recovery, Vendor}
use Rattle.graph_nodes.specs.declared.variations.Axis.TheVariants.{Image}
use Rattle.graph_nodes.specs.Numbered.{by_number}
use Rattle.module_graph.specs.Graphs.{outward, edges_of, IsNumbered, IsValid}
use Rattle.module_graph.specs.Walks.{NoneReturns}
use Rattle.mutator_rules.specs.Conditions.{MayRun}
use Rattle.variant_graphs.specs.Splitting.{HasFreeAxis}
use Rattle.mutator_tests.specs.Transitions.{own_of, HasNodes, IsNodeOf}

pub has_pushed : (count k : ℕ) (xs : List (Node NodeId)) (x : Node NodeId) → HasNodes count k xs
    → IsNodeOf count (k + length xs) x → HasNodes count k (xs ++ x ∷ [])
has_pushed count k [] x h here = (subst (λ n. IsNodeOf count n x) (add-zero k) here, tt)
has_pushed count k (y ∷ ys) x h here =
    let e : k + suc (length ys) ≡ (k + 1) + length ys = omega arith in
    (h.0, has_pushed count (k + 1) ys x h.1 (subst (λ n. IsNodeOf count n x) e here))

numbered_at : (count k : ℕ) (xs : List (Node NodeId)) (i : ℕ) (d : Node NodeId) → HasNodes count k xs → i < length xs
    → (get_or xs i d).«module».0 ≡ k + i
numbered_at count k [] i d h lt = absurd (omega arith)
numbered_at count k (x ∷ xs) zero d h lt = let here = h.0.numbered in omega arith
numbered_at count k (x ∷ xs) (suc i) d h lt =
    let rest = numbered_at count (k + 1) xs i d h.1 (omega arith) in omega arith

differ : (count : ℕ) (xs : List (Node NodeId)) → HasNodes count 0 xs
    → AllPairs (λ (x y : Node NodeId). x.«module» ≡ y.«module» → x.vars ≡ y.vars → ⊥) xs
differ count xs h i j d lt inside same vars =
    let a = numbered_at count 0 xs i d h (omega arith) in
    let b = numbered_at count 0 xs j d h inside in
    let e = ap (λ (m : ModuleId). m.0) same in
    omega (arith, a, b, e, lt)

ends : (count k : ℕ) (xs : List (Node NodeId)) → HasNodes count k xs
    → AllByRecursion (λ (x : Node NodeId). AllByRecursion (λ (e : Edge). e.to.0 < count) x.edges) xs
ends count k [] h = tt
ends count k (x ∷ xs) h = (h.0.inside, ends count (k + 1) xs h.1)

bare : (count k : ℕ) (xs : List (Node NodeId)) → HasNodes count k xs → HasFreeAxis Image xs
bare count k [] h = tt
bare count k (x ∷ xs) h = (ap (λ (l : List Variation). slice_get l 1) h.0.bare, bare count (k + 1) xs h.1)

few_edges : (count k : ℕ) (xs : List (Node NodeId)) → HasNodes count k xs
    → length (by_number (λ n (x : Node NodeId). map (outward n) x.edges) k xs) ≤ 4 * length xs
few_edges count k [] h = omega arith
few_edges count k (x ∷ xs) h =
    let here = h.0.few in
    let rest = few_edges count (k + 1) xs h.1 in
    let both = length-append (map (outward k) x.edges)
    (by_number (λ n (x : Node NodeId). map (outward n) x.edges) (k + 1) xs) in
    let mapped = length-map x.edges (outward k) in
    omega arith

accepted : (xs : List (Node NodeId)) → AllByRecursion (λ (x : Node NodeId). ⊤) xs
accepted [] = tt
accepted (x ∷ xs) = (tt, accepted xs)

module _ (nodes : List (Node NodeId)) (few : length nodes < 100) (each : HasNodes (length nodes) 0 nodes) where
  pub are_numbered : IsNumbered nodes
  are_numbered = record {
    few_nodes = omega arith;
    few_edges = let e = few_edges (length nodes) 0 nodes each in omega arith;
    ends = ends (length nodes) 0 nodes each;
  }

  pub are_valid : NoneReturns (edges_of nodes) → IsValid nodes
  are_valid none = record {
    ends = ends (length nodes) 0 nodes each;
    distinct = differ (length nodes) nodes each;
    acyclic = none;
  }

  pub are_bare : HasFreeAxis Image nodes
  are_bare = bare (length nodes) 0 nodes each

  pub may_be_run : MayRun (λ m. ⊤) nodes
  may_be_run = record { numbered = are_numbered; accepted = accepted nodes }

-- what a node has by itself differs
pub own_differ : (vendor recovery n : ℕ) → AllPairs (λ (v w : Variation). v ≢ w) (own_of vendor recovery n)
own_differ vendor recovery n = by (n == vendor) (n == recovery)
  where
    other : Empty ≢ Vendor
    other e = cc

    another : Empty ≢ Recovery
    another e = cc

    first_two : (v w : Variation) → v ≢ w → AllPairs (λ (x y : Variation). x ≢ y) (v ∷ w ∷ [])
    first_two v w ne zero zero d lt inside = absurd (omega arith)
    first_two v w ne zero (suc zero) d lt inside = ne
    first_two v w ne zero (suc (suc j)) d lt inside = absurd (omega arith)
    first_two v w ne (suc i) j d lt inside = absurd (omega arith)

    one : (v : Variation) → AllPairs (λ (x y : Variation). x ≢ y) (v ∷ [])
    one v i j d lt inside = absurd (omega arith)

    by : (a b : Bool) → AllPairs (λ (v w : Variation). v ≢ w)
        (cond a (Empty ∷ Vendor ∷ []) (cond b (Empty ∷ Recovery ∷ []) (Empty ∷ [])))
    by true b = first_two Empty Vendor other
    by false true = first_two Empty Recovery another
    by false false = one Empty

pub same_ok : {A E : Type 0} (x y : A) → ◌≡◌ {A = Result A E} (Ok x) (Ok y) → x ≡ y
same_ok x y e = cc
