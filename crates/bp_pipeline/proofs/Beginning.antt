-- The first graph, a module at a time, and that it is valid.
use Rattle.std.proofs.Common.{◌≡◌, ◌<◌, ◌≤◌, ◌+◌, ◌^◌, ◌++◌, ◌∙◌, ℕ, zero, suc, List, [], ◌∷◌, length, map, take}
use Rattle.std.proofs.Common.{get_or, refl}
use Rattle.std.proofs.Common.{ap, sym, subst, arith, add-zero}
use Rattle.std.specs.Prelude.{slice_index_or, slice_get, replicate, Some}
use Rattle.std.specs.List.{AllByRecursion, AllPairs}
use Rattle.std.proofs.lemmas.List.{take_more, length-take}
use Rattle.bp_faults.specs.declared.ids.ModuleId.{ModuleId}
use Rattle.bp_faults.specs.declared.limits.TheConstants.{MOST_MODULES}
use Rattle.bp_props.specs.declared.module.Module.{Module}
use Rattle.bp_props.specs.declared.props.Props.{Props}
use Rattle.serial_pass.specs.declared.plan.PlanEdge.{PlanEdge}
use Rattle.graph_nodes.specs.declared.graph.Edge.{Edge}
use Rattle.graph_nodes.specs.declared.graph.Node.{Node}
use Rattle.graph_nodes.specs.declared.variation.Variation.TheVariants.{Empty}
use Rattle.graph_nodes.specs.declared.variations.Axis.{Axis}
use Rattle.graph_nodes.specs.declared.variations.Axis.TheVariants.{Target, Image, Link, PerSource, Sanitize}
use Rattle.graph_nodes.specs.Axes.{axis_index}
use Rattle.graph_nodes.specs.Nodes.{NameNodes}
use Rattle.graph_nodes.specs.Numbered.{by_number}
use Rattle.module_graph.specs.Graphs.{edges_of, outward}
use Rattle.module_graph.specs.Walks.{NoneReturns}
use Rattle.mutator_rules.specs.Conditions.{indices_in}
use Rattle.variant_graphs.specs.Splitting.{HasFreeAxis}
use Rattle.bp_pipeline.specs.First.{first_from, first_node, first_nodes}
use Rattle.bp_pipeline.specs.Inside.{IsUsable, AreFreeAt}

from_more : (k : ℕ) (ms : List Module) (m : Module)
    → first_from k (ms ++ m ∷ []) ≡ first_from k ms ++ first_node (k + length ms) m ∷ []
from_more k [] m = ap (λ n. first_node n m ∷ []) (sym (add-zero k))
from_more k (x ∷ xs) m =
    let next : (k + 1) + length xs ≡ k + suc (length xs) = omega arith in
    ap (λ rest. first_node k x ∷ rest)
    (from_more (k + 1) xs m ∙ ap (λ n. first_from (k + 1) xs ++ first_node n m ∷ []) next)

-- one module more
pub first_more : (ms : List Module) (i : ℕ) (m : Module) (made after : List (Node Props)) → i < length ms
    → m ≡ get_or ms i m → made ≡ first_nodes (take i ms) → after ≡ made ++ first_node i m ∷ []
    → after ≡ first_nodes (take (i + 1) ms)
first_more ms i m made after within is so_far more =
    let many : i ≡ 0 + length (take i ms) = omega (arith, length-take i ms) in
    more ∙ ap (λ nodes. nodes ++ first_node i m ∷ []) so_far
    ∙ ap (λ n. first_nodes (take i ms) ++ first_node n m ∷ []) many
    ∙ sym (from_more 0 (take i ms) m)
    ∙ ap (λ x. first_nodes (take i ms ++ x ∷ [])) is
    ∙ ap first_nodes (sym (take_more ms i m within))

length-first_from : (k : ℕ) (ms : List Module) → length (first_from k ms) ≡ length ms
length-first_from k [] = refl
length-first_from k (m ∷ ms) = ap suc (length-first_from (k + 1) ms)

-- without edges no walk returns
no_edges : (k : ℕ) (ms : List Module)
    → by_number (λ n (x : Node Props). map (outward n) x.edges) k (first_from k ms) ≡ []
no_edges k [] = refl
no_edges k (m ∷ ms) = no_edges (k + 1) ms

no_walk : NoneReturns []
no_walk n returns = let lead = returns.1 in let inside = lead.1.1 in let lt = inside.1 in absurd (omega arith)

names : (count k : ℕ) (ms : List Module)
    → AllByRecursion (λ (x : Node Props). AllByRecursion (λ (e : Edge). e.to.0 < count) x.edges) (first_from k ms)
names count k [] = tt
names count k (m ∷ ms) = (tt, names count (k + 1) ms)

module_at : (k : ℕ) (ms : List Module) (i : ℕ) (d : Node Props) → i < length (first_from k ms)
    → (slice_index_or (first_from k ms) i d).«module».0 ≡ k + i
module_at k [] i d within = absurd (omega arith)
module_at k (m ∷ ms) zero d within = sym (add-zero k)
module_at k (m ∷ ms) (suc i) d within =
    let next : (k + 1) + i ≡ k + suc i = omega arith in module_at (k + 1) ms i d (omega arith) ∙ next

distinct : (ms : List Module)
    → AllPairs (λ (x y : Node Props). x.«module» ≡ y.«module» → x.vars ≡ y.vars → ⊥) (first_nodes ms)
distinct ms i j d before within same vars =
    let first = module_at 0 ms i d (omega arith) in
    let second = module_at 0 ms j d within in
    let equal : 0 + i ≡ 0 + j = sym first ∙ ap (λ (m : ModuleId). m.0) same ∙ second in
    omega (arith, equal)

accepted : (count k : ℕ) (ms : List Module) → k + length ms ≤ count
    → AllByRecursion (λ (x : Node Props). indices_in count x.«module».0) (first_from k ms)
accepted count k [] few = tt
accepted count k (m ∷ ms) few = (omega arith, accepted count (k + 1) ms (omega arith))

usable : (ms : List Module) → length ms ≤ MOST_MODULES → IsUsable (length ms) (first_nodes ms)
usable ms few =
    let many = length-first_from 0 ms in
    let bare : edges_of (first_nodes ms) ≡ [] = no_edges 0 ms in
    let ends : NameNodes (first_nodes ms) = names (length (first_nodes ms)) 0 ms in
    record {
      valid = record {
        ends = ends;
        distinct = distinct ms;
        acyclic = subst NoneReturns (sym bare) no_walk;
      };
      may = record {
        numbered = record {
          few_nodes = omega (arith, many);
          few_edges = subst (λ (es : List PlanEdge). length es < 2 ^ 32) (sym bare) (omega arith);
          ends = ends;
        };
        accepted = accepted (length ms) 0 ms (omega arith);
      };
    }

-- the first graph is usable
pub first_usable : (ms : List Module) (nodes : List (Node Props)) → length ms ≤ MOST_MODULES → nodes ≡ first_nodes ms
    → IsUsable (length ms) nodes
first_usable ms nodes few is = subst (IsUsable (length ms)) (sym is) (usable ms few)

all_free : (axis : Axis) (k : ℕ) (ms : List Module) → HasFreeAxis axis (first_from k ms)
all_free axis k [] = tt
all_free axis k (m ∷ ms) = (free_here axis, all_free axis (k + 1) ms)
  where
    free_here : (axis : Axis) → slice_get (replicate 5 Empty) (axis_index axis) ≡ Some Empty
    free_here Target = refl
    free_here Image = refl
    free_here Link = refl
    free_here PerSource = refl
    free_here Sanitize = refl

-- in the first graph all axes are free
pub first_free : (ms : List Module) (nodes : List (Node Props)) → nodes ≡ first_nodes ms → AreFreeAt 0 nodes
first_free ms nodes is axis before = subst (HasFreeAxis axis) (sym is) (all_free axis 0 ms)
