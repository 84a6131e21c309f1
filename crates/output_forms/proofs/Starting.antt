-- The first graph is valid, and all its axes are free.
use Rattle.std.proofs.Common.{◌≡◌, ◌<◌, ◌≤◌, ◌+◌, ◌^◌, ◌∙◌, ℕ, zero, suc, List, [], ◌∷◌, length, map, refl, Some, ap}
use Rattle.std.proofs.Common.{sym, subst, arith, add-zero}
use Rattle.std.specs.Prelude.{slice_index_or, slice_get, replicate}
use Rattle.std.specs.List.{AllByRecursion}
use Rattle.bp_faults.specs.declared.ids.ModuleId.{ModuleId}
use Rattle.bp_faults.specs.declared.limits.TheConstants.{MOST_MODULES}
use Rattle.bp_props.specs.declared.module.Module.{Module}
use Rattle.bp_props.specs.declared.props.Props.{Props}
use Rattle.serial_pass.specs.declared.plan.PlanEdge.{PlanEdge}
use Rattle.graph_nodes.specs.declared.graph.Edge.{Edge}
use Rattle.graph_nodes.specs.declared.graph.Node.{Node}
use Rattle.graph_nodes.specs.declared.variation.Variation.TheVariants.{Empty}
use Rattle.graph_nodes.specs.declared.variations.Axis.{Axis}
use Rattle.graph_nodes.specs.declared.variations.Axis.TheVariants.{Target, Image, Link, PerSource, Sanitize}
use Rattle.graph_nodes.specs.Axes.{axis_index}
use Rattle.graph_nodes.specs.Nodes.{NameNodes}
use Rattle.graph_nodes.specs.Numbered.{by_number}
use Rattle.module_graph.specs.Graphs.{edges_of, outward, IsNumbered, IsValid}
use Rattle.module_graph.specs.Walks.{NoneReturns}
use Rattle.variant_graphs.specs.Splitting.{HasFreeAxis}
use Rattle.bp_pipeline.specs.First.{first_from, first_nodes}
use Rattle.bp_pipeline.specs.Inside.{AreFreeAt}

-- A graph before the pass with a number is valid and numbered, and the axes are free along which a later pass splits.
pub record IsGoodAt (p : ℕ) (nodes : List (Node Props)) : Type 0 where
  pub valid : IsValid nodes
  pub numbered : IsNumbered nodes
  pub free : AreFreeAt p nodes

length-first_from : (k : ℕ) (ms : List Module) → length (first_from k ms) ≡ length ms
length-first_from k [] = refl
length-first_from k (m ∷ ms) = ap suc (length-first_from (k + 1) ms)

no_edges : (k : ℕ) (ms : List Module)
    → by_number (λ n (x : Node Props). map (outward n) x.edges) k (first_from k ms) ≡ []
no_edges k [] = refl
no_edges k (m ∷ ms) = no_edges (k + 1) ms

-- without edges no walk returns
no_walk : NoneReturns []
no_walk n returns = let lead = returns.1 in let inside = lead.1.1 in let lt = inside.1 in absurd (omega (arith, lt))

names : (count k : ℕ) (ms : List Module)
    → AllByRecursion (λ (x : Node Props). AllByRecursion (λ (e : Edge). e.to.0 < count) x.edges) (first_from k ms)
names count k [] = tt
names count k (m ∷ ms) = (tt, names count (k + 1) ms)

module_at : (k : ℕ) (ms : List Module) (i : ℕ) (d : Node Props) → i < length (first_from k ms)
    → (slice_index_or (first_from k ms) i d).«module».0 ≡ k + i
module_at k [] i d within = absurd (omega (arith, within))
module_at k (m ∷ ms) zero d within = sym (add-zero k)
module_at k (m ∷ ms) (suc i) d within =
    let next : (k + 1) + i ≡ k + suc i = omega arith in module_at (k + 1) ms i d (omega (arith, within)) ∙ next

free_here : (axis : Axis) → slice_get (replicate 5 Empty) (axis_index axis) ≡ Some Empty
free_here Target = refl
free_here Image = refl
free_here Link = refl
free_here PerSource = refl
free_here Sanitize = refl

all_free : (axis : Axis) (k : ℕ) (ms : List Module) → HasFreeAxis axis (first_from k ms)
all_free axis k [] = tt
all_free axis k (m ∷ ms) = (free_here axis, all_free axis (k + 1) ms)

pub started : (ms : List Module) → length ms ≤ MOST_MODULES → IsGoodAt 0 (first_nodes ms)
started ms few =
    let many = length-first_from 0 ms in
    let bare : edges_of (first_nodes ms) ≡ [] = no_edges 0 ms in
    let ends : NameNodes (first_nodes ms) = names (length (first_nodes ms)) 0 ms in
    record {
      valid = record {
        ends = ends;
        distinct = λ i j d ij jl same vars.
            let first = module_at 0 ms i d (omega (arith, ij, jl)) in
            let second = module_at 0 ms j d jl in
            let equal : 0 + i ≡ 0 + j = sym first ∙ ap (λ (m : ModuleId). m.0) same ∙ second in
            omega (arith, ij, equal);
        acyclic = subst NoneReturns (sym bare) no_walk;
      };
      numbered = record {
        few_nodes = omega (arith, many, few);
        few_edges = subst (λ (es : List PlanEdge). length es < 2 ^ 32) (sym bare) (omega arith);
        ends = ends;
      };
      free = λ axis later. all_free axis 0 ms;
    }
