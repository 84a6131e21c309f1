-- Whether a node is ready, an in-edge at a time.
use Rattle.std.proofs.Common.{◌≡◌, ◌+◌, ◌<◌, ◌≤◌, ℕ, Bool, false, List, [], ◌∷◌, length, get_or, take, ap, arith, ◌∙◌}
use Rattle.std.proofs.Common.{sym, subst, Some}
use Rattle.std.specs.Prelude.{slice_get}
use Rattle.std.specs.List.{AllByRecursion}
use Rattle.std.proofs.Math.Seq.{take-length}
use Rattle.std.proofs.lemmas.Option.{slice_get-get_or}
use Rattle.std.proofs.Math.ListN.{get_or-map}
use Rattle.std.proofs.lemmas.List.{take_more, map-append, length-map}
use Rattle.std.proofs.lemmas.List.Elements.{All-from_recursion}
use Rattle.serial_pass.specs.declared.plan.PlanEdge.{PlanEdge}
use Rattle.serial_pass.specs.Plans.{sources, in_edges, predecessors, HaveEndsBelow}
use Rattle.serial_pass.specs.Laws.{PredecessorsAreNodes}
use Rattle.pass_core.specs.CoreStates.{IsMarked}
use Rattle.bp_faults.proofs.Lists.{all_pushed}

pub mark_read : (marks : List Bool) (k : ℕ) (b : Bool) → k < length marks → get_or marks k false ≡ b
    → slice_get marks k ≡ Some b
mark_read marks k b lt is = slice_get-get_or marks k false lt ∙ ap Some is

module _ (edges es : List PlanEdge) (count n : ℕ) (below : HaveEndsBelow count edges) (same : es ≡ in_edges edges n)
    (i : ℕ) (d : PlanEdge) (lt : i < length es) where
  source_has : (P : ℕ → Type 0) → AllByRecursion P (predecessors edges n) → P (get_or es i d).from.0
  source_has P all =
      let each : AllByRecursion P (sources es) =
      subst (λ (l : List PlanEdge). AllByRecursion P (sources l)) (sym same) all in
      subst P (get_or-map (λ (e : PlanEdge). e.from.0) es i d)
      (All-from_recursion P (sources es) each i d.from.0 (omega (arith, length-map es (λ (e : PlanEdge). e.from.0))))

  pub source_below : PredecessorsAreNodes → (get_or es i d).from.0 < count
  source_below nodes = source_has (λ m. m < count) (nodes count edges n below)

  module _ (marks : List Bool) where
    pub marked_one_more : AllByRecursion (IsMarked marks) (sources (take i es)) → IsMarked marks (get_or es i d).from.0
        → AllByRecursion (IsMarked marks) (sources (take (i + 1) es))
    marked_one_more before here =
        rw (take_more es i d lt, map-append (λ (e : PlanEdge). e.from.0) (take i es) (get_or es i d ∷ []))
        (all_pushed (IsMarked marks) (sources (take i es)) (get_or es i d).from.0 before here)

    pub marked_source : AllByRecursion (IsMarked marks) (predecessors edges n) → IsMarked marks (get_or es i d).from.0
    marked_source all = source_has (IsMarked marks) all

pub marked_whole : (edges es : List PlanEdge) (n i : ℕ) (marks : List Bool) → es ≡ in_edges edges n → i ≤ length es
    → length es ≤ i → AllByRecursion (IsMarked marks) (sources (take i es))
    → AllByRecursion (IsMarked marks) (predecessors edges n)
marked_whole edges es n i marks same le ge h =
    let whole : i ≡ length es = omega arith in
    subst (λ (l : List PlanEdge). AllByRecursion (IsMarked marks) (sources l))
    (ap (λ j. take j es) whole ∙ take-length es ∙ same) h
