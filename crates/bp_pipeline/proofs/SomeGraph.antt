-- The first mutators come to something, since each pass does.
use Rattle.std.proofs.Common.{◌≤◌, ℕ, zero, suc, List, Ok, Err, length, refl, subst}
use Rattle.std.specs.Prelude.{IfOk}
use Rattle.bp_faults.specs.Phases.{HasOutcome, IsOnce}
use Rattle.bp_faults.specs.declared.limits.TheConstants.{MOST_MODULES}
use Rattle.bp_props.specs.declared.module.Module.{Module}
use Rattle.bp_props.specs.declared.props.Props.{Props}
use Rattle.graph_nodes.specs.declared.graph.Node.{Node}
use Rattle.module_graph.specs.Graphs.{IsValid}
use Rattle.mutator_rules.specs.declared.config.Config.{Config}
use Rattle.mutator_rules.specs.Conditions.{MayRun, indices_in}
use Rattle.mutator_rules.specs.Configs.{TargetsDiffer}
use Rattle.bp_pipeline.specs.Course.{CourseMeans, GraphAfter}
use Rattle.bp_pipeline.specs.First.{first_nodes}
use Rattle.bp_pipeline.specs.Mutators.{passes_of}
use Rattle.bp_pipeline.specs.Passes.{Outcome}
use Rattle.bp_pipeline.specs.Ready.{IsReadyForPass, SomeStep}
use Rattle.bp_pipeline.proofs.Beginning.{first_free, first_usable}
use Rattle.bp_pipeline.proofs.SomeStep.{Comes}

-- The first graph is ready for the first pass.
pub first_ready : (mods : List Module) → length mods ≤ MOST_MODULES → IsReadyForPass (length mods) 0 (first_nodes mods)
first_ready mods few = (first_usable mods (first_nodes mods) few refl, first_free mods (first_nodes mods) refl)

module _ (step : SomeStep) (mods : List Module) (few : length mods ≤ MOST_MODULES) (c : Config)
    (differ : TargetsDiffer c)
  where
    pub course_some : (p : ℕ) → Comes (CourseMeans mods c p) (IsReadyForPass (length mods) p)
    course_some zero = (Ok (first_nodes mods), refl, first_ready mods few)
    course_some (suc p) = let so_far = course_some p in by so_far.0 so_far.1 so_far.2
      where
        by : (outcome : Outcome) → CourseMeans mods c p outcome → IfOk outcome (IsReadyForPass (length mods) p)
            → Comes (CourseMeans mods c (suc p)) (IsReadyForPass (length mods) (suc p))
        by (Ok nodes) means ready =
            let next = step mods c p nodes differ ready in (next.0, (Ok nodes, means, next.1), next.2)
        by (Err fault) means ready = (Err fault, (Err fault, means, refl), tt)

    pub some_graph : (k : ℕ) → HasOutcome (GraphAfter mods c k)
    some_graph k = let made = course_some (passes_of k) in (made.0, made.1)

    -- The graph that they come to is that one.
    pub valid_graph : (k : ℕ) (nodes : List (Node Props)) → IsOnce (GraphAfter mods c k)
        → GraphAfter mods c k (Ok nodes)
        → IsValid nodes × MayRun (indices_in (length mods)) nodes
    valid_graph k nodes once means =
        let made = course_some (passes_of k) in
        let same = once made.0 (Ok nodes) made.1 means in
        let ready = subst (λ (o : Outcome). IfOk o (IsReadyForPass (length mods) (passes_of k))) same made.2 in
        (ready.0.valid, ready.0.may)
