-- The graph after the first mutators: a fold over graphs.
use Rattle.std.specs.Prelude.{◌≡◌, ℕ, zero, suc, List, Ok}
use Rattle.bp_faults.specs.Phases.{Then}
use Rattle.bp_props.specs.declared.module.Module.{Module}
use Rattle.mutator_rules.specs.declared.config.Config.{Config}
use Rattle.bp_pipeline.specs.First.{first_nodes}
use Rattle.bp_pipeline.specs.Mutators.{passes_of}
use Rattle.bp_pipeline.specs.Passes.{Outcome, StepMeans, pass_at}

module _ (mods : List Module) (c : Config) where
  -- What the first passes come to, one after another: a graph, or the first fault.
  abbrev pub CourseMeans : ℕ → Outcome → Type 0
  CourseMeans zero outcome = Ok (first_nodes mods) ≡ outcome
  CourseMeans (suc p) outcome = Then (CourseMeans p) (StepMeans mods c (pass_at p)) outcome

  -- What the first k mutators come to.
  abbrev pub GraphAfter : ℕ → Outcome → Type 0
  GraphAfter k = CourseMeans (passes_of k)
