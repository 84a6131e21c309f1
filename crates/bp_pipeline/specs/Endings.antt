-- How the passes end with a fault.
use Rattle.std.specs.Prelude.{◌≡◌, ◌<◌, ◌⊎◌, ℕ, suc, List, Err}
use Rattle.bp_faults.specs.declared.fault.Fault.{Fault}
use Rattle.bp_faults.specs.declared.ids.NodeId.{NodeId}
use Rattle.bp_props.specs.declared.module.Module.{Module}
use Rattle.bp_props.specs.declared.props.Props.{Props}
use Rattle.build_actions.specs.Acts.{acts_at}
use Rattle.graph_nodes.specs.declared.graph.Node.{Node}
use Rattle.module_graph.specs.declared.direction.Direction.TheVariants.{BottomUp}
use Rattle.module_graph.specs.Planned.{plan_of}
use Rattle.mutator_rules.specs.declared.config.Config.{Config}
use Rattle.serial_pass.specs.Outcomes.{PassMeans}
use Rattle.bp_pipeline.specs.Journals.{HasRun, IsJournal, plan_at}
use Rattle.bp_pipeline.specs.Mutators.{passes}
use Rattle.bp_pipeline.specs.Passes.{StepMeans, pass_at}

module _ (mods : List Module) (c : Config) where
  -- The pass with a number makes a fault of a graph. The actions are the last pass, behind those of the mutators.
  abbrev pub EndsIn : ℕ → List (Node Props) → Fault → Type 0
  EndsIn p nodes fault =
      ((p < passes) × StepMeans mods c (pass_at p) nodes (Err fault))
      ⊎ ((p ≡ passes) × PassMeans (acts_at mods nodes) (plan_of BottomUp nodes) (Err fault))

  -- A pass ends with a fault, and all nodes of its plan were visited.
  pub record IsFaulty (p : ℕ) (whole : List (ℕ × NodeId)) (fault : Fault) : Type 0 where
    pub nodes : List (Node Props)
    pub earlier : List (ℕ × NodeId)
    pub mutated : IsJournal mods c p nodes earlier
    pub run : HasRun (plan_at p nodes) (suc p) earlier whole
    pub ends : EndsIn p nodes fault
