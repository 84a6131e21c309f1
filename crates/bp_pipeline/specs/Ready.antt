-- What a pass needs of a graph, and that each pass makes something of such a graph. Bodies and laws alone use it.
use Rattle.std.specs.Prelude.{ℕ, suc, List, IfOk, length}
use Rattle.bp_props.specs.declared.module.Module.{Module}
use Rattle.bp_props.specs.declared.props.Props.{Props}
use Rattle.graph_nodes.specs.declared.graph.Node.{Node}
use Rattle.mutator_rules.specs.declared.config.Config.{Config}
use Rattle.mutator_rules.specs.Configs.{TargetsDiffer}
use Rattle.bp_pipeline.specs.Inside.{AreFreeAt, IsUsable}
use Rattle.bp_pipeline.specs.Passes.{Outcome, StepMeans, pass_at}

-- A graph is ready for the pass with a number.
abbrev pub IsReadyForPass : ℕ → ℕ → List (Node Props) → Type 0
IsReadyForPass count p nodes = IsUsable count nodes × AreFreeAt p nodes

-- Each pass makes of a graph that is ready for it a fault, or a graph that is ready for the next pass.
abbrev pub SomeStep : Type 0
SomeStep =
    (mods : List Module) (c : Config) (p : ℕ) (nodes : List (Node Props)) → TargetsDiffer c
    → IsReadyForPass (length mods) p nodes
    → (outcome : Outcome) × StepMeans mods c (pass_at p) nodes outcome
    × IfOk outcome (IsReadyForPass (length mods) (suc p))
