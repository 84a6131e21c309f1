-- What holds of every graph on the way. No definition of a graph speaks of it.
use Rattle.std.specs.Prelude.{◌≡◌, ◌≤◌, ℕ, List, ⊤, codes}
use Rattle.bp_faults.specs.declared.kind.FaultKind.TheVariants.{TooMany}
use Rattle.bp_faults.specs.declared.refusal.Refusal.{Refusal}
use Rattle.bp_faults.specs.declared.refusal.Refusal.TheVariants.{Bad, OutOfMemory}
use Rattle.bp_faults.specs.Faults.{fault_on}
use Rattle.bp_props.specs.declared.module.Module.{Module}
use Rattle.bp_props.specs.declared.props.Props.{Props}
use Rattle.graph_nodes.specs.declared.graph.Node.{Node}
use Rattle.graph_nodes.specs.declared.variations.Axis.{Axis}
use Rattle.graph_nodes.specs.declared.variations.Axis.TheVariants.{Target, Image, Link, PerSource, Sanitize}
use Rattle.module_graph.specs.Graphs.{IsValid}
use Rattle.variant_graphs.specs.declared.error.StepError.{StepError}
use Rattle.variant_graphs.specs.declared.error.StepError.TheVariants.{Kind, Refused}
use Rattle.variant_graphs.specs.Splitting.{HasFreeAxis}
use Rattle.mutator_rules.specs.declared.error.KindError.TheVariants.{At, Nodes, Edges, OutOfMemory as Want}
use Rattle.mutator_rules.specs.Conditions.{MayRun, indices_in}
use Rattle.bp_pipeline.specs.Limits.{place_of_module}

-- The graph is valid, and its nodes are variants of modules by their numbers.
pub record IsUsable {P : Type 0} (count : ℕ) (nodes : List (Node P)) : Type 0 where
  pub valid : IsValid nodes
  pub may : MayRun (indices_in count) nodes

-- The number of the pass that splits along an axis.
abbrev pub split_at : Axis → ℕ
split_at Target = 2
split_at Image = 3
split_at Link = 4
split_at PerSource = 7
split_at Sanitize = 8

-- Before the pass with a number the axes are free along which it or a later one splits.
abbrev pub AreFreeAt : ℕ → List (Node Props) → Type 0
AreFreeAt p nodes = (axis : Axis) → p ≤ split_at axis → HasFreeAxis axis nodes

-- A refusal is the fault of an error, or memory ran out.
abbrev pub RefusalMeans : List Module → StepError → Refusal → Type 0
RefusalMeans mods (Refused fault) (Bad told) = told ≡ fault
RefusalMeans mods (Kind (At n fault)) (Bad told) = told ≡ fault
RefusalMeans mods (Kind (Nodes number)) (Bad told) =
    told ≡ fault_on TooMany (place_of_module mods number) (codes "variants")
RefusalMeans mods (Kind (Edges at)) (Bad told) = told ≡ fault_on TooMany at (codes "edges")
RefusalMeans mods (Kind Want) (Bad told) = ⊥
RefusalMeans mods error OutOfMemory = ⊤
