-- What is generated of modules: the file for Ninja, its text, and what is counted on the way.
use Rattle.std.specs.Prelude.{◌≡◌, ◌<◌, ℕ, suc, List, nat_le, length, slice_get, Some, Result, Ok, Err}
use Rattle.std.specs.Prelude.{if◌then◌else◌}
use Rattle.bp_faults.specs.declared.fault.Fault.{Fault}
use Rattle.bp_faults.specs.declared.kind.FaultKind.TheVariants.{OutputTooLarge}
use Rattle.bp_faults.specs.declared.limits.TheConstants.{LARGEST_OUTPUT}
use Rattle.bp_faults.specs.Faults.{fault_at, file_start}
use Rattle.bp_faults.specs.Phases.{Then}
use Rattle.bp_props.specs.declared.module.Module.{Module}
use Rattle.bp_props.specs.declared.props.Props.{Props}
use Rattle.build_actions.specs.declared.actions.Actions.{Actions}
use Rattle.build_actions.specs.Acts.{acts_at}
use Rattle.build_actions.specs.File.{file_of_actions}
use Rattle.graph_nodes.specs.declared.graph.Node.{Node}
use Rattle.module_graph.specs.declared.direction.Direction.TheVariants.{BottomUp}
use Rattle.module_graph.specs.Planned.{plan_of}
use Rattle.mutator_rules.specs.declared.config.Config.{Config}
use Rattle.ninja_file.specs.declared.file.NinjaFile.{NinjaFile}
use Rattle.ninja_write.specs.Meaning.{text_of}
use Rattle.serial_pass.specs.Outcomes.{PassMeans}
use Rattle.bp_pipeline.specs.declared.sizes.Sizes.{Sizes}
use Rattle.bp_pipeline.specs.Course.{GraphAfter}
use Rattle.bp_pipeline.specs.Mutators.{mutator_count}
use Rattle.graph_nodes.specs.Nodes.{all_edges}

-- The text of a file for Ninja, which is no larger than its limit.
abbrev pub text_within_limit : NinjaFile → Result (List ℕ) Fault
text_within_limit file =
    if nat_le (length (text_of file)) LARGEST_OUTPUT then Ok (text_of file)
    else Err (fault_at OutputTooLarge (file_start 0))

-- The numbers of nodes and of edges of a graph.
abbrev pub sizes_of : List (Node Props) → Sizes
sizes_of nodes =
    record { nodes = length nodes; edges = length (all_edges nodes) }

module _ (mods : List Module) (c : Config) where
  -- What is done at the nodes of the graph after all mutators, or the first fault.
  abbrev pub ActionsMean : Result (List Actions) Fault → Type 0
  ActionsMean outcome =
      Then (GraphAfter mods c mutator_count) (λ nodes. PassMeans (acts_at mods nodes) (plan_of BottomUp nodes)) outcome

  -- The file for Ninja, or the first fault.
  abbrev pub FileMeans : Result NinjaFile Fault → Type 0
  FileMeans outcome = Then ActionsMean (λ made outcome. Ok (file_of_actions made) ≡ outcome) outcome

  -- Its text, or the first fault.
  abbrev pub TextMeans : Result (List ℕ) Fault → Type 0
  TextMeans outcome = Then FileMeans (λ file outcome. text_within_limit file ≡ outcome) outcome

  -- The number of the file's statements, the one of all outputs among them.
  abbrev pub IsStatementCount : ℕ → Type 0
  IsStatementCount count = (file : NinjaFile) × FileMeans (Ok file) × (count ≡ length file.statements)

  -- The sizes of the graphs after the first mutators, one for each mutator.
  pub record AreSizesTo (count : ℕ) (sizes : List Sizes) : Type 0 where
    pub many : length sizes ≡ count
    pub each : (k : ℕ) → k < count
        → (nodes : List (Node Props)) × GraphAfter mods c (suc k) (Ok nodes)
        × (slice_get sizes k ≡ Some (sizes_of nodes))

  -- The size of the graph after each mutator.
  abbrev pub AreSizes : List Sizes → Type 0
  AreSizes = AreSizesTo mutator_count
