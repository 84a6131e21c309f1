-- The passes of the mutators, and what each makes of a graph.
use Rattle.std.specs.Prelude.{◌≡◌, ℕ, zero, suc, List, Option, Some, None, Result, Ok}
use Rattle.bp_faults.specs.declared.fault.Fault.{Fault}
use Rattle.bp_faults.specs.Phases.{Then}
use Rattle.bp_props.specs.declared.module.Module.{Module}
use Rattle.bp_props.specs.declared.props.Props.{Props}
use Rattle.graph_nodes.specs.declared.graph.Node.{Node}
use Rattle.graph_nodes.specs.declared.variations.Axis.{Axis}
use Rattle.graph_nodes.specs.declared.variations.Axis.TheVariants.{Target, Image, Link, PerSource}
use Rattle.mutator_rules.specs.declared.config.Config.{Config}
use Rattle.mutator_rules.specs.declared.split.Split.{Split}
use Rattle.mutator_kinds.specs.BottomUp.{BottomUpMeans}
use Rattle.mutator_kinds.specs.TopDown.{TopDownMeans}
use Rattle.transition_rules.specs.Passes.{WantsMean, MutateMeans}
use Rattle.module_rules.specs.Rules.{asks, renews, splits}
use Rattle.reverse_deps.specs.Applied.{ApplyMeans}
use Rattle.defaults_mutator.specs.Asked.{defaults_asked}
use Rattle.defaults_mutator.specs.Merged.{defaults_merged}
use Rattle.target_mutators.specs.Arch.{arch_variants}
use Rattle.target_mutators.specs.Images.{image_variants}
use Rattle.linkage_mutator.specs.Links.{link_variants}
use Rattle.linkage_mutator.specs.Deps.{deps_asked}
use Rattle.linkage_mutator.specs.Plugins.{plugins_asked}
use Rattle.linkage_mutator.specs.Sources.{source_variants}
use Rattle.info_mutators.specs.Sanitize.{sanitize_meant}
use Rattle.info_mutators.specs.SdkLevel.{level_meant}
use Rattle.info_mutators.specs.Info.{info_meant}
use Rattle.bp_pipeline.specs.declared.passes.Pass.{Pass}
use Rattle.bp_pipeline.specs.declared.passes.Pass.TheVariants.{AskDefaults, MergeDefaults, SplitTargets, SplitImages}
use Rattle.bp_pipeline.specs.declared.passes.Pass.TheVariants.{SplitLinks, AskDependencies, AskPlugins, SplitSources}
use Rattle.bp_pipeline.specs.declared.passes.Pass.TheVariants.{SplitSanitized, MarkSanitized, HandLevels, GatherInfo}
use Rattle.bp_pipeline.specs.Limits.{ComesTo}

-- The pass with a number, counted from 0.
abbrev pub pass_at : ℕ → Pass
pass_at zero = AskDefaults
pass_at (suc zero) = MergeDefaults
pass_at (suc (suc zero)) = SplitTargets
pass_at (suc (suc (suc zero))) = SplitImages
pass_at (suc (suc (suc (suc zero)))) = SplitLinks
pass_at (suc (suc (suc (suc (suc zero))))) = AskDependencies
pass_at (suc (suc (suc (suc (suc (suc zero)))))) = AskPlugins
pass_at (suc (suc (suc (suc (suc (suc (suc zero))))))) = SplitSources
pass_at (suc (suc (suc (suc (suc (suc (suc (suc zero)))))))) = SplitSanitized
pass_at (suc (suc (suc (suc (suc (suc (suc (suc (suc zero))))))))) = MarkSanitized
pass_at (suc (suc (suc (suc (suc (suc (suc (suc (suc (suc zero)))))))))) = HandLevels
pass_at (suc (suc (suc (suc (suc (suc (suc (suc (suc (suc (suc p))))))))))) = GatherInfo

-- What a mutator from the bottom up answers at a node, given the results of its edges' targets.
abbrev pub AnswerOver : Type 0 → Type 0
AnswerOver P = List (Node P) → ℕ → List (Split P) → Result (Split P) Fault

-- What one of the program answers, over nodes with properties.
abbrev pub Answer : Type 0
Answer = AnswerOver Props

-- A graph, or a fault.
abbrev pub OutcomeOver : Type 0 → Type 0
OutcomeOver P = Result (List (Node P)) Fault

-- A graph of nodes with properties, or a fault.
abbrev pub Outcome : Type 0
Outcome = OutcomeOver Props

module _ (mods : List Module) where
  -- A mutator that asks: its pass, then its requests with the limit of edges and the cycle rule.
  abbrev pub AskMeans : {P : Type 0} → AnswerOver P → List (Node P) → OutcomeOver P → Type 0
  AskMeans answer nodes =
      Then (ComesTo mods (BottomUpMeans answer nodes None)) (λ made. ApplyMeans mods made.0 made.1)

  -- A mutator that asks nothing, and splits along an axis or makes new records: its pass.
  abbrev pub MakeMeans : {P : Type 0} → Option Axis → AnswerOver P → List (Node P) → OutcomeOver P → Type 0
  MakeMeans along answer nodes =
      Then (ComesTo mods (BottomUpMeans answer nodes along)) (λ made outcome. Ok made.0 ≡ outcome)

  -- What a pass makes of a graph.
  abbrev pub StepMeans : Config → Pass → List (Node Props) → Outcome → Type 0
  StepMeans c AskDefaults nodes = AskMeans (asks defaults_asked mods) nodes
  StepMeans c MergeDefaults nodes = MakeMeans None (renews defaults_merged mods) nodes
  StepMeans c SplitTargets nodes = MakeMeans (Some Target) (splits (arch_variants c) mods) nodes
  StepMeans c SplitImages nodes = MakeMeans (Some Image) (splits image_variants mods) nodes
  StepMeans c SplitLinks nodes = MakeMeans (Some Link) (splits link_variants mods) nodes
  StepMeans c AskDependencies nodes = AskMeans (asks deps_asked mods) nodes
  StepMeans c AskPlugins nodes = AskMeans (asks (plugins_asked mods) mods) nodes
  StepMeans c SplitSources nodes = MakeMeans (Some PerSource) (splits source_variants mods) nodes
  StepMeans c SplitSanitized nodes = ComesTo mods (WantsMean sanitize_meant nodes)
  StepMeans c MarkSanitized nodes = ComesTo mods (MutateMeans sanitize_meant nodes)
  StepMeans c HandLevels nodes = ComesTo mods (TopDownMeans level_meant nodes)
  StepMeans c GatherInfo nodes = MakeMeans None (info_meant mods) nodes
