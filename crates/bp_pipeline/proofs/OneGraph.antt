-- The first passes, and all that is made behind them, come to one thing, since each pass does.
use Rattle.std.proofs.Common.{◌≡◌, ◌∙◌, ℕ, zero, suc, List, Option, Some, None, Result, Ok, Err, sym, ap}
use Rattle.bp_faults.specs.declared.fault.Fault.{Fault}
use Rattle.bp_faults.specs.Phases.{IsOnce}
use Rattle.bp_faults.proofs.Phases.{value_once, then_once}
use Rattle.bp_props.specs.declared.module.Module.{Module}
use Rattle.bp_props.specs.declared.props.Props.{Props}
use Rattle.build_actions.specs.declared.actions.Actions.{Actions}
use Rattle.build_actions.specs.Acts.{acts_at}
use Rattle.build_actions.specs.File.{file_of_actions}
use Rattle.graph_nodes.specs.declared.graph.Node.{Node}
use Rattle.graph_nodes.specs.declared.variations.Axis.{Axis}
use Rattle.graph_nodes.specs.declared.variations.Axis.TheVariants.{Target, Image, Link, PerSource}
use Rattle.module_graph.specs.declared.direction.Direction.TheVariants.{BottomUp}
use Rattle.module_rules.specs.Rules.{asks, renews, splits}
use Rattle.mutator_rules.specs.declared.config.Config.{Config}
use Rattle.mutator_rules.specs.Outcomes.{KindOutcome}
use Rattle.module_graph.specs.Planned.{plan_of}
use Rattle.ninja_file.specs.declared.file.NinjaFile.{NinjaFile}
use Rattle.serial_pass.specs.declared.plan.Plan.{Plan}
use Rattle.serial_pass.specs.Laws.{AtMostOneOutcome}
use Rattle.serial_pass.specs.Outcomes.{PassMeans}
use Rattle.mutator_kinds.specs.BottomUp.{BottomUpMeans}
use Rattle.mutator_kinds.specs.TopDown.{TopDownMeans}
use Rattle.mutator_kinds.specs.Laws.{OneBottomUpOutcome, OneTopDownOutcome}
use Rattle.transition_rules.specs.Passes.{WantsMean, MutateMeans}
use Rattle.transition_rules.specs.Laws.{OneWantsOutcome, OneMutateOutcome}
use Rattle.reverse_deps.specs.Applied.{ApplyMeans}
use Rattle.reverse_deps.specs.Laws.{OneOutcome}
use Rattle.defaults_mutator.specs.Asked.{defaults_asked}
use Rattle.defaults_mutator.specs.Merged.{defaults_merged}
use Rattle.target_mutators.specs.Arch.{arch_variants}
use Rattle.target_mutators.specs.Images.{image_variants}
use Rattle.linkage_mutator.specs.Links.{link_variants}
use Rattle.linkage_mutator.specs.Deps.{deps_asked}
use Rattle.linkage_mutator.specs.Plugins.{plugins_asked}
use Rattle.linkage_mutator.specs.Sources.{source_variants}
use Rattle.info_mutators.specs.Sanitize.{sanitize_meant}
use Rattle.info_mutators.specs.SdkLevel.{level_meant}
use Rattle.info_mutators.specs.Info.{info_meant}
use Rattle.bp_pipeline.specs.declared.passes.Pass.{Pass}
use Rattle.bp_pipeline.specs.declared.passes.Pass.TheVariants.{AskDefaults, MergeDefaults, SplitTargets, SplitImages}
use Rattle.bp_pipeline.specs.declared.passes.Pass.TheVariants.{SplitLinks, AskDependencies, AskPlugins, SplitSources}
use Rattle.bp_pipeline.specs.declared.passes.Pass.TheVariants.{SplitSanitized, MarkSanitized, HandLevels, GatherInfo}
use Rattle.bp_pipeline.specs.First.{first_nodes}
use Rattle.bp_pipeline.specs.Limits.{ComesTo, graph_or_fault}
use Rattle.bp_pipeline.specs.Generated.{ActionsMean, FileMeans, TextMeans, text_within_limit}
use Rattle.bp_pipeline.specs.Mutators.{mutator_count, passes_of}
use Rattle.bp_pipeline.specs.Passes.{Answer, AskMeans, MakeMeans, StepMeans, pass_at}
use Rattle.bp_pipeline.specs.Course.{CourseMeans, GraphAfter}
use Rattle.bp_pipeline.specs.Laws.{OneCourse, OneGraph}

-- A kind of mutator comes to one thing, where it means one.
comes_once : {G : Type 0} (mods : List Module) (Means : KindOutcome G → Type 0)
    → ((a b : KindOutcome G) → Means a → Means b → a ≡ b) → IsOnce (ComesTo mods Means)
comes_once mods Means once a b x y = sym x.2 ∙ ap (graph_or_fault mods) (once x.0 y.0 x.1 y.1) ∙ y.2

module _ (kind : OneBottomUpOutcome Props) (above : OneTopDownOutcome Props) (wants : OneWantsOutcome Props)
    (mutate : OneMutateOutcome Props) (applied : OneOutcome Props) (mods : List Module) where
  kind_once : (answer : Answer) (nodes : List (Node Props)) (along : Option Axis)
      → IsOnce (ComesTo mods (BottomUpMeans answer nodes along))
  kind_once answer nodes along = comes_once mods (BottomUpMeans answer nodes along) (kind answer nodes along)

  ask_once : (answer : Answer) (nodes : List (Node Props)) → IsOnce (AskMeans mods answer nodes)
  ask_once answer nodes =
      then_once (ComesTo mods (BottomUpMeans answer nodes None)) (λ made. ApplyMeans mods made.0 made.1)
      (kind_once answer nodes None) (λ made. applied mods made.0 made.1)

  make_once : (along : Option Axis) (answer : Answer) (nodes : List (Node Props))
      → IsOnce (MakeMeans mods along answer nodes)
  make_once along answer nodes =
      then_once (ComesTo mods (BottomUpMeans answer nodes along)) (λ made outcome. Ok made.0 ≡ outcome)
      (kind_once answer nodes along) (λ made. value_once (Ok made.0))

  pass_once : (c : Config) (pass : Pass) (nodes : List (Node Props)) → IsOnce (StepMeans mods c pass nodes)
  pass_once c AskDefaults nodes = ask_once (asks defaults_asked mods) nodes
  pass_once c MergeDefaults nodes = make_once None (renews defaults_merged mods) nodes
  pass_once c SplitTargets nodes = make_once (Some Target) (splits (arch_variants c) mods) nodes
  pass_once c SplitImages nodes = make_once (Some Image) (splits image_variants mods) nodes
  pass_once c SplitLinks nodes = make_once (Some Link) (splits link_variants mods) nodes
  pass_once c AskDependencies nodes = ask_once (asks deps_asked mods) nodes
  pass_once c AskPlugins nodes = ask_once (asks (plugins_asked mods) mods) nodes
  pass_once c SplitSources nodes = make_once (Some PerSource) (splits source_variants mods) nodes
  pass_once c SplitSanitized nodes = comes_once mods (WantsMean sanitize_meant nodes) (wants sanitize_meant nodes)
  pass_once c MarkSanitized nodes = comes_once mods (MutateMeans sanitize_meant nodes) (mutate sanitize_meant nodes)
  pass_once c HandLevels nodes = comes_once mods (TopDownMeans level_meant nodes) (above level_meant nodes)
  pass_once c GatherInfo nodes = make_once None (info_meant mods) nodes

  course_once : (c : Config) (p : ℕ) → IsOnce (CourseMeans mods c p)
  course_once c zero = value_once (Ok (first_nodes mods))
  course_once c (suc p) =
      then_once (CourseMeans mods c p) (StepMeans mods c (pass_at p)) (course_once c p) (pass_once c (pass_at p))

pub one_course : OneBottomUpOutcome Props → OneTopDownOutcome Props → OneWantsOutcome Props → OneMutateOutcome Props
    → OneOutcome Props → OneCourse
one_course kind above wants mutate applied mods c p = course_once kind above wants mutate applied mods c p

-- an outcome without the node of its fault
abbrev plain : Result (List Actions) (ℕ × Fault) → Result (List Actions) Fault
plain (Ok outs) = Ok outs
plain (Err at) = Err at.1

module _ (once : OneCourse) where
  pub one_graph : OneGraph
  one_graph mods c k = once mods c (passes_of k)

  module _ (one : AtMostOneOutcome Actions) where
    -- a pass means one thing, whichever node its fault is of
    pub means_once : (mean : ℕ → List Actions → Result Actions Fault) (plan : Plan) → IsOnce (PassMeans mean plan)
    means_once mean plan (Ok outs) (Ok others) first second =
        ap plain (one mean plan (Ok outs) (Ok others) first second)
    means_once mean plan (Ok outs) (Err fault) first (n, second) =
        ap plain (one mean plan (Ok outs) (Err (n, fault)) first second)
    means_once mean plan (Err fault) (Ok outs) (n, first) second =
        ap plain (one mean plan (Err (n, fault)) (Ok outs) first second)
    means_once mean plan (Err fault) (Err other) (n, first) (m, second) =
        ap plain (one mean plan (Err (n, fault)) (Err (m, other)) first second)

    module _ (mods : List Module) (c : Config) where
      pub actions_once : IsOnce (ActionsMean mods c)
      actions_once =
          then_once (GraphAfter mods c mutator_count) (λ nodes. PassMeans (acts_at mods nodes) (plan_of BottomUp nodes))
          (one_graph mods c mutator_count) (λ nodes. means_once (acts_at mods nodes) (plan_of BottomUp nodes))

      pub file_once : IsOnce (FileMeans mods c)
      file_once =
          then_once (ActionsMean mods c)
          (λ made (outcome : Result NinjaFile Fault). Ok (file_of_actions made) ≡ outcome)
          actions_once (λ made. value_once (Ok (file_of_actions made)))

      pub text_once : IsOnce (TextMeans mods c)
      text_once =
          then_once (FileMeans mods c)
          (λ file (outcome : Result (List ℕ) Fault). text_within_limit file ≡ outcome) file_once
          (λ file. value_once (text_within_limit file))
