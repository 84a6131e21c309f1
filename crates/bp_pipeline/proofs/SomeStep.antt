-- Each pass makes something of a graph, and a graph that it makes is fit for the next pass.
use Rattle.std.proofs.Common.{◌≡◌, ◌+◌, ℕ, suc, List, Option, Some, None, Result, Ok, Err, length, refl, subst, arith}
use Rattle.std.specs.Prelude.{IfOk}
use Rattle.bp_faults.specs.declared.fault.Fault.{Fault}
use Rattle.bp_faults.specs.declared.ids.NodeId.{NodeId}
use Rattle.bp_props.specs.declared.module.Module.{Module}
use Rattle.bp_props.specs.declared.props.Props.{Props}
use Rattle.serial_pass.specs.Laws.{OutsAreMany}
use Rattle.graph_nodes.specs.declared.graph.Node.{Node}
use Rattle.graph_nodes.specs.declared.variations.Axis.{Axis}
use Rattle.graph_nodes.specs.declared.variations.Axis.TheVariants.{Target, Image, Link, PerSource, Sanitize}
use Rattle.module_rules.specs.Rules.{asks, renews, splits}
use Rattle.mutator_rules.specs.declared.config.Config.{Config}
use Rattle.mutator_rules.specs.declared.request.Request.{Request}
use Rattle.mutator_rules.specs.declared.split.Split.{Split}
use Rattle.mutator_rules.specs.Configs.{TargetsDiffer}
use Rattle.mutator_rules.specs.Outcomes.{KindOutcome, Made, FaultAt, NodesBeyond, EdgesBeyond}
use Rattle.variant_graphs.specs.Laws.{IsKept}
use Rattle.variant_graphs.specs.Splitting.{HasFreeAxis}
use Rattle.mutator_kinds.specs.BottomUp.{BottomUpMeans, DifferFor, IsFreeFor}
use Rattle.mutator_kinds.specs.TopDown.{TopDownMeans}
use Rattle.mutator_kinds.specs.Laws.{SomeBottomUpOutcome, SomeTopDownOutcome, BottomUpKeeps, TopDownKeeps}
use Rattle.transition_rules.specs.Passes.{WantsMean, MutateMeans}
use Rattle.transition_rules.specs.Laws.{SomeWantsOutcome, SomeMutateOutcome, WantsKeep, MutateKeeps}
use Rattle.reverse_deps.specs.Applied.{ApplyMeans}
use Rattle.reverse_deps.specs.Laws.{SomeOutcome, AppliedKeeps}
use Rattle.defaults_mutator.specs.Asked.{defaults_asked}
use Rattle.defaults_mutator.specs.Merged.{defaults_merged}
use Rattle.target_mutators.specs.Arch.{arch_variants}
use Rattle.target_mutators.specs.Images.{image_variants}
use Rattle.target_mutators.specs.Laws.{TargetVariantsDiffer, ImageVariantsDiffer}
use Rattle.linkage_mutator.specs.Links.{link_variants}
use Rattle.linkage_mutator.specs.Deps.{deps_asked}
use Rattle.linkage_mutator.specs.Plugins.{plugins_asked}
use Rattle.linkage_mutator.specs.Sources.{source_variants}
use Rattle.linkage_mutator.specs.Laws.{LinkVariantsDiffer, SourceVariantsDiffer}
use Rattle.info_mutators.specs.Sanitize.{sanitize_meant}
use Rattle.info_mutators.specs.SdkLevel.{level_meant}
use Rattle.info_mutators.specs.Info.{info_meant}
use Rattle.info_mutators.specs.Laws.{OwnVariationsDiffer}
use Rattle.bp_pipeline.specs.declared.passes.Pass.{Pass}
use Rattle.bp_pipeline.specs.declared.passes.Pass.TheVariants.{AskDefaults, MergeDefaults, SplitTargets, SplitImages}
use Rattle.bp_pipeline.specs.declared.passes.Pass.TheVariants.{SplitLinks, AskDependencies, AskPlugins, SplitSources}
use Rattle.bp_pipeline.specs.declared.passes.Pass.TheVariants.{SplitSanitized, MarkSanitized, HandLevels, GatherInfo}
use Rattle.bp_pipeline.specs.Inside.{AreFreeAt, IsUsable}
use Rattle.bp_pipeline.specs.Limits.{ComesTo, graph_or_fault}
use Rattle.bp_pipeline.specs.Passes.{Answer, Outcome, AskMeans, MakeMeans, StepMeans, pass_at}
use Rattle.bp_pipeline.specs.Ready.{IsReadyForPass}
use Rattle.bp_pipeline.proofs.Keeping.{applied_free, asked_inside, axis_of, next_free, own_axis}

-- An outcome that is meant, and what holds of its value.
abbrev pub Comes : {A : Type 0} → (Result A Fault → Type 0) → (A → Type 0) → Type 0
Comes {A} Means Good = (outcome : Result A Fault) × Means outcome × IfOk outcome Good

-- What a kind of mutator makes of a graph, as a graph or a fault.
comes_some : {G : Type 0} (mods : List Module) (Means : KindOutcome G → Type 0) (Good : G → Type 0)
    → ((new : G) → Means (Made new) → Good new) → (made : KindOutcome G) → Means made → Comes (ComesTo mods Means) Good
comes_some mods Means Good good (Made new) means = (Ok new, (Made new, means, refl), good new means)
comes_some mods Means Good good (FaultAt n fault) means = (Err fault, (FaultAt n fault, means, refl), tt)
comes_some mods Means Good good (NodesBeyond m) means =
    (graph_or_fault mods (NodesBeyond m), (NodesBeyond m, means, refl), tt)
comes_some mods Means Good good (EdgesBeyond at) means =
    (graph_or_fault mods (EdgesBeyond at), (EdgesBeyond at, means, refl), tt)

-- The nodes and what they ask for.
abbrev Asked : Type 0
Asked = List (Node Props) × List (NodeId × Request)

module _ (some_up : SomeBottomUpOutcome Props) (up_keeps : BottomUpKeeps Props) (some_applied : SomeOutcome Props)
    (applied_keeps : AppliedKeeps Props) (many : OutsAreMany (Split Props)) (mods : List Module)
    (nodes : List (Node Props)) (usable : IsUsable (length mods) nodes) where
  -- What stays for the next pass.
  abbrev Kept : Option Axis → List (Node Props) → Type 0
  Kept along = IsKept (length mods) along nodes

  kind_some : (answer : Answer) (along : Option Axis) → IsFreeFor along nodes → DifferFor answer nodes along
      → Comes (ComesTo mods (BottomUpMeans answer nodes along)) (λ made. Kept along made.0)
  kind_some answer along free differ =
      let made = some_up answer nodes along usable.may.numbered usable.valid in
      comes_some mods (BottomUpMeans answer nodes along) (λ made. Kept along made.0)
      (λ new means. up_keeps answer nodes along new (length mods) usable.valid usable.may free differ means)
      made.0 made.1

  pub make_some : (along : Option Axis) (answer : Answer) → IsFreeFor along nodes → DifferFor answer nodes along
      → Comes (MakeMeans mods along answer nodes) (Kept along)
  make_some along answer free differ =
      let made = kind_some answer along free differ in by made.0 made.1 made.2
    where
      by : (made : Result Asked Fault) → ComesTo mods (BottomUpMeans answer nodes along) made
          → IfOk made (λ made. Kept along made.0) → Comes (MakeMeans mods along answer nodes) (Kept along)
      by (Ok made) comes kept = (Ok made.0, (Ok made, comes, refl), kept)
      by (Err fault) comes kept = (Err fault, (Err fault, comes, refl), tt)

  module _ (answer : Answer) where
    applied_some : (made : Asked) → ComesTo mods (BottomUpMeans answer nodes None) (Ok made) → Kept None made.0
        → Comes (AskMeans mods answer nodes) (Kept None)
    applied_some made comes kept =
        let asking = asked_inside many mods answer nodes made comes in
        let next = some_applied mods made.0 made.1 kept.valid.ends asking in
        by next.0 next.1
      where
        by : (outcome : Outcome) → ApplyMeans mods made.0 made.1 outcome
            → Comes (AskMeans mods answer nodes) (Kept None)
        by (Ok new) applied =
            let fit = applied_keeps mods made.0 made.1 new kept.valid kept.may
            (asked_inside many mods answer nodes made comes) applied in (
              Ok new,
              (Ok made, comes, applied),
              record {
                valid = fit.valid;
                may = fit.may;
                free =
                    applied_free None nodes made.0 refl kept.free (Ok (record { nodes = new })) fit.same;
              },
            )
        by (Err fault) applied = (Err fault, (Ok made, comes, applied), tt)

    pub ask_some : Comes (AskMeans mods answer nodes) (Kept None)
    ask_some = let made = kind_some answer None tt tt in by made.0 made.1 made.2
      where
        by : (made : Result Asked Fault) → ComesTo mods (BottomUpMeans answer nodes None) made
            → IfOk made (λ made. Kept None made.0) → Comes (AskMeans mods answer nodes) (Kept None)
        by (Ok made) comes kept = applied_some made comes kept
        by (Err fault) comes kept = (Err fault, (Err fault, comes, refl), tt)

  module _ (some_down : SomeTopDownOutcome Props) (down_keeps : TopDownKeeps Props)
      (some_wants : SomeWantsOutcome Props) (wants_keep : WantsKeep Props) (some_mutate : SomeMutateOutcome Props)
      (mutate_keeps : MutateKeeps Props) (targets : TargetVariantsDiffer) (images : ImageVariantsDiffer)
      (links : LinkVariantsDiffer) (sources : SourceVariantsDiffer) (own : OwnVariationsDiffer) (c : Config)
      (differ : TargetsDiffer c) where
    -- A pass over a graph in which the axis is free along which it splits.
    pass_some : (pass : Pass) → ((axis : Axis) → axis_of pass ≡ Some axis → HasFreeAxis axis nodes)
        → Comes (StepMeans mods c pass nodes) (Kept (axis_of pass))
    pass_some AskDefaults free = ask_some (asks defaults_asked mods)
    pass_some MergeDefaults free = make_some None (renews defaults_merged mods) tt tt
    pass_some SplitTargets free =
        make_some (Some Target) (splits (arch_variants c) mods) (free Target refl) (targets c mods nodes differ)
    pass_some SplitImages free =
        make_some (Some Image) (splits image_variants mods) (free Image refl) (images mods nodes)
    pass_some SplitLinks free = make_some (Some Link) (splits link_variants mods) (free Link refl) (links mods nodes)
    pass_some AskDependencies free = ask_some (asks deps_asked mods)
    pass_some AskPlugins free = ask_some (asks (plugins_asked mods) mods)
    pass_some SplitSources free =
        make_some (Some PerSource) (splits source_variants mods) (free PerSource refl) (sources mods nodes)
    pass_some SplitSanitized free =
        let made = some_wants sanitize_meant nodes usable.may.numbered usable.valid in
        comes_some mods (WantsMean sanitize_meant nodes) (Kept (Some Sanitize))
        (λ new means. wants_keep sanitize_meant nodes new (length mods) usable.valid usable.may (free Sanitize refl)
        (λ n variations lt is. own nodes n variations lt is) means) made.0 made.1
    pass_some MarkSanitized free =
        let made = some_mutate sanitize_meant nodes usable.may.numbered usable.valid in
        comes_some mods (MutateMeans sanitize_meant nodes) (Kept None)
        (λ new means. mutate_keeps sanitize_meant nodes new (length mods) usable.valid usable.may means)
        made.0 made.1
    pass_some HandLevels free =
        let made = some_down level_meant nodes usable.may.numbered usable.valid in
        comes_some mods (TopDownMeans level_meant nodes) (Kept None)
        (λ new means. down_keeps level_meant nodes new (length mods) usable.valid usable.may means) made.0 made.1
    pass_some GatherInfo free = make_some None (info_meant mods) tt tt

    -- The pass with a number over a graph that is ready for it.
    pub step_some : (p : ℕ) → AreFreeAt p nodes
        → Comes (StepMeans mods c (pass_at p) nodes) (IsReadyForPass (length mods) (suc p))
    step_some p free =
        let made =
        pass_some (pass_at p) (λ axis is. let here = own_axis p axis is in free axis (omega (arith, here))) in
        by made.0 made.1 made.2
      where
        by : (outcome : Outcome) → StepMeans mods c (pass_at p) nodes outcome
            → IfOk outcome (Kept (axis_of (pass_at p)))
            → Comes (StepMeans mods c (pass_at p) nodes) (IsReadyForPass (length mods) (suc p))
        by (Ok new) means kept =
            let more : p + 1 ≡ suc p = omega arith in (
              Ok new,
              means,
              (
                record { valid = kept.valid; may = kept.may },
                subst (λ q. AreFreeAt q new) more
                    (next_free p (pass_at p) refl nodes free (Ok (record { nodes = new })) kept.free),
              ),
            )
        by (Err fault) means kept = (Err fault, means, tt)
