-- Every pass keeps the forms of a graph, and so does the course of them.
use Rattle.std.proofs.Common.{◌≡◌, ◌≤◌, ◌+◌, ℕ, zero, suc, List, [], ◌∷◌, length, Option, Some, None, Ok, refl, sym}
use Rattle.std.proofs.Common.{subst}
use Rattle.std.specs.List.{AllByRecursion}
use Rattle.bp_faults.specs.declared.ids.NodeId.{NodeId}
use Rattle.bp_faults.specs.declared.limits.TheConstants.{MOST_NODES}
use Rattle.bp_props.specs.declared.module.Module.{Module}
use Rattle.bp_props.specs.declared.props.Props.{Props}
use Rattle.graph_nodes.specs.declared.graph.Node.{Node}
use Rattle.graph_nodes.specs.declared.variation.Variation.{Variation}
use Rattle.graph_nodes.specs.declared.variation.Variation.TheVariants.{Empty}
use Rattle.graph_nodes.specs.declared.variations.Axis.{Axis}
use Rattle.graph_nodes.specs.declared.variations.Axis.TheVariants as A
use Rattle.module_graph.specs.declared.direction.Direction.TheVariants.{BottomUp, TopDown}
use Rattle.module_graph.specs.Planned.{plan_of}
use Rattle.module_rules.specs.Rules.{asks, renews, splits}
use Rattle.mutator_kinds.specs.BottomUp.{BottomUpMeans}
use Rattle.mutator_kinds.specs.TopDown.{TopDownMeans, from_above}
use Rattle.mutator_rules.specs.Arrivals.{kinds_into}
use Rattle.mutator_rules.specs.declared.config.Config.{Config}
use Rattle.mutator_rules.specs.declared.request.Request.{Request}
use Rattle.mutator_rules.specs.Outcomes.{Made}
use Rattle.transition_rules.specs.Passes.{WantsMean, MutateMeans, wanted_variants}
use Rattle.transition_rules.specs.Wants.{variations_meant}
use Rattle.variant_graphs.specs.Splitting.{splitting}
use Rattle.reverse_deps.specs.Applied.{ApplyMeans, CountedMeans, AcyclicMeans, found_for, edges_counted}
use Rattle.reverse_deps.specs.Linked.{Link, links, linked_nodes, linked_from}
use Rattle.defaults_mutator.specs.Asked.{defaults_asked}
use Rattle.defaults_mutator.specs.Merged.{defaults_merged}
use Rattle.target_mutators.specs.Arch.{arch_variants}
use Rattle.target_mutators.specs.Images.{image_variants}
use Rattle.linkage_mutator.specs.Deps.{deps_asked}
use Rattle.linkage_mutator.specs.Links.{link_variants}
use Rattle.linkage_mutator.specs.Plugins.{plugins_asked}
use Rattle.linkage_mutator.specs.Sources.{source_variants}
use Rattle.info_mutators.specs.Info.{info_meant}
use Rattle.info_mutators.specs.Sanitize.{sanitize_meant}
use Rattle.info_mutators.specs.SdkLevel.{level_meant}
use Rattle.bp_pipeline.specs.declared.passes.Pass.{Pass}
use Rattle.bp_pipeline.specs.declared.passes.Pass.TheVariants.{AskDefaults, MergeDefaults, SplitTargets, SplitImages}
use Rattle.bp_pipeline.specs.declared.passes.Pass.TheVariants.{SplitLinks, AskDependencies, AskPlugins, SplitSources}
use Rattle.bp_pipeline.specs.declared.passes.Pass.TheVariants.{SplitSanitized, MarkSanitized, HandLevels, GatherInfo}
use Rattle.bp_pipeline.specs.Course.{CourseMeans}
use Rattle.bp_pipeline.specs.First.{first_from, first_nodes}
use Rattle.bp_pipeline.specs.Limits.{ComesTo}
use Rattle.bp_pipeline.specs.Passes.{Answer, AskMeans, MakeMeans, StepMeans, pass_at}
use Rattle.output_forms.specs.Forms.{HasSoundTexts}
use Rattle.output_forms.specs.Forms.{HaveForms, AreSound}
use Rattle.output_forms.proofs.Fits.{Keeps, asks_keep, renews_keep, splits_keep}
use Rattle.output_forms.proofs.Informed.{IsOnSanitize, variations_on, mutated_sound, level_sound, info_keeps}
use Rattle.output_forms.proofs.Outs.{outs_have}
use Rattle.output_forms.proofs.Passed.{renewed, split_kept, upward_kept}
use Rattle.output_forms.proofs.Ruled.{defaults_sound, arch_on, images_on, linked_on, per_source_on}
use Rattle.output_forms.proofs.Ways.{came, went, then_came}

linked_kept : (k : ℕ) (nodes : List (Node Props)) (ls : List Link) → HaveForms nodes
    → HaveForms (linked_from k nodes ls)
linked_kept k [] ls h = tt
linked_kept k (x ∷ xs) ls h =
    (record { axes = h.0.axes; texts = h.0.texts }, linked_kept (k + 1) xs ls h.1)

module _ (mods : List Module) where
  applied_kept : (nodes : List (Node Props)) (asked : List (NodeId × Request)) → HaveForms nodes
      → (new : List (Node Props)) → ApplyMeans mods nodes asked (Ok new) → HaveForms new
  applied_kept nodes asked forms new is =
      went (found_for mods nodes asked) (λ found. CountedMeans mods (linked_nodes nodes (links asked found))) HaveForms
      (λ found g counted. went (edges_counted (linked_nodes nodes (links asked found)))
      (AcyclicMeans mods (linked_nodes nodes (links asked found))) HaveForms
      (λ done made made_is. subst HaveForms (sym made_is.0) (linked_kept 0 nodes (links asked found) forms)) g counted)
      new is

  asked_kept : (answer : Answer) → Keeps None answer → (nodes : List (Node Props)) → HaveForms nodes
      → (new : List (Node Props)) → AskMeans mods answer nodes (Ok new) → HaveForms new
  asked_kept answer keeps nodes forms new means =
      then_came (ComesTo mods (BottomUpMeans answer nodes None)) (λ made. ApplyMeans mods made.0 made.1) HaveForms
      (λ made comes g applied. applied_kept made.0 made.1
      (came mods (BottomUpMeans answer nodes None) (λ g. HaveForms g.0)
      (λ g. upward_kept None answer keeps nodes forms g) made comes) g applied)
      new means

  made_kept : (along : Option Axis) (answer : Answer) → Keeps along answer → (nodes : List (Node Props))
      → HaveForms nodes → (new : List (Node Props)) → MakeMeans mods along answer nodes (Ok new) → HaveForms new
  made_kept along answer keeps nodes forms new means =
      then_came (ComesTo mods (BottomUpMeans answer nodes along)) (λ made outcome. Ok made.0 ≡ outcome) HaveForms
      (λ made comes g is. let same : made.0 ≡ g = cc in
      subst HaveForms same (came mods (BottomUpMeans answer nodes along) (λ g. HaveForms g.0)
      (λ g. upward_kept along answer keeps nodes forms g) made comes))
      new means

  wants_kept : (nodes : List (Node Props)) → HaveForms nodes → (new : List (Node Props))
      → WantsMean sanitize_meant nodes (Made new) → HaveForms new
  wants_kept nodes forms new (lists, are, limits, is) =
      subst HaveForms (sym is)
      (split_kept (splitting (wanted_variants sanitize_meant nodes) lists) IsOnSanitize
      (record {
        stands = λ v on. on;
        sound = λ x v form on. form.texts;
        lists = all_few lists (outs_have (AllByRecursion IsOnSanitize) (variations_meant sanitize_meant nodes)
            (variations_on nodes) (plan_of TopDown nodes) lists are);
      }) nodes forms limits)
    where
      all_few : (vss : List (List Variation)) → AllByRecursion (AllByRecursion IsOnSanitize) vss
          → AllByRecursion (λ vs. length vs ≤ MOST_NODES → AllByRecursion IsOnSanitize vs) vss
      all_few [] h = tt
      all_few (vs ∷ vss) h = (λ few. h.0, all_few vss h.1)

  mutate_kept : (nodes : List (Node Props)) → HaveForms nodes → (new : List (Node Props))
      → MutateMeans sanitize_meant nodes (Made new) → HaveForms new
  mutate_kept nodes forms new (outs, are, is) =
      subst HaveForms (sym is)
      (renewed nodes outs forms
      (outs_have HasSoundTexts (sanitize_meant.mutate nodes) (mutated_sound nodes forms)
      (plan_of BottomUp nodes) outs are))

  levels_kept : (nodes : List (Node Props)) → HaveForms nodes → (new : List (Node Props))
      → TopDownMeans level_meant nodes (Made new) → HaveForms new
  levels_kept nodes forms new (outs, are, is) =
      subst HaveForms (sym is)
      (renewed nodes outs forms
      (outs_have HasSoundTexts (from_above level_meant nodes)
      (λ n ins h. level_sound nodes forms n (kinds_into nodes n) ins) (plan_of TopDown nodes) outs are))

  -- a pass
  pub step_kept : (c : Config) (pass : Pass) (nodes : List (Node Props)) → HaveForms nodes → (new : List (Node Props))
      → StepMeans mods c pass nodes (Ok new) → HaveForms new
  step_kept c AskDefaults nodes forms new means =
      asked_kept (asks defaults_asked mods) (asks_keep defaults_asked mods) nodes forms new means
  step_kept c MergeDefaults nodes forms new means =
      made_kept None (renews defaults_merged mods) (renews_keep defaults_merged defaults_sound mods) nodes forms new
      means
  step_kept c SplitTargets nodes forms new means =
      made_kept (Some A.Target) (splits (arch_variants c) mods)
      (splits_keep A.Target (arch_variants c) (arch_on c) mods) nodes forms new means
  step_kept c SplitImages nodes forms new means =
      made_kept (Some A.Image) (splits image_variants mods) (splits_keep A.Image image_variants images_on mods) nodes
      forms new means
  step_kept c SplitLinks nodes forms new means =
      made_kept (Some A.Link) (splits link_variants mods) (splits_keep A.Link link_variants linked_on mods) nodes
      forms new means
  step_kept c AskDependencies nodes forms new means =
      asked_kept (asks deps_asked mods) (asks_keep deps_asked mods) nodes forms new means
  step_kept c AskPlugins nodes forms new means =
      asked_kept (asks (plugins_asked mods) mods) (asks_keep (plugins_asked mods) mods) nodes forms new means
  step_kept c SplitSources nodes forms new means =
      made_kept (Some A.PerSource) (splits source_variants mods)
      (splits_keep A.PerSource source_variants per_source_on mods) nodes forms new means
  step_kept c SplitSanitized nodes forms new means =
      came mods (WantsMean sanitize_meant nodes) HaveForms (wants_kept nodes forms) new means
  step_kept c MarkSanitized nodes forms new means =
      came mods (MutateMeans sanitize_meant nodes) HaveForms (mutate_kept nodes forms) new means
  step_kept c HandLevels nodes forms new means =
      came mods (TopDownMeans level_meant nodes) HaveForms (levels_kept nodes forms) new means
  step_kept c GatherInfo nodes forms new means =
      made_kept None (info_meant mods) (info_keeps mods) nodes forms new means

first_formed : (k : ℕ) (mods : List Module) → AreSound mods → HaveForms (first_from k mods)
first_formed k [] h = tt
first_formed k (m ∷ ms) h = (
  record {
    axes = record {
      target = Empty;
      image = Empty;
      link = Empty;
      source = Empty;
      sanitize = Empty;
      are = refl;
      on_target = refl;
      on_image = refl;
      on_link = refl;
      on_source = refl;
      on_sanitize = refl;
    };
    texts = h.0;
  },
  first_formed (k + 1) ms h.1,
)

module _ (mods : List Module) (c : Config) (sound : AreSound mods) where
  -- the passes so far
  pub course_kept : (p : ℕ) (nodes : List (Node Props)) → CourseMeans mods c p (Ok nodes) → HaveForms nodes
  course_kept zero nodes is = let same : first_nodes mods ≡ nodes = cc in
      subst HaveForms same (first_formed 0 mods sound)
  course_kept (suc p) nodes means =
      then_came (CourseMeans mods c p) (StepMeans mods c (pass_at p)) HaveForms
      (λ before came new step. step_kept mods c (pass_at p) before (course_kept p before came) new step) nodes means
