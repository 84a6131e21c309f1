use Rattle.std.proofs.Common.{◌∙◌, sym}
use Rattle.bp_pipeline.specs.declared.passes.Pass.TheVariants.{AskDefaults, MergeDefaults, SplitTargets, SplitImages}
use Rattle.bp_pipeline.specs.declared.passes.Pass.TheVariants.{SplitLinks, AskDependencies, AskPlugins, SplitSources}
use Rattle.bp_pipeline.specs.declared.passes.Pass.TheVariants.{SplitSanitized, MarkSanitized, HandLevels, GatherInfo}
use Rattle.bp_pipeline.proofs.Keeping.{next_free}
use Rattle.bp_pipeline.proofs.steps.step.Goals as goal

pub returns-in-AskDefaults-clause-free : goal.returns-in-AskDefaults-clause-free
returns-in-AskDefaults-clause-free g c =
    next_free c.args.number AskDefaults (sym c.pass_at.ensures ∙ c.in-AskDefaults.is) c.args.graph.nodes
    c.requires.free c.ask_defaults.result c.ask_defaults.ensures.free

pub returns-in-MergeDefaults-clause-free : goal.returns-in-MergeDefaults-clause-free
returns-in-MergeDefaults-clause-free g c =
    next_free c.args.number MergeDefaults (sym c.pass_at.ensures ∙ c.in-MergeDefaults.is) c.args.graph.nodes
    c.requires.free c.merge_defaults.result c.merge_defaults.ensures.free

pub returns-in-SplitTargets-clause-free : goal.returns-in-SplitTargets-clause-free
returns-in-SplitTargets-clause-free g c =
    next_free c.args.number SplitTargets (sym c.pass_at.ensures ∙ c.in-SplitTargets.is) c.args.graph.nodes
    c.requires.free c.split_targets.result c.split_targets.ensures.free

pub returns-in-SplitImages-clause-free : goal.returns-in-SplitImages-clause-free
returns-in-SplitImages-clause-free g c =
    next_free c.args.number SplitImages (sym c.pass_at.ensures ∙ c.in-SplitImages.is) c.args.graph.nodes
    c.requires.free c.split_images.result c.split_images.ensures.free

pub returns-in-SplitLinks-clause-free : goal.returns-in-SplitLinks-clause-free
returns-in-SplitLinks-clause-free g c =
    next_free c.args.number SplitLinks (sym c.pass_at.ensures ∙ c.in-SplitLinks.is) c.args.graph.nodes
    c.requires.free c.split_links.result c.split_links.ensures.free

pub returns-in-AskDependencies-clause-free : goal.returns-in-AskDependencies-clause-free
returns-in-AskDependencies-clause-free g c =
    next_free c.args.number AskDependencies (sym c.pass_at.ensures ∙ c.in-AskDependencies.is) c.args.graph.nodes
    c.requires.free c.ask.result c.ask.ensures.free

pub returns-in-AskPlugins-clause-free : goal.returns-in-AskPlugins-clause-free
returns-in-AskPlugins-clause-free g c =
    next_free c.args.number AskPlugins (sym c.pass_at.ensures ∙ c.in-AskPlugins.is) c.args.graph.nodes
    c.requires.free c.ask_plugins.result c.ask_plugins.ensures.free

pub returns-in-SplitSources-clause-free : goal.returns-in-SplitSources-clause-free
returns-in-SplitSources-clause-free g c =
    next_free c.args.number SplitSources (sym c.pass_at.ensures ∙ c.in-SplitSources.is) c.args.graph.nodes
    c.requires.free c.split_sources.result c.split_sources.ensures.free

pub returns-in-SplitSanitized-clause-free : goal.returns-in-SplitSanitized-clause-free
returns-in-SplitSanitized-clause-free g c =
    next_free c.args.number SplitSanitized (sym c.pass_at.ensures ∙ c.in-SplitSanitized.is) c.args.graph.nodes
    c.requires.free c.split_sanitized.result c.split_sanitized.ensures.free

pub returns-in-MarkSanitized-clause-free : goal.returns-in-MarkSanitized-clause-free
returns-in-MarkSanitized-clause-free g c =
    next_free c.args.number MarkSanitized (sym c.pass_at.ensures ∙ c.in-MarkSanitized.is) c.args.graph.nodes
    c.requires.free c.mark_sanitized.result c.mark_sanitized.ensures.free

pub returns-in-HandLevels-clause-free : goal.returns-in-HandLevels-clause-free
returns-in-HandLevels-clause-free g c =
    next_free c.args.number HandLevels (sym c.pass_at.ensures ∙ c.in-HandLevels.is) c.args.graph.nodes
    c.requires.free c.hand_levels.result c.hand_levels.ensures.free

pub returns-in-GatherInfo-clause-free : goal.returns-in-GatherInfo-clause-free
returns-in-GatherInfo-clause-free g c =
    next_free c.args.number GatherInfo (sym c.pass_at.ensures ∙ c.in-GatherInfo.is) c.args.graph.nodes
    c.requires.free c.make.result c.make.ensures.free
