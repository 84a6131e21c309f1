use Rattle.std.specs.List.{All}
use Rattle.order_text.specs.Lines.{IsVisit}
use Rattle.bp_pipeline.specs.Generated.{AreSizesTo}
use Rattle.bp_pipeline.specs.Inside.{AreFreeAt}
use Rattle.bp_pipeline.specs.Journals.{IsJournal}
use Rattle.bp_pipeline.specs.Mutators.{passes_of}
use Rattle.bp_pipeline.specs.Runs.{MayStep}
use Rattle.bp_pipeline.proofs.course.run_mutators.Given as goal

abbrev pub invariant-loop-k : goal.invariant-loop-k
invariant-loop-k g l =
    IsJournal l.shop.mods.now l.shop.config.now (passes_of l.k) l.graph.nodes l.journal.items
    × MayStep l.shop l.journal.items l.graph.nodes × AreFreeAt (passes_of l.k) l.graph.nodes
    × AreSizesTo l.shop.mods.now l.shop.config.now l.k l.sizes.items
    × All IsVisit l.journal.items
