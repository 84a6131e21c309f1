use Rattle.std.specs.List.{All}
use Rattle.order_text.specs.Lines.{IsVisit}
use Rattle.bp_pipeline.specs.Inside.{AreFreeAt}
use Rattle.bp_pipeline.specs.Journals.{IsJournal}
use Rattle.bp_pipeline.specs.Runs.{MayStep}
use Rattle.bp_pipeline.proofs.course.run_passes.Given as goal

abbrev pub invariant-loop-number : goal.invariant-loop-number
invariant-loop-number g l =
    IsJournal l.shop.mods.now l.shop.config.now l.number l.graph.nodes l.journal.items
    × MayStep l.shop l.journal.items l.graph.nodes × AreFreeAt l.number l.graph.nodes × All IsVisit l.journal.items
