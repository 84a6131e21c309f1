use Rattle.std.proofs.Common.{◌≡◌, ◌+◌, suc, Ok, arith, subst}
use Rattle.bp_pipeline.specs.Course.{GraphAfter}
use Rattle.bp_pipeline.specs.Inside.{AreFreeAt}
use Rattle.bp_pipeline.specs.Journals.{IsJournal}
use Rattle.bp_pipeline.specs.Mutators.{passes, passes_of}
use Rattle.bp_pipeline.proofs.Sized.{sizes_more}
use Rattle.bp_pipeline.proofs.Stepping.{course_refused, journal_means}
use Rattle.bp_pipeline.proofs.course.run_mutators.Goals as goal

pub returns-in_err-graph-2-clause-course : goal.returns-in_err-graph-2-clause-course
returns-in_err-graph-2-clause-course g c =
    course_refused c.args.shop.now.mods.now c.args.shop.now.config.now c.args.shop.now.way c.passes_of-to.result passes
    c.passes_of-to.ensures.built c.in_err-graph-2.field-0.0 c.from_residual-in_err-graph-2.result
    c.from_residual-in_err-graph-2.ensures.1 c.run_passes.new.journal.items c.run_passes.new.journal.items
    c.in_err-graph-2.ensures.course

pub loop-k-preserved : goal.loop-k-preserved
loop-k-preserved g c =
    let mods = c.args.shop.now.mods.now in
    let config = c.args.shop.now.config.now in
    let k = c.loop-k.k in
    let nodes = c.in_ok-graph-2.graph.nodes in
    let journal = c.run_passes.new.journal.items in
    let to : c.passes_of-to.result ≡ passes_of (k + 1) = c.passes_of-to.ensures.count in
    let next : k + 1 ≡ suc k = omega arith in
    let course = c.in_ok-graph-2.ensures.course in
    let made = subst (λ p. IsJournal mods config p nodes journal) to course.0 in
    let graph =
    subst (λ n. GraphAfter mods config n (Ok nodes)) next
    (journal_means mods config (passes_of (k + 1)) nodes journal made) in (
      made,
      record { start = c.requires.may; follows = course.1; usable = c.in_ok-graph-2.ensures.usable },
      subst (λ p. AreFreeAt p nodes) to c.in_ok-graph-2.ensures.free,
      sizes_more mods config k c.loop-k.sizes.items c.push.new.self.items c.sizes_of.result nodes c.loop-k.invariant.3
          graph c.sizes_of.ensures c.in_ok-push.ensures.items,
      c.in_ok-graph-2.ensures.visits,
    )
