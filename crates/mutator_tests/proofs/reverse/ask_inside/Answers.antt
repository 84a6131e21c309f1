use Rattle.std.proofs.Common.{◌<◌, ℕ, subst, sym, take}
use Rattle.bp_faults.specs.declared.ids.NodeId.{NodeId}
use Rattle.bp_faults.proofs.Lists.{all_pushed, take-more, take-past}
use Rattle.mutator_rules.specs.declared.request.Request.{Request}
use Rattle.reverse_deps.specs.Applied.{AskInside}
use Rattle.mutator_tests.proofs.reverse.ask_inside.Goals as goal

abbrev Inside : ℕ → NodeId × Request → Type 0
Inside count a = a.0.0 < count

pub loop-asker-preserved : goal.loop-asker-preserved
loop-asker-preserved c =
    let asked = c.args.asked.now in
    let i = c.loop-asker.asker-index in
    let a = c.loop-asker-item.result in
    subst (AskInside c.args.count) (sym (take-more asked i a c.loop-asker-test.true c.loop-asker-item.is))
    (all_pushed (Inside c.args.count) (take i asked) a c.loop-asker.invariant c.if-asker-count.false)

pub returns : goal.returns
returns c told =
    subst (AskInside c.args.count) (take-past c.loop-asker.asker-index c.args.asked.now c.loop-asker-test.false)
    c.loop-asker.invariant
