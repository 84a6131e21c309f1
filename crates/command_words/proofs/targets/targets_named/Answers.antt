use Rattle.std.proofs.Common.{◌∙◌, ◌+◌, List, ap, sym, drop}
use Rattle.bp_faults.specs.declared.target.Target.{Target}
use Rattle.command_words.proofs.Joining.{one_target, no_target, all_targets, behind, said}
use Rattle.command_words.specs.Values.{targets_named}
use Rattle.command_words.proofs.targets.targets_named.Goals as goal

pub loop-name-preserved : goal.loop-name-preserved
loop-name-preserved c =
    c.loop-name.invariant
    ∙ one_target c.loop-name.targets.items c.in-Some.target c.args.names.now c.loop-name.name-index _
    c.loop-name-test.true (sym c.target_of.ensures ∙ c.in-Some.is)
    ∙ ap (λ (ts : List Target). behind ts (targets_named (said (drop (c.loop-name.name-index + 1) c.args.names.now))))
    (sym c.in_ok-push-in-Some.ensures.items)

pub returns-in-None : goal.returns-in-None
returns-in-None c =
    sym (c.loop-name.invariant ∙ no_target c.loop-name.targets.items c.args.names.now c.loop-name.name-index _
    c.loop-name-test.true (sym c.target_of.ensures ∙ c.in-None.is))

pub returns : goal.returns
returns c =
    sym (c.loop-name.invariant
    ∙ all_targets c.loop-name.targets.items c.args.names.now c.loop-name.name-index c.loop-name-test.false)
