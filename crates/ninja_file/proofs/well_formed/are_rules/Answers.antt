use Rattle.ninja_file.specs.Meaning.{IsRule}
use Rattle.ninja_file.proofs.Firsts.{one_more}
use Rattle.ninja_file.proofs.well_formed.are_rules.Goals as goal

pub loop-rule-preserved : goal.loop-rule-preserved
loop-rule-preserved c =
    one_more IsRule c.args.rules.now c.loop-rule.rule-index c.rule-item.result c.loop-rule-test.true c.rule-item.is
    (c.in_ok-is_rule.ensures.0 c.if-not-branch.false) c.loop-rule.invariant
