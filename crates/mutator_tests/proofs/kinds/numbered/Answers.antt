use Rattle.mutator_tests.proofs.Tested.{one_more_variant}
use Rattle.mutator_tests.proofs.kinds.numbered.Goals as goal

pub loop-i-preserved : goal.loop-i-preserved
loop-i-preserved c =
    one_more_variant c.loop-i.variants.items c.push.new.self.items c.loop-i.i c.loop-i.invariant
    c.in_ok-push.ensures.items
