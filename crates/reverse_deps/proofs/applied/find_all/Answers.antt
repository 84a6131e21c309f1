use Rattle.std.proofs.Common.{sym}
use Rattle.bp_faults.specs.declared.ids.NodeId.{NodeId}
use Rattle.bp_faults.proofs.Lists.{in_turn_more}
use Rattle.mutator_rules.specs.declared.request.Request.{Request}
use Rattle.reverse_deps.specs.Resolved.{resolved_node}
use Rattle.reverse_deps.proofs.applied.find_all.Goals as goal

pub loop-request-preserved : goal.loop-request-preserved
loop-request-preserved g c =
    sym (in_turn_more (λ (a : NodeId × Request). resolved_node c.args.mods.now c.args.g.now.nodes a.1) c.args.asked.now
    c.loop-request.request-index c.loop-request.found.items c.push.new.self.items c.loop-request-item.result
    c.in_ok-resolve_by.field-0 c.loop-request-test.true c.loop-request-item.is (sym c.loop-request.invariant)
    c.in_ok-resolve_by.ensures c.in_ok-push.ensures.items)
