use Rattle.std.proofs.Common.{arith, ◌≡◌, ◌≤◌, ◌+◌, ◌∙◌, ap, sym, subst, length, length-append, [], ◌∷◌, List, Some}
use Rattle.std.proofs.Common.{get_or}
use Rattle.bp_faults.specs.declared.ids.NodeId.{NodeId}
use Rattle.pass_ways.specs.declared.way.OrderLine.{OrderLine}
use Rattle.pass_ways.specs.Visits.{visits}
use Rattle.pass_ways.specs.OrderFiles.{Say}
use Rattle.pass_ways.proofs.Said.{say_pushed}
use Rattle.pass_ways.proofs.along.nodes_of.Goals as goal

pub loop-line-preserved : goal.loop-line-preserved
loop-line-preserved c =
    let is : (get_or c.args.lines.now c.loop-line.line-index c.line-item.result).entry ≡ Some (
      c.args.pass,
      c.in-Some.n,
    ) = ap (λ (l : OrderLine). l.entry) (sym c.line-item.is) ∙ c.in-Some.is ∙ ap (λ p. Some (
      p,
      c.in-Some.n,
    )) c.if-other-pass.true in
    let pushed = c.in_ok-push-in-Some.ensures.items in
    let sum = ap length pushed ∙ length-append c.loop-line.order.items (c.in-Some.n ∷ []) in
    let invariant = c.loop-line.invariant in
    let many : length c.push.new.self.items ≡ c.loop-line.line-index + 1 = omega (arith, sum, invariant.1) in
    let most : c.loop-line.line-index + 1 ≤ c.args.most = omega (
      arith,
      invariant.1,
      invariant.2,
      c.len.ensures,
      c.if-len-most.false,
    ) in (
      subst (λ (l : List NodeId). Say c.args.lines.now (visits c.args.pass l)) (sym pushed) (say_pushed c.args.lines.now
          c.args.pass c.loop-line.order.items c.loop-line.line-index c.line-item.result c.in-Some.n invariant.0
          invariant.1 c.loop-line-test.true is),
      many,
      most,
    )
