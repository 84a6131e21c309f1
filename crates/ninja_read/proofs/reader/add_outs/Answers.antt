use Rattle.std.proofs.Common.{append-nil, sym, subst, ap}
use Rattle.ninja_read.specs.Meaning.{repeats}
use Rattle.bp_names.specs.Meaning.{IsSetOf}
use Rattle.ninja_read.proofs.Outs.{adds_refused, adds_more, adds_all, adds_none}
use Rattle.ninja_read.proofs.reader.add_outs.Goals as goal

pub loop-out-init : goal.loop-out-init
loop-out-init c =
    λ texts set. record {
      set = subst (λ ts. IsSetOf ts c.args.seen.now) (sym (append-nil texts)) set;
      same = ap (λ ts. repeats ts c.args.outs.now) (append-nil texts);
    }

pub returns-then-not-branch-clause-new : goal.returns-then-not-branch-clause-new
returns-then-not-branch-clause-new c =
    λ texts set. adds_refused texts c.args.outs.now c.loop-out.out-index c.loop-out.seen c.out-item.result
    c.as_str.result c.in_ok-learn.field-0 c.loop-out-test.true c.out-item.is
    (c.loop-out.invariant texts set) c.as_str.ensures c.in_ok-learn.ensures.new c.if-not-branch.true

pub loop-out-preserved : goal.loop-out-preserved
loop-out-preserved c =
    λ texts set. adds_more texts c.args.outs.now c.loop-out.out-index c.loop-out.seen c.learn.new.self c.out-item.result
    c.as_str.result c.in_ok-learn.field-0 c.loop-out-test.true c.out-item.is (c.loop-out.invariant texts set)
    c.as_str.ensures c.in_ok-learn.ensures.new c.if-not-branch.false c.in_ok-learn.ensures.known

pub returns-clause-new : goal.returns-clause-new
returns-clause-new c =
    λ texts set. adds_none texts c.args.outs.now c.loop-out.out-index c.loop-out.seen c.loop-out-test.false
    (c.loop-out.invariant texts set)

pub returns-clause-seen : goal.returns-clause-seen
returns-clause-seen c =
    λ texts set _. adds_all texts c.args.outs.now c.loop-out.out-index c.loop-out.seen c.loop-out-test.false
    (c.loop-out.invariant texts set)
