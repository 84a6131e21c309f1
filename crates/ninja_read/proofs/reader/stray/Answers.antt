use Rattle.std.proofs.Common.{◌+◌, Some, cond, drop, ap, sym, ◌∙◌}
use Rattle.ninja_read.specs.Meaning.{stray}
use Rattle.ninja_read.proofs.Outs.{stray_step, listed}
use Rattle.ninja_read.proofs.reader.stray.Goals as goal

pub returns-then-not-knows : goal.returns-then-not-knows
returns-then-not-knows c = λ texts set.
    let item = c.loop-number-item.result in
    let step = stray_step texts c.args.defaults.now c.loop-number.number-index item c.loop-number-test.true
    c.loop-number-item.is in
    sym (sym (c.loop-number.invariant texts set) ∙ step
    ∙ ap (λ b. cond b (stray texts (drop (c.loop-number.number-index + 1) c.args.defaults.now)) (Some item.0))
    (listed texts c.args.outs.now item.1 c.as_str.result _ set c.as_str.ensures c.if-not-knows.ensures))

pub loop-number-preserved : goal.loop-number-preserved
loop-number-preserved c = λ texts set.
    let item = c.loop-number-item.result in
    let step = stray_step texts c.args.defaults.now c.loop-number.number-index item c.loop-number-test.true
    c.loop-number-item.is in
    sym (step ∙ ap (λ b. cond b (stray texts (drop (c.loop-number.number-index + 1) c.args.defaults.now)) (Some item.0))
    (listed texts c.args.outs.now item.1 c.as_str.result _ set c.as_str.ensures c.if-not-knows.ensures))
    ∙ c.loop-number.invariant texts set
