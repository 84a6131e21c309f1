use Rattle.std.proofs.Common.{◌∙◌, sym}
use Rattle.bp_run.specs.World.{world}
use Rattle.bp_run.proofs.Putting.{put_of, unput_of, unput_at, one_more_put, print_here, spared_twice}
use Rattle.bp_run.proofs.deliver.put_each.Goals as goal

pub returns-then-is_err-clause-failed : goal.returns-then-is_err-clause-failed
returns-then-is_err-clause-failed g c =
    let put = c.index-puts-index.result in
    let old = world g.S.Store g.O.Sink c.args.store.now c.args.out.now in
    let between = world g.S.Store g.O.Sink c.loop-index.store c.loop-index.out in
    let new = world g.S.Store g.O.Sink c.put_one.new.store c.put_one.new.out in
    λ line at. unput_at c.args.puts.now c.loop-index.index put c.loop-index-test.true c.index-puts-index.is old between
    new line c.loop-index.invariant.0
    (unput_of put between new c.put_one.result (sym c.is_err.ensures.value ∙ c.if-is_err.true) c.put_one.ensures.tried)
    at

pub returns-then-is_err-clause-spares : goal.returns-then-is_err-clause-spares
returns-then-is_err-clause-spares g c =
    let put = c.index-puts-index.result in
    let old = world g.S.Store g.O.Sink c.args.store.now c.args.out.now in
    let between = world g.S.Store g.O.Sink c.loop-index.store c.loop-index.out in
    let new = world g.S.Store g.O.Sink c.put_one.new.store c.put_one.new.out in
    λ prints. spared_twice old between new (c.loop-index.invariant.1 prints)
    (c.put_one.ensures.spares (print_here c.args.puts.now c.loop-index.index put c.loop-index-test.true
    c.index-puts-index.is prints))

pub loop-index-preserved : goal.loop-index-preserved
loop-index-preserved g c =
    let puts = c.args.puts.now in
    let put = c.index-puts-index.result in
    let old = world g.S.Store g.O.Sink c.args.store.now c.args.out.now in
    let between = world g.S.Store g.O.Sink c.loop-index.store c.loop-index.out in
    let new = world g.S.Store g.O.Sink c.put_one.new.store c.put_one.new.out in (
      one_more_put puts c.loop-index.index put c.loop-index-test.true c.index-puts-index.is old between new
          c.loop-index.invariant.0
          (put_of put between new c.put_one.result (sym c.is_err.ensures.value ∙ c.if-is_err.false)
          c.put_one.ensures.tried),
      λ prints. spared_twice old between new (c.loop-index.invariant.1 prints)
          (c.put_one.ensures.spares (print_here puts c.loop-index.index put c.loop-index-test.true
          c.index-puts-index.is prints)),
    )
