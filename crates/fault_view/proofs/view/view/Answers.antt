use Rattle.std.proofs.Common.{◌≡◌, ◌<◌, ◌∙◌, length, arith, refl, subst}
use Rattle.std.specs.Option.{option_copied}
use Rattle.std.proofs.lemmas.Grind.{common_steps}
use Rattle.std.proofs.lemmas.Result.{err_from_is_err_and}
use Rattle.fault_view.specs.Inside.{PutsAtMost, PutsLine}
use Rattle.fault_view.proofs.Views.{goes_next, goes_last, goes_here, goes_inside}
use Rattle.fault_view.proofs.view.view.Goals as goal

pub returns-then-is_empty-clause-kept : goal.returns-then-is_empty-clause-kept
returns-then-is_empty-clause-kept g c =
    let none : length c.in_ok-line.line.items ≡ 0 = grind (arith, common_steps) in
    (goes_last _ _ _ _ _ _ _ _ _ c.in_ok-line.line.items none c.in_ok-line.ensures.line c.loop-turn.invariant.4).0

pub returns-then-is_empty-clause-exact : goal.returns-then-is_empty-clause-exact
returns-then-is_empty-clause-exact g c =
    let none : length c.in_ok-line.line.items ≡ 0 = grind (arith, common_steps) in
    (goes_last _ _ _ _ _ _ _ _ _ c.in_ok-line.line.items none c.in_ok-line.ensures.line c.loop-turn.invariant.4).1

pub loop-turn-preserved : goal.loop-turn-preserved
loop-turn-preserved g c =
    let some : 0 < length c.in_ok-line.line.items = grind (arith, common_steps) in (
      c.put_line.ensures.files ∙ c.loop-turn.invariant.0,
      omega (arith, c.loop-turn.invariant.1, c.put_line.ensures.reads),
      omega (arith, c.loop-turn.invariant.2, c.put_line.ensures.puts),
      omega (arith, c.loop-turn.invariant.3, c.next_line.ensures.later),
      goes_next _ _ _ _ _ _ _ _ _ _ _ _ c.in_ok-line.line.items c.loop-turn.invariant.1 c.put_line.ensures.reads some
          c.in_ok-line.ensures.line c.in_ok-line.ensures.rest
          (subst (λ told. PutsLine (option_copied c.args.list) told (g.S.Store.read_faults c.loop-turn.store)
          (g.S.Store.read_faults c.put_line.new.store) c.in_ok-line.line.items (g.O.Sink.bytes c.loop-turn.out)
          (g.O.Sink.bytes c.put_line.new.out)) c.loop-turn.invariant.0 c.in_ok-put_line.ensures.put)
          c.loop-turn.invariant.4,
    )

pub returns-in_err-line-clause-begun : goal.returns-in_err-line-clause-begun
returns-in_err-line-clause-begun g c =
    let refused = err_from_is_err_and c.from_residual.result c.from_residual.ensures.1 in
    rw refused.1
    (goes_here (g.I.Input.remaining c.args.input.now) (option_copied c.args.list) (g.S.Store.files c.args.store.now)
    (g.S.Store.read_faults c.args.store.now) (g.S.Store.read_faults c.loop-turn.store)
    (g.S.Store.read_faults c.loop-turn.store) c.loop-turn.turn (g.I.Input.remaining c.loop-turn.input)
    (g.O.Sink.bytes c.args.out.now) (g.O.Sink.bytes c.loop-turn.out) (g.O.Sink.bytes c.loop-turn.out) (omega arith)
    refl c.loop-turn.invariant.4).0

pub returns-in_err-line-clause-part : goal.returns-in_err-line-clause-part
returns-in_err-line-clause-part g c =
    let refused = err_from_is_err_and c.from_residual.result c.from_residual.ensures.1 in
    rw refused.1
    (goes_here (g.I.Input.remaining c.args.input.now) (option_copied c.args.list) (g.S.Store.files c.args.store.now)
    (g.S.Store.read_faults c.args.store.now) (g.S.Store.read_faults c.loop-turn.store)
    (g.S.Store.read_faults c.loop-turn.store) c.loop-turn.turn (g.I.Input.remaining c.loop-turn.input)
    (g.O.Sink.bytes c.args.out.now) (g.O.Sink.bytes c.loop-turn.out) (g.O.Sink.bytes c.loop-turn.out) (omega arith)
    refl c.loop-turn.invariant.4).1

pub returns-clause-begun : goal.returns-clause-begun
returns-clause-begun g c =
    (goes_here (g.I.Input.remaining c.args.input.now) (option_copied c.args.list) (g.S.Store.files c.args.store.now)
    (g.S.Store.read_faults c.args.store.now) (g.S.Store.read_faults c.loop-turn.store)
    (g.S.Store.read_faults c.loop-turn.store) c.loop-turn.turn (g.I.Input.remaining c.loop-turn.input)
    (g.O.Sink.bytes c.args.out.now) (g.O.Sink.bytes c.loop-turn.out) (g.O.Sink.bytes c.loop-turn.out) (omega arith)
    refl c.loop-turn.invariant.4).0

pub returns-clause-part : goal.returns-clause-part
returns-clause-part g c =
    (goes_here (g.I.Input.remaining c.args.input.now) (option_copied c.args.list) (g.S.Store.files c.args.store.now)
    (g.S.Store.read_faults c.args.store.now) (g.S.Store.read_faults c.loop-turn.store)
    (g.S.Store.read_faults c.loop-turn.store) c.loop-turn.turn (g.I.Input.remaining c.loop-turn.input)
    (g.O.Sink.bytes c.args.out.now) (g.O.Sink.bytes c.loop-turn.out) (g.O.Sink.bytes c.loop-turn.out) (omega arith)
    refl c.loop-turn.invariant.4).1

pub returns-in_err-put_line-clause-begun : goal.returns-in_err-put_line-clause-begun
returns-in_err-put_line-clause-begun g c =
    let some : 0 < length c.in_ok-line.line.items = grind (arith, common_steps) in
    let refused =
    err_from_is_err_and c.from_residual-in_err-put_line.result c.from_residual-in_err-put_line.ensures.1 in
    rw refused.1
    (goes_inside (g.I.Input.remaining c.args.input.now) (option_copied c.args.list) (g.S.Store.files c.args.store.now)
    (g.S.Store.read_faults c.args.store.now) (g.S.Store.read_faults c.loop-turn.store)
    (g.S.Store.read_faults c.put_line.new.store) c.loop-turn.turn (g.I.Input.remaining c.loop-turn.input)
    (g.O.Sink.bytes c.args.out.now) (g.O.Sink.bytes c.loop-turn.out) (g.O.Sink.bytes c.put_line.new.out)
    c.in_ok-line.line.items c.loop-turn.invariant.1 c.put_line.ensures.reads some c.in_ok-line.ensures.line
    (subst (λ told. PutsAtMost (option_copied c.args.list) told (g.S.Store.read_faults c.loop-turn.store)
    (g.S.Store.read_faults c.put_line.new.store) c.in_ok-line.line.items (g.O.Sink.bytes c.loop-turn.out)
    (g.O.Sink.bytes c.put_line.new.out)) c.loop-turn.invariant.0 c.in_err-put_line.ensures.part)
    c.loop-turn.invariant.4).0

pub returns-in_err-put_line-clause-part : goal.returns-in_err-put_line-clause-part
returns-in_err-put_line-clause-part g c =
    let some : 0 < length c.in_ok-line.line.items = grind (arith, common_steps) in
    let refused =
    err_from_is_err_and c.from_residual-in_err-put_line.result c.from_residual-in_err-put_line.ensures.1 in
    rw refused.1
    (goes_inside (g.I.Input.remaining c.args.input.now) (option_copied c.args.list) (g.S.Store.files c.args.store.now)
    (g.S.Store.read_faults c.args.store.now) (g.S.Store.read_faults c.loop-turn.store)
    (g.S.Store.read_faults c.put_line.new.store) c.loop-turn.turn (g.I.Input.remaining c.loop-turn.input)
    (g.O.Sink.bytes c.args.out.now) (g.O.Sink.bytes c.loop-turn.out) (g.O.Sink.bytes c.put_line.new.out)
    c.in_ok-line.line.items c.loop-turn.invariant.1 c.put_line.ensures.reads some c.in_ok-line.ensures.line
    (subst (λ told. PutsAtMost (option_copied c.args.list) told (g.S.Store.read_faults c.loop-turn.store)
    (g.S.Store.read_faults c.put_line.new.store) c.in_ok-line.line.items (g.O.Sink.bytes c.loop-turn.out)
    (g.O.Sink.bytes c.put_line.new.out)) c.loop-turn.invariant.0 c.in_err-put_line.ensures.part)
    c.loop-turn.invariant.4).1
