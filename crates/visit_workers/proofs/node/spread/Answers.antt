use Rattle.std.proofs.Common.{◌<◌, ◌++◌, ◌∙◌, [], ◌∷◌, length, ap, refl, sym, subst, arith, rules}
use Rattle.std.proofs.lemmas.List.{append-nil, append_assoc, get_or_read}
use Rattle.ready_counters.specs.Seen.{view_of}
use Rattle.visit_workers.specs.Links.{numbers_from, IsChain}
use Rattle.visit_workers.specs.Settled.{IsSpreading}
use Rattle.visit_workers.proofs.Listing.{entry_inside, entry_source, entry_fresh, chain_begins, chain_goes, chain_ends}
use Rattle.visit_workers.proofs.Settling.{spreading_first, spreading_more}
use Rattle.visit_workers.proofs.node.spread.Goals as goal

pub returns-then-e-clause-spread : goal.returns-then-e-clause-spread
returns-then-e-clause-spread g c =
    let chain = chain_begins c.args.pass.now.plan.now.count c.args.pass.now.plan.now.edges c.args.pass.now.outs.now
    c.args.n.0 c.index-e.result.now c.requires.pass.outs c.requires.inside c.index-e.ensures in
    let none = chain_ends c.args.pass.now.outs.now.next.items c.index-e.result.now
    (numbers_from 0 c.args.pass.now.plan.now.edges c.args.n.0) chain c.if-e.true
    (let few = c.requires.pass.is_plan.few in let all = c.requires.pass.outs.all in omega arith) in
    subst (λ done. IsSpreading done (view_of c.args.seat.now) (view_of c.args.seat.now)) (sym none)
    (spreading_first (view_of c.args.seat.now))

pub loop-e-init : goal.loop-e-init
loop-e-init g c = (
  [],
  numbers_from 0 c.args.pass.now.plan.now.edges c.args.n.0,
  refl,
  chain_begins c.args.pass.now.plan.now.count c.args.pass.now.plan.now.edges c.args.pass.now.outs.now c.args.n.0
      c.index-e.result.now c.requires.pass.outs c.requires.inside c.index-e.ensures,
  c.requires.seat,
  spreading_first (view_of c.args.seat.now),
)

pub index-e-requires-in-loop-e : goal.index-e-requires-in-loop-e
index-e-requires-in-loop-e g c =
    let h = c.loop-e.invariant in
    let go = chain_goes c.args.pass.now.outs.now.next.items c.loop-e.e h.1 h.3 c.loop-e-test.true in
    let inside : c.loop-e.e < length c.args.pass.now.outs.now.next.items = go.2 in search (rules, inside)

pub loop-e-smaller : goal.loop-e-smaller
loop-e-smaller g c =
    let h = c.loop-e.invariant in
    let go = chain_goes c.args.pass.now.outs.now.next.items c.loop-e.e h.1 h.3 c.loop-e-test.true in
    let is = get_or_read c.args.pass.now.outs.now.next.items c.loop-e.e c.index-e-in-loop-e.result.now go.2
    c.index-e-in-loop-e.ensures 0 in
    let more = go.3 in let inside = go.2 in let few = c.requires.pass.is_plan.few in
    let all = c.requires.pass.outs.all in
    omega arith

pub loop-e-preserved : goal.loop-e-preserved
loop-e-preserved g c =
    let h = c.loop-e.invariant in
    let go = chain_goes c.args.pass.now.outs.now.next.items c.loop-e.e h.1 h.3 c.loop-e-test.true in
    let is = get_or_read c.args.pass.now.outs.now.next.items c.loop-e.e c.index-e-in-loop-e.result.now go.2
    c.index-e-in-loop-e.ensures 0 in (
      h.0 ++ c.loop-e.e ∷ [],
      go.0,
      append_assoc h.0 (c.loop-e.e ∷ []) go.0 ∙ ap (λ rest. h.0 ++ rest) (sym go.1) ∙ h.2,
      subst (λ at. IsChain c.args.pass.now.outs.now.next.items at go.0) (sym is) go.4,
      c.spread_to.ensures.seat,
      spreading_more h.0 c.loop-e.e (view_of c.args.seat.now) (view_of c.loop-e.seat) (view_of c.spread_to.new.seat)
          c.in_ok-spread_to.ensures.went h.5,
    )

pub spread_to-requires-clause-edge : goal.spread_to-requires-clause-edge
spread_to-requires-clause-edge g c =
    let h = c.loop-e.invariant in
    let go = chain_goes c.args.pass.now.outs.now.next.items c.loop-e.e h.1 h.3 c.loop-e-test.true in
    entry_inside c.args.pass.now.plan.now.edges c.args.n.0 c.loop-e.e h.0 go.0
    (ap (λ rest. h.0 ++ rest) (sym go.1) ∙ h.2)

pub spread_to-requires-clause-source : goal.spread_to-requires-clause-source
spread_to-requires-clause-source g c =
    let h = c.loop-e.invariant in
    let go = chain_goes c.args.pass.now.outs.now.next.items c.loop-e.e h.1 h.3 c.loop-e-test.true in
    entry_source c.args.pass.now.plan.now.edges c.args.n.0 c.loop-e.e h.0 go.0
    (ap (λ rest. h.0 ++ rest) (sym go.1) ∙ h.2)

pub spread_to-requires-clause-fresh : goal.spread_to-requires-clause-fresh
spread_to-requires-clause-fresh g c =
    let h = c.loop-e.invariant in
    let go = chain_goes c.args.pass.now.outs.now.next.items c.loop-e.e h.1 h.3 c.loop-e-test.true in
    let all = ap (λ rest. h.0 ++ rest) (sym go.1) ∙ h.2 in
    let old = c.requires.fresh c.loop-e.e
    (entry_inside c.args.pass.now.plan.now.edges c.args.n.0 c.loop-e.e h.0 go.0 all)
    (entry_source c.args.pass.now.plan.now.edges c.args.n.0 c.loop-e.e h.0 go.0 all) in
    let none = entry_fresh c.args.pass.now.plan.now.edges c.args.n.0 c.loop-e.e h.0 go.0 all in
    let filled = h.5.filled c.loop-e.e in let subtracted = h.5.subtracted c.loop-e.e in
    let before = old.0 in let after = old.1 in (omega arith, omega arith)

pub returns-clause-spread : goal.returns-clause-spread
returns-clause-spread g c =
    let h = c.loop-e.invariant in
    let none = chain_ends c.args.pass.now.outs.now.next.items c.loop-e.e h.1 h.3 c.loop-e-test.false
    (let few = c.requires.pass.is_plan.few in let all = c.requires.pass.outs.all in omega arith) in
    subst (λ done. IsSpreading done (view_of c.args.seat.now) (view_of c.loop-e.seat))
    (sym (append-nil h.0) ∙ ap (λ rest. h.0 ++ rest) (sym none) ∙ h.2) h.5
