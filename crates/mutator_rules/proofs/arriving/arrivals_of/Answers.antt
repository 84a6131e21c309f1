use Rattle.std.proofs.Common.{◌≡◌, ◌∙◌, ◌++◌, ap, subst, sym, length, arith, List, ℕ}
use Rattle.std.specs.Prelude.{slice_index}
use Rattle.mutator_rules.specs.Arrivals.{arrivals}
use Rattle.mutator_rules.specs.Inside.{HaveRoom, StandFrom}
use Rattle.mutator_rules.proofs.Placed.{cut_all, cuts_of, room_of}
use Rattle.mutator_rules.proofs.arriving.arrivals_of.Goals as goal

pub fill-requires-clause-room : goal.fill-requires-clause-room
fill-requires-clause-room g c =
    let nodes = c.args.g.now.nodes in
    let starts = c.in_ok-starts.starts.items in
    let next : c.extend_from_slice.new.self.items ≡ c.in_ok-starts.starts.items =
    c.in_ok-extend_from_slice.ensures.items ∙ ap (λ (l : List ℕ). l ++ c.deref.result.now) c.new-next.ensures.items
    ∙ c.deref.ensures.value in
    let edges = ap length c.as_slice-count.ensures in
    let made = c.in_ok-items.ensures.len in
    let ok = c.in_ok-items.items.ok.0 in
    let same : length c.in_ok-items.items.items ≡ length c.args.plan.now.edges = omega arith in
    subst (λ l. HaveRoom (slice_index l) nodes (length c.in_ok-items.items.items)) (sym next)
    (room_of nodes c.args.plan.now starts c.predecessors_are_arrivals.ensures c.requires.planned
    c.in_ok-starts.ensures c.requires.is_plan.few
    (length c.in_ok-items.items.items) same)

pub invariant_of-result : goal.invariant_of-result
invariant_of-result g c =
    let edges = ap length c.as_slice-count.ensures in
    let made = c.in_ok-items.ensures.len in
    let ok = c.in_ok-items.items.ok.0 in
    let same : length c.in_ok-items.items.items ≡ length c.args.plan.now.edges = omega arith in
    cuts_of c.args.plan.now c.in_ok-starts.starts.items (length c.fill.new.items.items) c.in_ok-starts.ensures
    (c.fill.ensures.many ∙ same)

pub returns : goal.returns
returns g c =
    let nodes = c.args.g.now.nodes in
    let starts = c.in_ok-starts.starts.items in
    let items = c.fill.new.items.items in
    let next : c.extend_from_slice.new.self.items ≡ c.in_ok-starts.starts.items =
    c.in_ok-extend_from_slice.ensures.items ∙ ap (λ (l : List ℕ). l ++ c.deref.result.now) c.new-next.ensures.items
    ∙ c.deref.ensures.value in
    let edges = ap length c.as_slice-count.ensures in
    let made = c.in_ok-items.ensures.len in
    let ok = c.in_ok-items.items.ok.0 in
    let same : length c.in_ok-items.items.items ≡ length c.args.plan.now.edges = omega arith in
    cut_all nodes c.args.plan.now starts c.predecessors_are_arrivals.ensures c.requires.planned
    c.in_ok-starts.ensures items (c.fill.ensures.many ∙ same)
    (subst (λ l. StandFrom (length nodes) (slice_index l) (arrivals nodes) items) next c.fill.ensures.each)
