use Rattle.std.proofs.Common.{◌≡◌, ◌∙◌, ◌<◌, ◌++◌, ℕ, ap, subst, sym, get_or, map, length, List, [], arith, zero-add}
use Rattle.std.proofs.Common.{Ok, Result}
use Rattle.std.specs.Arc.{arc_value}
use Rattle.std.specs.List.{AllByRecursion}
use Rattle.std.proofs.lemmas.List.FromFn.{length-map-range_with_len, get_or-map-range_with_len}
use Rattle.bp_faults.specs.declared.fault.Fault.{Fault}
use Rattle.bp_faults.specs.declared.ids.NodeId.{NodeId}
use Rattle.bp_faults.specs.Answers.{then_do}
use Rattle.graph_nodes.specs.declared.graph.EdgeKind.{EdgeKind}
use Rattle.graph_nodes.specs.declared.graph.Node.{Node}
use Rattle.graph_nodes.specs.declared.variation.Variation.{Variation}
use Rattle.mutator_rules.specs.Arrivals.{arrivals, all_arrivals}
use Rattle.transition_rules.specs.Wants.{others_of, wanted_variations}
use Rattle.transition_rules.proofs.wanting.WantsVisitVisit.visit.Goals as goal

arrivals_read : {P : Type 0} (nodes : List (Node P)) (arriving : List (List (NodeId × EdgeKind))) (n : ℕ)
    (here : List (NodeId × EdgeKind)) → arriving ≡ all_arrivals nodes → n < length nodes → here ≡ get_or arriving n []
    → here ≡ arrivals nodes n
arrivals_read nodes arriving n here is lt read =
    read
    ∙ ap (λ l. get_or l n []) is
    ∙ get_or-map-range_with_len (arrivals nodes) 0 (length nodes) n n [] lt (zero-add n)

pub at-arriving-requires : goal.at-arriving-requires
at-arriving-requires g c =
    let nodes = c.args.self.now.graph.now.nodes in
    let many = ap length c.requires.1 ∙ length-map-range_with_len (arrivals nodes) 0 (length nodes) in
    let inside = c.requires.0.inside in
    omega arith

pub others_wanted-requires-clause-from : goal.others_wanted-requires-clause-from
others_wanted-requires-clause-from g c =
    let nodes = c.args.self.now.graph.now.nodes in
    subst (λ (l : List (NodeId × EdgeKind)). AllByRecursion (λ a. a.0.0 < length nodes) l)
    (sym (arrivals_read nodes c.args.self.now.arriving.now c.args.n.0 c.at-arriving.result.now c.requires.1
    c.requires.0.inside c.at-arriving.ensures))
    (c.arrivals_come_from_nodes.ensures nodes c.args.n.0)

pub others_wanted-requires-clause-many : goal.others_wanted-requires-clause-many
others_wanted-requires-clause-many g c =
    let nodes = c.args.self.now.graph.now.nodes in
    c.requires.2
    ∙ sym (ap length (arrivals_read nodes c.args.self.now.arriving.now c.args.n.0 c.at-arriving.result.now c.requires.1
    c.requires.0.inside c.at-arriving.ensures))

pub returns : goal.returns
returns g c =
    let m = g.M.Transition.meaning c.args.self.now.rule.now in
    let nodes = c.args.self.now.graph.now.nodes in
    let n = c.args.n.0 in
    let lists = map arc_value c.args.ins.now in
    let own = c.in_ok-own.own.items in
    let at = arrivals_read nodes c.args.self.now.arriving.now n c.at-arriving.result.now c.requires.1
    c.requires.0.inside c.at-arriving.ensures in
    let others : c.deref-2.result.now ≡ others_of own (wanted_variations m nodes n (arrivals nodes n) lists) =
    c.deref-2.ensures.value
    ∙ c.in_ok-others.ensures
    ∙ ap (λ l. others_of l (wanted_variations m nodes n c.at-arriving.result.now lists)) c.deref.ensures.value
    ∙ ap (λ l. others_of own (wanted_variations m nodes n l lists)) at in
    ap (λ (r : Result (List Variation) Fault). then_do r
    (λ own. Ok (own ++ others_of own (wanted_variations m nodes n (arrivals nodes n) lists)))) c.in_ok-own.ensures
    ∙ ap (λ (l : List Variation). Ok (own ++ l)) (sym others)
    ∙ ap Ok (sym (c.new.ensures ∙ c.in_ok-extend_from_slice.ensures.items))
