use Rattle.std.proofs.Common.{◌≡◌, ◌∙◌, ap, subst, sym, map, length, arith, List, []}
use Rattle.std.specs.Arc.{arc_value}
use Rattle.bp_faults.specs.Answers.{Answers}
use Rattle.graph_nodes.specs.declared.graph.EdgeKind.{EdgeKind}
use Rattle.mutator_rules.specs.Arrivals.{kinds_into}
use Rattle.mutator_kinds.proofs.Arriving.{kinds_read, many_kinds}
use Rattle.mutator_kinds.proofs.downward.TopDownVisitVisit.visit.Goals as goal

pub at-kinds-requires : goal.at-kinds-requires
at-kinds-requires g c =
    let many = many_kinds c.args.self.now.graph.now.nodes c.args.self.now.kinds.now c.requires.1 in
    let inside = c.requires.0.inside in
    omega arith

pub visit-requires-clause-kinds : goal.visit-requires-clause-kinds
visit-requires-clause-kinds g c =
    c.at-kinds.ensures
    ∙ kinds_read c.args.self.now.graph.now.nodes c.args.self.now.kinds.now c.args.n.0 [] c.requires.1
    c.requires.0.inside

pub visit-requires-clause-each : goal.visit-requires-clause-each
visit-requires-clause-each g c =
    c.requires.2 ∙ sym (ap length (c.at-kinds.ensures
    ∙ kinds_read c.args.self.now.graph.now.nodes c.args.self.now.kinds.now c.args.n.0 [] c.requires.1
    c.requires.0.inside))

pub returns : goal.returns
returns g c =
    let nodes = c.args.self.now.graph.now.nodes in
    let kinds : c.at-kinds.result.now ≡ kinds_into nodes c.args.n.0 =
    c.at-kinds.ensures ∙ kinds_read nodes c.args.self.now.kinds.now c.args.n.0 [] c.requires.1 c.requires.0.inside in
    subst (λ (l : List EdgeKind). Answers (λ out. out) c.visit.result (g.M.TopDown.meaning c.args.self.now.rule.now
    nodes c.args.n.0 l (map arc_value c.args.ins.now))) kinds c.visit.ensures
