use Rattle.std.proofs.Common.{◌∙◌, ◌++◌, [], ◌∷◌, arith, ap, length, sym}
use Rattle.std.proofs.lemmas.List.{length-map}
use Rattle.std.proofs.lemmas.List.FromFn.{map-range_with_len_more}
use Rattle.serial_pass.specs.declared.plan.PlanEdge.{PlanEdge}
use Rattle.serial_pass.specs.Plans.{in_edges, predecessors}
use Rattle.serial_pass.proofs.Predecessors.{in_edges_few}
use Rattle.serial_pass.proofs.in_edges.in_degrees.Goals as goal

pub overflow_cast-edges_into : goal.overflow_cast-edges_into
overflow_cast-edges_into c =
    let few = in_edges_few c.args.plan.now.edges c.loop-n.n in
    let all = c.requires.plan.few in
    let same = ap length c.edges_into.ensures in
    omega arith

pub loop-n-preserved : goal.loop-n-preserved
loop-n-preserved c =
    let here = ap length c.edges_into.ensures
    ∙ sym (length-map (in_edges c.args.plan.now.edges c.loop-n.n) (λ (e : PlanEdge). e.from.0)) in
    c.in_ok-push.ensures.items
    ∙ ap (λ k. c.loop-n.counts.items ++ k ∷ []) here
    ∙ ap (λ l. l ++ length (predecessors c.args.plan.now.edges c.loop-n.n) ∷ []) c.loop-n.invariant
    ∙ sym (map-range_with_len_more (λ n. length (predecessors c.args.plan.now.edges n)) 0 c.loop-n.n c.loop-n.n
    (omega arith))
