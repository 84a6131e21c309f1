use Rattle.std.proofs.Common.{◌≤◌, ◌∙◌, ◌++◌, ◌∷◌, [], length, ap, arith}
use Rattle.std.proofs.lemmas.List.{take_all}
use Rattle.bp_pipeline.specs.First.{first_nodes}
use Rattle.bp_pipeline.proofs.Beginning.{first_more, first_usable, first_free}
use Rattle.bp_pipeline.proofs.first.first_graph.Goals as goal

pub loop-number-preserved : goal.loop-number-preserved
loop-number-preserved c =
    let made = c.loop-number.nodes.items in
    first_more c.args.mods.now c.loop-number.number c.index-mods-number.result made c.push.new.self.items
    c.loop-number-test.true c.index-mods-number.is c.loop-number.invariant
    (c.in_ok-push.ensures.items ∙ ap (λ node. made ++ node ∷ []) c.in_ok-first_node.ensures)

pub returns-clause-usable : goal.returns-clause-usable
returns-clause-usable c =
    let past : length c.args.mods.now ≤ c.loop-number.number = omega (arith, c.loop-number-test.false) in
    first_usable c.args.mods.now c.new.result c.requires
    (c.new.ensures ∙ c.loop-number.invariant ∙ ap first_nodes (take_all c.loop-number.number c.args.mods.now past))

pub returns-clause-free : goal.returns-clause-free
returns-clause-free c =
    let past : length c.args.mods.now ≤ c.loop-number.number = omega (arith, c.loop-number-test.false) in
    first_free c.args.mods.now c.new.result
    (c.new.ensures ∙ c.loop-number.invariant ∙ ap first_nodes (take_all c.loop-number.number c.args.mods.now past))
