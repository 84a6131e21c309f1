use Rattle.std.proofs.Common.{Some, map, ap, ◌∙◌}
use Rattle.std.specs.Arc.{arc_value}
use Rattle.graph_nodes.specs.declared.graph.Edge.{Edge}
use Rattle.build_parts.specs.Paths.{product_of, link_variation}
use Rattle.build_actions.specs.Files.{results_of}
use Rattle.build_actions.specs.Compiles.{compile_steps, outs_of_steps}
use Rattle.build_actions.specs.Inside.{needed_compiler}
use Rattle.build_actions.specs.Products.{is_whole, objects_over, product_step}
use Rattle.build_actions.proofs.Made.{made_is}
use Rattle.build_actions.proofs.act.make.Goals as goal

pub returns : goal.returns
returns c =
    let m = c.args.module.now in
    let x = c.args.node.now in
    let ins = map arc_value c.args.ins.now in
    let compiler = c.in_ok-compiler.compiler in
    let steps = c.in_ok-statements.statements.items in
    let objects = c.in_ok-objects.objects.items in
    let out = c.in_ok-output.output in
    let wholes =
    c.in_ok-whole.ensures ∙ ap (λ es. results_of (λ (e : Edge). is_whole e.kind) es ins) c.as_slice.ensures in
    (λ k.
    record { statements = c.new.ensures k; objects = c.new-2.ensures k; output = Some out; files = c.new-3.ensures k })
    ∙ made_is c.args.modules.now c.args.graph.now.nodes m x ins c.args.files.items compiler steps objects out
    c.in_ok-product.product c.push.new.self.items
    (c.in_ok-compiler.ensures ∙ ap (needed_compiler m x) c.as_slice-list.ensures.value)
    (c.in_ok-statements.ensures ∙ ap (compile_steps compiler) c.as_slice-list.ensures.value)
    (c.in_ok-objects.ensures
    ∙ (λ k. objects_over (outs_of_steps (c.as_slice-2.ensures.value k)) (map arc_value (c.as_slice-3.ensures.value k)))
    ∙ ap (objects_over (outs_of_steps steps)) wholes)
    c.in_ok-output.ensures
    (c.in_ok-product.ensures
    ∙ ap (product_step c.args.modules.now c.args.graph.now.nodes x (product_of (link_variation x)) out)
    c.as_slice-4.ensures.value)
    c.in_ok-push.ensures.items
