use Rattle.std.proofs.Common.{[], ◌++◌, take, ap, sym, ◌∙◌, append_assoc}
use Rattle.std.specs.List.{cons_option}
use Rattle.build_actions.proofs.Gathered.{filter_map_more}
use Rattle.build_actions.specs.Compiles.{step_of_file, compile_steps}
use Rattle.build_actions.proofs.compile.add_steps.Goals as goal

pub loop-file-preserved : goal.loop-file-preserved
loop-file-preserved c =
    let before = compile_steps c.args.compiler.now (take c.loop-file.file-index c.args.files.now) in
    c.in_ok-push_some.ensures
    ∙ (λ k. c.loop-file.invariant k
    ++ cons_option ((c.in_ok-compile_file.ensures ∙ ap (step_of_file c.args.compiler.now) c.file-item.is) k) [])
    ∙ append_assoc c.args.statements.now.items before _
    ∙ ap (λ l. c.args.statements.now.items ++ l) (sym (filter_map_more (step_of_file c.args.compiler.now)
    c.args.files.now c.loop-file.file-index c.file-item.result c.loop-file-test.true))
