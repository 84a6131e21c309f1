use Rattle.std.proofs.Common.{[], ◌∷◌, ◌++◌, ap, sym, ◌∙◌}
use Rattle.std.specs.List.{cons_option}
use Rattle.std.proofs.lemmas.List.Elements.{filter_map-append}
use Rattle.build_actions.specs.Compiles.{step_of_file, compile_steps}
use Rattle.build_actions.proofs.compile.compile_all.Goals as goal

pub returns : goal.returns
returns c =
    let others = compile_steps c.args.compiler c.in-Some.others.now in
    c.in_ok-push_some.ensures
    ∙ (λ k. (c.in_ok-add_steps.ensures ∙ ap (λ l. l ++ others) c.in_ok-statements.ensures.items) k
    ++ cons_option (c.in_ok-compile_last.ensures k) [])
    ∙ sym
    (ap (compile_steps c.args.compiler) c.in-Some.ensures.cases.0
    ∙ filter_map-append (step_of_file c.args.compiler) c.in-Some.others.now (c.in-Some.last.now ∷ []))
