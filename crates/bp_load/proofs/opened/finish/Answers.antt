use Rattle.std.proofs.Common.{ap, ◌∙◌}
use Rattle.std.specs.Prelude.{reverse}
use Rattle.bp_values.specs.Scopes.{outer_pairs}
use Rattle.bp_load.specs.Opened.{names_in}
use Rattle.bp_load.proofs.Nested.{innermost_scope}
use Rattle.bp_load.proofs.opened.finish.Goals as goal

pub returns-clause-scope : goal.returns-clause-scope
returns-clause-scope c base is =
    let e = c.args.evaluation in
    let os = reverse e.opened.items in
    c.outer.ensures.pairs
    ∙ ap (λ n. outer_pairs n e.scope)
    (c.outer_names.ensures ∙ ap (λ l. names_in e.base (reverse l)) c.as_slice.ensures.value)
    ∙ innermost_scope e.scope e.base base os is.1
