use Rattle.std.proofs.Common.{◌∙◌, ap, sym, Ok}
use Rattle.std.specs.List.{list_all}
use Rattle.module_rules.specs.Results.{one_variant}
use Rattle.defaults_mutator.specs.Asked.{defaults_asked}
use Rattle.defaults_mutator.specs.Idle.{names_no_defaults}
use Rattle.defaults_mutator.proofs.Idle.{leave_asked}
use Rattle.defaults_mutator.proofs.defaults_deps.DefaultsDeps.leaves_all.Goals as goal

pub returns-clause-alone : goal.returns-clause-alone
returns-clause-alone c =
    λ is.
    let nodes = c.args.g.now.nodes in
    c.leaves_all_by_each.ensures (λ m x ins. Ok (one_variant x.payload (defaults_asked m x))) c.args.self.now nodes
    c.requires (leave_asked nodes
    (ap (list_all names_no_defaults) (sym c.as_slice.ensures) ∙ sym c.name_no_defaults.ensures ∙ is))
