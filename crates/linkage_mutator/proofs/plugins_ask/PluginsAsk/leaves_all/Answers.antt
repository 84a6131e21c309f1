use Rattle.std.proofs.Common.{◌∙◌, ap, sym, Ok}
use Rattle.std.specs.List.{list_all}
use Rattle.module_rules.specs.Results.{one_variant}
use Rattle.linkage_mutator.specs.Plugins.{plugins_asked}
use Rattle.linkage_mutator.specs.Idle.{is_no_plugin}
use Rattle.linkage_mutator.proofs.Idle.{leave_plugins}
use Rattle.linkage_mutator.proofs.plugins_ask.PluginsAsk.leaves_all.Goals as goal

pub returns-clause-alone : goal.returns-clause-alone
returns-clause-alone c =
    λ is.
    let nodes = c.args.g.now.nodes in
    c.leaves_all_by_each.ensures (λ m x ins. Ok (one_variant x.payload (plugins_asked c.args.self.now m x)))
    c.args.self.now nodes
    c.requires (leave_plugins c.args.self.now nodes
    (ap (list_all is_no_plugin) (sym c.as_slice.ensures) ∙ sym c.are_no_plugins.ensures ∙ is))
