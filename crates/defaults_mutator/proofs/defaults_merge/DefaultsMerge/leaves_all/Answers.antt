use Rattle.std.proofs.Common.{◌∙◌, ap, sym, Ok, []}
use Rattle.std.specs.List.{list_all}
use Rattle.module_rules.specs.Results.{one_variant}
use Rattle.defaults_mutator.specs.Merged.{defaults_merged}
use Rattle.defaults_mutator.specs.Idle.{has_no_edges}
use Rattle.defaults_mutator.proofs.Idle.{leave_merged}
use Rattle.defaults_mutator.proofs.defaults_merge.DefaultsMerge.leaves_all.Goals as goal

pub returns-clause-alone : goal.returns-clause-alone
returns-clause-alone c =
    λ is.
    let nodes = c.args.g.now.nodes in
    c.leaves_all_by_each.ensures (λ m x ins. Ok (one_variant (defaults_merged m x ins) [])) c.args.self.now nodes
    c.requires (leave_merged nodes
    (ap (list_all has_no_edges) (sym c.as_slice.ensures) ∙ sym c.have_no_edges.ensures ∙ is))
