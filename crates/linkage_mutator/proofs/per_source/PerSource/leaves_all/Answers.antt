use Rattle.std.proofs.Common.{◌∙◌, ap, sym, Ok, []}
use Rattle.std.specs.List.{list_all}
use Rattle.linkage_mutator.specs.Idle.{is_built_once}
use Rattle.linkage_mutator.specs.Sources.{source_variants}
use Rattle.linkage_mutator.proofs.BuiltOnce.{leave_sources}
use Rattle.linkage_mutator.proofs.per_source.PerSource.leaves_all.Goals as goal

pub returns-clause-alone : goal.returns-clause-alone
returns-clause-alone c =
    λ is.
    let nodes = c.args.g.now.nodes in
    c.leaves_all_by_each.ensures (λ m x ins. Ok (record { variants = source_variants m x; requests = [] }))
    c.args.self.now nodes
    c.requires (leave_sources nodes
    (ap (list_all is_built_once) (sym c.as_slice.ensures) ∙ sym c.are_built_once.ensures ∙ is))
