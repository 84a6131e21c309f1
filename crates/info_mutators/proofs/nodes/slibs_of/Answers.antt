use Rattle.std.proofs.Common.{ap, ◌∙◌, nat_eq, List, ℕ, option_map}
use Rattle.std.specs.List.{flat_map}
use Rattle.indexmap.specs.IndexSet.{insert_all}
use Rattle.serial_pass.specs.Orders.{numbers}
use Rattle.info_mutators.specs.Dependencies.{Dependency}
use Rattle.info_mutators.specs.Info.{shared_part}
use Rattle.info_mutators.specs.Kept.{if_short}
use Rattle.info_mutators.proofs.Listed.{slibs_noted, items_numbers}
use Rattle.info_mutators.proofs.nodes.slibs_of.Goals as goal

pub returns : goal.returns
returns c =
    slibs_noted c.args.dependencies.now c.note_shared.new.notes c.note_needed.new.notes
    (option_map (λ list. list.items) c.into_short.result)
    (c.in_ok-note_shared.ensures
    ∙ ap (λ (ns : List ℕ). if_short (insert_all nat_eq ns
    (flat_map (λ (d : Dependency). numbers (shared_part d.node d.kind)) c.args.dependencies.now)))
    c.in_ok-notes.ensures)
    c.in_ok-note_needed.ensures
    (items_numbers c.into_short.result ∙ c.into_short.ensures)
