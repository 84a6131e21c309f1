use Rattle.std.proofs.Common.{ap, ◌∙◌, reverse, nat_eq, List, ℕ}
use Rattle.std.specs.List.{flat_map}
use Rattle.indexmap.specs.IndexSet.{insert_all}
use Rattle.serial_pass.specs.Orders.{numbers}
use Rattle.info_mutators.specs.Dependencies.{Dependency}
use Rattle.info_mutators.specs.Info.{line_part}
use Rattle.info_mutators.specs.Kept.{if_short}
use Rattle.info_mutators.proofs.Listed.{no_line, line_turned}
use Rattle.info_mutators.proofs.nodes.link_line_of.Goals as goal

pub returns-in_default : goal.returns-in_default
returns-in_default c =
    no_line c.args.dependencies.now c.note_line.new.notes
    (c.in_ok-note_line.ensures
    ∙ ap (λ (ns : List ℕ). if_short (insert_all nat_eq ns
    (reverse (flat_map (λ (d : Dependency). numbers (line_part d.node d.props d.kind)) c.args.dependencies.now))))
    c.in_ok-notes.ensures)
    c.in_default.ensures

pub returns : goal.returns
returns c =
    line_turned c.args.dependencies.now c.note_line.new.notes
    (c.in_ok-note_line.ensures
    ∙ ap (λ (ns : List ℕ). if_short (insert_all nat_eq ns
    (reverse (flat_map (λ (d : Dependency). numbers (line_part d.node d.props d.kind)) c.args.dependencies.now))))
    c.in_ok-notes.ensures)
    c.in-Some.line.items c.reverse.new.self.items c.in-Some.ensures c.reverse.ensures.items
