use Rattle.std.proofs.Common.{◌∙◌, ap, sym}
use Rattle.std.specs.List.{list_any}
use Rattle.source_patterns.specs.Patterns.{is_pattern}
use Rattle.source_patterns.proofs.Gives.{if_each}
use Rattle.source_patterns.proofs.Turns.{no_pattern_in}
use Rattle.source_patterns.proofs.groups.expand_group.Goals as goal

pub returns-then-not-has_pattern-clause-gives : goal.returns-then-not-has_pattern-clause-gives
returns-then-not-has_pattern-clause-gives g c =
    let none = sym (c.has_pattern.ensures ∙ ap (list_any (is_pattern c.args.dir.now)) c.items.ensures)
    ∙ c.if-not-has_pattern.true in
    if_each (g.D.Directories.held c.args.dirs.now) _ (λ held. no_pattern_in held c.args.dir.now c.args.group.now none)
