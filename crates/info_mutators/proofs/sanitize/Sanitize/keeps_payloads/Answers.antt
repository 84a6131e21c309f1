use Rattle.std.proofs.Common.{◌∙◌, ap, sym}
use Rattle.std.specs.List.{list_all}
use Rattle.info_mutators.specs.Idle.{is_unsanitized}
use Rattle.info_mutators.proofs.Unsanitized.{keep_records}
use Rattle.info_mutators.proofs.sanitize.Sanitize.keeps_payloads.Goals as goal

pub returns-clause-keeps : goal.returns-clause-keeps
returns-clause-keeps c =
    λ is.
    keep_records c.args.g.now.nodes
    (ap (list_all is_unsanitized) (sym c.as_slice.ensures) ∙ sym c.are_unsanitized.ensures ∙ is)
