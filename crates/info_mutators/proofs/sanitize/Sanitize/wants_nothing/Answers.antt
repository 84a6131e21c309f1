use Rattle.std.proofs.Common.{◌∙◌, ap, sym}
use Rattle.std.specs.List.{list_all}
use Rattle.info_mutators.specs.Idle.{is_off}
use Rattle.info_mutators.proofs.Unsanitized.{want_nothing}
use Rattle.info_mutators.proofs.sanitize.Sanitize.wants_nothing.Goals as goal

pub returns-clause-nothing : goal.returns-clause-nothing
returns-clause-nothing c =
    λ is. want_nothing c.args.g.now.nodes (ap (list_all is_off) (sym c.as_slice.ensures) ∙ sym c.are_off.ensures ∙ is)
