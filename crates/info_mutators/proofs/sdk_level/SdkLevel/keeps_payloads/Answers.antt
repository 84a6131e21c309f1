use Rattle.std.proofs.Common.{◌∙◌, ap, sym}
use Rattle.std.specs.List.{list_all}
use Rattle.info_mutators.specs.Idle.{has_no_level}
use Rattle.info_mutators.proofs.Levels.{keep_levels}
use Rattle.info_mutators.proofs.sdk_level.SdkLevel.keeps_payloads.Goals as goal

pub returns-clause-keeps : goal.returns-clause-keeps
returns-clause-keeps c =
    λ is.
    keep_levels c.args.g.now.nodes
    (ap (list_all has_no_level) (sym c.as_slice.ensures) ∙ sym c.have_no_level.ensures ∙ is)
