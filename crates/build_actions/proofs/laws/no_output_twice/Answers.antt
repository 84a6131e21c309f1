use Rattle.build_actions.proofs.Told.{named, outs_differ}
use Rattle.build_actions.proofs.laws.no_output_twice.Goals as goal

pub returns : goal.returns
returns c =
    λ ms nodes made told are. outs_differ ms nodes (named ms nodes c.variant_names_are_plain.ensures told) made are
