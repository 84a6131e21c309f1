use Rattle.reverse_deps.proofs.SomeOutcome.{applied_keeps}
use Rattle.reverse_deps.proofs.laws.applied_keeps.Goals as goal

pub returns : goal.returns
returns g c =
    λ mods nodes asked new valid may asking applied. applied_keeps mods nodes asked new valid may asking applied
