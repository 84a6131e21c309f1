use Rattle.target_mutators.specs.Arch.{arch_variants}
use Rattle.target_mutators.proofs.Differ.{arch_differ}
use Rattle.target_mutators.proofs.laws.target_variants_differ.Goals as goal

pub returns : goal.returns
returns c config mods nodes differ =
    c.split_results_differ.ensures (arch_variants config) mods nodes
    (λ m x. arch_differ m.kind x.payload config.targets differ)
