-- Configurations for which modules are built.
use Rattle.std.specs.Prelude.{◌≢◌}
use Rattle.std.specs.List.{AllPairs}
use Rattle.mutator_rules.specs.declared.config.Config.{Config}

-- The targets of a configuration differ.
abbrev pub TargetsDiffer : Config → Type 0
TargetsDiffer c = AllPairs (λ a b. a ≢ b) c.targets
