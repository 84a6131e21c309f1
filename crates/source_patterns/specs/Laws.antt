-- What holds of the expansion.
use Rattle.std.specs.Prelude.{◌≡◌, ℕ, List, Result}
use Rattle.bp_faults.specs.declared.fault.Fault.{Fault}
use Rattle.bp_props.specs.declared.module.Module.{Module}
use Rattle.source_patterns.specs.Expansion.{ExpandMeans}

-- Modules expand to one thing alone.
abbrev pub OneExpansion : Type 0
OneExpansion = (held : List (List ℕ)) (mods : List Module) (a b : Result (List Module) Fault)
    → ExpandMeans held mods a → ExpandMeans held mods b → a ≡ b
