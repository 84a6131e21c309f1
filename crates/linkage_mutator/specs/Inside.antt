-- What is looked up by number. No public contract speaks of it.
use Rattle.std.specs.Prelude.{ℕ, List, Option, slice_get}
use Rattle.std.specs.Option.{option_map}
use Rattle.bp_props.specs.declared.kind.ModuleKind.{ModuleKind}
use Rattle.bp_props.specs.declared.module.Module.{Module}

-- The kind of the module of a number, if it is there.
abbrev pub kind_at : List Module → ℕ → Option ModuleKind
kind_at mods n = option_map (λ (m : Module). m.kind) (slice_get mods n)
