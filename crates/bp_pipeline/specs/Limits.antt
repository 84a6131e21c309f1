-- The outcome of a kind of mutator as a graph or a fault.
use Rattle.std.specs.Prelude.{◌≡◌, List, Result, Ok, Err, codes, slice_get}
use Rattle.std.specs.Option.{option_map_or}
use Rattle.bp_faults.specs.declared.fault.Fault.{Fault}
use Rattle.bp_faults.specs.declared.ids.ModuleId.{ModuleId}
use Rattle.bp_faults.specs.declared.kind.FaultKind.TheVariants.{TooMany}
use Rattle.bp_faults.specs.declared.place.Place.{Place}
use Rattle.bp_faults.specs.Faults.{fault_on, file_start}
use Rattle.bp_props.specs.declared.module.Module.{Module}
use Rattle.mutator_rules.specs.Outcomes.{KindOutcome, Made, FaultAt, NodesBeyond, EdgesBeyond}

-- The place of a module by its number. A number beyond the modules has the start of file 0.
abbrev pub place_of_module : List Module → ModuleId → Place
place_of_module mods number = option_map_or (λ (m : Module). m.at) (slice_get mods number.0) (file_start 0)

-- Nodes beyond their limit are a fault of the module of the first beyond, edges one at the place of the first beyond.
abbrev pub graph_or_fault : {G : Type 0} → List Module → KindOutcome G → Result G Fault
graph_or_fault mods (Made made) = Ok made
graph_or_fault mods (FaultAt n fault) = Err fault
graph_or_fault mods (NodesBeyond number) = Err (fault_on TooMany (place_of_module mods number) (codes "variants"))
graph_or_fault mods (EdgesBeyond at) = Err (fault_on TooMany at (codes "edges"))

-- What a kind of mutator comes to, by what it means.
abbrev pub ComesTo : {G : Type 0} → List Module → (KindOutcome G → Type 0) → Result G Fault → Type 0
ComesTo {G} mods Means outcome = (made : KindOutcome G) × Means made × (graph_or_fault mods made ≡ outcome)
