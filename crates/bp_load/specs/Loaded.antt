-- What a tree loads as: all modules in order, or the first fault of the first phase that has one.
use Rattle.std.specs.Prelude.{◌≡◌, ℕ, Bool, nat_le, List, [], ◌∷◌, ◌++◌, map, length, codes, Option, Some, None, Result}
use Rattle.std.specs.Prelude.{Ok, Err, if◌then◌else◌}
use Rattle.std.specs.Option.{option_to_list}
use Rattle.bp_faults.specs.declared.place.Place.{Place}
use Rattle.bp_faults.specs.declared.fault.Fault.{Fault}
use Rattle.bp_faults.specs.declared.kind.FaultKind.TheVariants.{DuplicateName, TooMany}
use Rattle.bp_faults.specs.declared.limits.TheConstants.{MOST_MODULES}
use Rattle.bp_faults.specs.Answers.{then_do}
use Rattle.bp_faults.specs.Faults.{fault_on}
use Rattle.bp_names.specs.Meaning.{knows}
use Rattle.bp_props.specs.declared.given.Given.{Given}
use Rattle.bp_props.specs.declared.module.Module.{Module}
use Rattle.bp_values.specs.Meaning.{Raw}
use Rattle.property_tables.specs.Meaning.{typed_module}
use Rattle.bp_faults.specs.Phases.{Then}
use Rattle.bp_load.specs.Trees.{Source}
use Rattle.bp_load.specs.Inherited.{RawMean}

-- The phase of typing: every module in turn. One that is typed as nothing is dropped.
abbrev pub all_typed : List (List ℕ × Raw) → Result (List Module) Fault
all_typed [] = Ok []
all_typed (m ∷ ms) =
    then_do (typed_module m.1 m.0) (λ made. then_do (all_typed ms) (λ more. Ok (option_to_list made ++ more)))

-- The place of the entry that gives a module its name, and the module's own place where none does.
abbrev pub name_place : Place → Option (Given (List ℕ)) → Place
name_place at None = at
name_place at (Some name) = name.at

-- Some module has that name.
abbrev pub has_module_named : List ℕ → List Module → Bool
has_module_named name modules = knows (map (λ (m : Module). m.name) modules) name

-- A module behind so many others is first counted, and then it matters whether its name was seen.
abbrev pub name_check : ℕ → Bool → Module → Result Unit Fault
name_check count seen m =
    if nat_le MOST_MODULES count then Err (fault_on TooMany m.at (codes "modules"))
    else if seen then Err (fault_on DuplicateName (name_place m.at m.props.name) m.name)
    else Ok tt

-- A module is counted behind those before it, and its name is compared with theirs.
abbrev pub name_tested : List Module → Module → Result Unit Fault
name_tested before m = name_check (length before) (has_module_named m.name before) m

-- The phase of names: every module in turn, behind those before it.
abbrev pub names_tested : List Module → List Module → Result Unit Fault
names_tested before [] = Ok tt
names_tested before (m ∷ ms) = then_do (name_tested before m) (λ fine. names_tested (before ++ m ∷ []) ms)

-- What raw modules load as: first every module is typed, and then every name is tested.
abbrev pub all_named : List (List ℕ × Raw) → Result (List Module) Fault
all_named raws = then_do (all_typed raws) (λ modules. then_do (names_tested [] modules) (λ fine. Ok modules))

-- What files load as: first they mean raw modules.
abbrev pub LoadMeans : List Source → Result (List Module) Fault → Type 0
LoadMeans files outcome = Then (RawMean files) (λ raws o. all_named raws ≡ o) outcome
