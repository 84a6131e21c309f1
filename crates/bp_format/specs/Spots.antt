-- Where a list is set in a file.
use Rattle.std.specs.Prelude.{ℕ, if◌then◌else◌, List, [], ◌∷◌, codes, Option, Some, None, Result, Ok, Err}
use Rattle.std.specs.Str.{bytes_eq}
use Rattle.bp_faults.specs.Answers.{then_do}
use Rattle.bp_faults.specs.Faults.{fault_on, file_start}
use Rattle.bp_faults.specs.declared.fault.Fault.{Fault}
use Rattle.bp_faults.specs.declared.kind.FaultKind.TheVariants.{NoModule, NotList}
use Rattle.bp_faults.specs.declared.place.Place.{Place}
use Rattle.bp_parser.specs.Trees.{Tree, Leaf, Items, Str, Entries, no_entry, entry_and, Definition}
use Rattle.bp_parser.specs.Trees.{Assigns, first_place}
use Rattle.bp_parser.specs.Trees.{Extends, Declares}
use Rattle.bp_format.specs.declared.spot.Spot.{Spot}
use Rattle.bp_format.specs.declared.spot.Spot.TheVariants.{Instead, Behind}

-- The value of an entry.
abbrev pub lookup : List ℕ → Entries → Option Tree
lookup name no_entry = None
lookup name (entry_and other at x es) = if bytes_eq other name then Some x else lookup name es

-- The place of a value that is one string literal, equal to the text.
abbrev pub string_place : List ℕ → Option Tree → Option Place
string_place text (Some (Leaf at (Str s))) = if bytes_eq s text then Some at else None
string_place text _ = None

-- A list gives way to the new one; where the property isn't there, it is put behind the name.
abbrev pub value_spot : List ℕ → Place → Option Tree → Result Spot Fault
value_spot property name None = Ok (Behind name)
value_spot property name (Some (Items at xs)) = Ok (Instead at)
value_spot property name (Some x) = Err (fault_on NotList (first_place x) property)

-- That of a definition, if it is a module with this name.
abbrev pub spot_in : List ℕ → Option Place → Entries → Result (Option Spot) Fault
spot_in property None es = Ok None
spot_in property (Some name) es = then_do (value_spot property name (lookup property es)) (λ s. Ok (Some s))

-- Where a list is set in a definition, if it is the module with this name.
abbrev pub named_spot : List ℕ → List ℕ → Definition → Result (Option Spot) Fault
named_spot wanted property (Declares kind at m) =
    spot_in property (string_place wanted (lookup (codes "name") m.entries)) m.entries
named_spot wanted property (Assigns name at x) = Ok None
named_spot wanted property (Extends name at x) = Ok None

-- The first spot.
abbrev pub first_spot : Option Spot → Result Spot Fault → Result Spot Fault
first_spot None others = others
first_spot (Some s) others = Ok s

-- That of the first module with this name.
abbrev pub spot : ℕ → List ℕ → List ℕ → List Definition → Result Spot Fault
spot file wanted property [] = Err (fault_on NoModule (file_start file) wanted)
spot file wanted property (d ∷ ds) =
    then_do (named_spot wanted property d) (λ s. first_spot s (spot file wanted property ds))
