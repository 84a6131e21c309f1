-- What a file means: its modules and its final scope, or its first fault in the order of evaluation.
-- Source: Soong reference, "Android.bp file format", variables.
use Rattle.std.specs.Prelude.{ℕ, Bool, false, ◌||◌, List, [], ◌∷◌, ◌++◌, map, Option, None, Some, Result, Ok, Err}
use Rattle.std.specs.Prelude.{if◌then◌else◌}
use Rattle.std.specs.Str.{bytes_eq}
use Rattle.bp_faults.specs.declared.place.Place.{Place}
use Rattle.bp_faults.specs.declared.fault.Fault.{Fault}
use Rattle.bp_faults.specs.declared.kind.FaultKind.TheVariants.{UnknownVariable, VariableSet, NotLocal, AfterUse}
use Rattle.bp_faults.specs.Answers.{then_do}
use Rattle.bp_faults.specs.Faults.{fault_on}
use Rattle.bp_parser.specs.Trees.{Tree, Map, Definition, Assigns, Extends, Declares}
use Rattle.bp_values.specs.declared.file.RawModule.{RawModule}
use Rattle.bp_values.specs.Values.{Meaning, MapEntry, map_entry_of}
use Rattle.bp_values.specs.Sums.{sum}
use Rattle.bp_values.specs.Scopes.{Pairs, value_in}
use Rattle.bp_values.specs.Expressions.{val, val_map}
use Rattle.bp_values.specs.References.{is_in, is_in_entries}

-- A module as it is written, with its values.
pub record Raw : Type 0 where
  pub kind : List ℕ
  pub at : Place
  pub entries : List MapEntry

-- How contracts see a module of the code.
abbrev pub raw_of : RawModule → Raw
raw_of m = record { kind = m.kind; at = m.at; entries = map map_entry_of m.entries.items }

-- What is known after some definitions: the scope, the names that they refer to, and their modules.
pub record Known : Type 0 where
  pub scope : Pairs
  pub is_used : List ℕ → Bool
  pub modules : List Raw

-- The scope in which a name that had no value has one.
abbrev pub with_new : Pairs → List ℕ → Meaning → Pairs
with_new scope name value = scope ++ (name, value) ∷ []

-- The scope in which a name that had a value has another.
abbrev pub with_other : Pairs → List ℕ → Meaning → Pairs
with_other [] name value = []
with_other (p ∷ ps) name value = if bytes_eq name p.0 then (p.0, value) ∷ ps else p ∷ with_other ps name value

-- The names that were referred to, and those in an expression.
abbrev pub uses_with : (List ℕ → Bool) → Tree → List ℕ → Bool
uses_with is_used e name = is_used name || is_in name e

-- What is known after a definition that gives the scope and refers to the names of an expression.
abbrev pub known_with : Known → Pairs → Tree → Known
known_with k scope e = record { scope = scope; is_used = uses_with k.is_used e; modules = k.modules }

-- `name = e`, where the name has that value or none: it must have none.
abbrev pub after_assignment : Known → List ℕ → Place → Tree → Option Meaning → Result Known Fault
after_assignment k name at e (Some old) = Err (fault_on VariableSet at name)
after_assignment k name at e None = then_do (val k.scope e) (λ v. Ok (known_with k (with_new k.scope name v) e))

-- `name += e`, where the name has that value or none: it must have one, and no definition before may refer to it.
abbrev pub after_extension : Known → List ℕ → Place → Tree → Option Meaning → Result Known Fault
after_extension k name at e None = Err (fault_on UnknownVariable at name)
after_extension k name at e (Some old) =
    if k.is_used name then Err (fault_on AfterUse at name)
    else then_do (then_do (val k.scope e) (λ v. sum at old v)) (λ v. Ok (known_with k (with_other k.scope name v) e))

-- The same, where the file inherits that value of the name or none: it must inherit none.
abbrev pub after_own_extension : Known → List ℕ → Place → Tree → Option Meaning → Result Known Fault
after_own_extension k name at e (Some inherited) = Err (fault_on NotLocal at name)
after_own_extension k name at e None = after_extension k name at e (value_in k.scope name)

-- What is known after a module with these entries.
abbrev pub with_module : Known → List ℕ → Place → Map → List MapEntry → Known
with_module k kind at m fs = record {
  scope = k.scope;
  is_used = λ name. k.is_used name || is_in_entries name m.entries;
  modules = k.modules ++ (record { kind = kind; at = at; entries = fs }) ∷ [];
}

-- `kind { .. }`, where the body has values.
abbrev pub after_module : Known → List ℕ → Place → Map → Result Known Fault
after_module k kind at m = then_do (val_map k.scope m.at m.entries) (λ fs. Ok (with_module k kind at m fs))

-- What is known after one definition more of a file that inherits those pairs.
abbrev pub after_definition : Pairs → Known → Definition → Result Known Fault
after_definition inherited k (Assigns name at e) = after_assignment k name at e (value_in k.scope name)
after_definition inherited k (Extends name at e) = after_own_extension k name at e (value_in inherited name)
after_definition inherited k (Declares kind at m) = after_module k kind at m

-- What is known after these definitions more, one after the other.
abbrev pub after_definitions : Pairs → Known → List Definition → Result Known Fault
after_definitions inherited k [] = Ok k
after_definitions inherited k (d ∷ ds) =
    then_do (after_definition inherited k d) (λ next. after_definitions inherited next ds)

-- Before the first definition the scope is what the file inherits.
abbrev pub known_first : Pairs → Known
known_first inherited = record { scope = inherited; is_used = λ name. false; modules = [] }

-- The modules of a file and its final scope.
abbrev pub file_evaluation : Pairs → List Definition → Result (List Raw × Pairs) Fault
file_evaluation inherited ds =
    then_do (after_definitions inherited (known_first inherited) ds) (λ k. Ok (k.modules, k.scope))
