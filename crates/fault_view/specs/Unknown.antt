-- What a fault line says is unknown.
use Rattle.std.specs.Prelude.{ℕ, ◌==◌, List, [], ◌∷◌, length, take, drop, Option, Some, None, codes, if◌then◌else◌}
use Rattle.std.specs.List.{slice_split}
use Rattle.std.specs.Str.{bytes_eq}
use Rattle.std.specs.Option.{option_map, option_and_then}
use Rattle.bp_faults.specs.Kinds.{fault_number, fault_text}
use Rattle.bp_faults.specs.declared.kind.FaultKind.{FaultKind}
use Rattle.bp_faults.specs.declared.kind.FaultKind.TheVariants.{UnknownType, UnknownProperty, MissingModule, NoModule}
use Rattle.fault_view.specs.declared.fault_line.FaultLine.{FaultLine}
use Rattle.fault_view.specs.declared.unknown.Unknown.{Unknown}
use Rattle.fault_view.specs.declared.unknown.Unknown.TheVariants.{ModuleType, Property, Module}

-- What stands behind the first text in the second, where the second begins with it.
abbrev pub rest_behind : List ℕ → List ℕ → Option (List ℕ)
rest_behind first text = if bytes_eq first (take (length first) text) then Some (drop (length first) text) else None

-- The subject of a line, where its fault is of this kind.
abbrev pub subject_of : FaultKind → FaultLine → Option (List ℕ)
subject_of kind f =
    if f.number == fault_number kind
    then option_and_then (rest_behind (codes ": ")) (rest_behind (fault_text kind) f.what) else None

-- The first of two that is there.
abbrev pub first_option : {A : Type 0} → Option A → Option A → Option A
first_option None other = other
first_option (Some a) other = Some a

-- What a line says is unknown, and its name.
abbrev pub unknown_of : FaultLine → Option (Unknown × List ℕ)
unknown_of f =
    first_option (option_map (λ name. (ModuleType, name)) (subject_of UnknownType f))
    (first_option (option_map (λ name. (Property, name)) (subject_of UnknownProperty f))
    (first_option (option_map (λ name. (Module, name)) (subject_of MissingModule f))
    (option_map (λ name. (Module, name)) (subject_of NoModule f))))

-- The last two of some names, behind two that come before them.
abbrev pub last_two : List ℕ → List ℕ → List (List ℕ) → List ℕ × List ℕ
last_two group name [] = (group, name)
last_two group name (part ∷ parts) = last_two name part parts

-- The last group of a property, which is empty where it stands in none, and its last name.
abbrev pub last_parts : List ℕ → List ℕ × List ℕ
last_parts property = last_two [] [] (slice_split (λ b. b == 46) property)
