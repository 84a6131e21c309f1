-- A tree in which a property of a module is set to a list.
use Rattle.std.specs.Prelude.{ℕ, Bool, if◌then◌else◌, is_some, List, [], ◌∷◌, codes, Option, Some, None}
use Rattle.std.specs.Str.{bytes_eq}
use Rattle.bp_faults.specs.declared.place.Place.{Place}
use Rattle.bp_parser.specs.Trees.{Tree, Leaf, Items, Str, Trees, no_tree, tree_and, Entries, no_entry, entry_and}
use Rattle.bp_parser.specs.Trees.{Definition, Assigns, Extends, Declares}
use Rattle.bp_format.specs.WithoutPlaces.{origin}
use Rattle.bp_format.specs.Editing.{Wanted}
use Rattle.bp_format.specs.Spots.{lookup, string_place}

-- Strings as expressions. Their places are of no account.
abbrev pub string_items : List (List ℕ) → Trees
string_items [] = no_tree
string_items (x ∷ xs) = tree_and (Leaf origin (Str x)) (string_items xs)

-- A list of strings as an expression.
abbrev pub list_expression : List (List ℕ) → Tree
list_expression items = Items origin (string_items items)

-- An entry with a value, and the entries behind it.
abbrev pub entry_with : List ℕ → Place → Tree × Entries → Entries
entry_with name at p = entry_and name at p.0 p.1

-- Entries in which the first value of a name, and what stands behind it, have changed.
abbrev pub changed_at : List ℕ → (Tree → Entries → Tree × Entries) → Entries → Entries
changed_at name change no_entry = no_entry
changed_at name change (entry_and other at x es) =
    entry_with other at (if bytes_eq other name then change x es else (x, changed_at name change es))

-- Entries with another value of a name.
abbrev pub with_value : List ℕ → Tree → Entries → Entries
with_value name x es = changed_at name (λ old more. (x, more)) es

-- Entries with one entry more, behind that of a name.
abbrev pub with_entry : List ℕ → List ℕ → Tree → Entries → Entries
with_entry name property x es = changed_at name (λ value more. (value, entry_and property origin x more)) es

-- Entries with a property set, by the value that it has: that is replaced, or the property is put behind the name.
abbrev pub set_by : List ℕ → Tree → Option Tree → Entries → Entries
set_by property x None es = with_entry (codes "name") property x es
set_by property x (Some old) es = with_value property x es

-- Entries with a property set.
abbrev pub set_entry : List ℕ → Tree → Entries → Entries
set_entry property x es = set_by property x (lookup property es) es

-- The module has the name.
abbrev pub has_module_name : List ℕ → Entries → Bool
has_module_name name es = is_some (string_place name (lookup (codes "name") es))

-- A definition with the property set, if it is the module with this name.
abbrev pub set_in_definition : Wanted → Definition → Option Definition
set_in_definition w (Declares kind at m) =
    if has_module_name w.name m.entries
    then Some (Declares kind at
    (record { at = m.at; entries = set_entry w.property (list_expression w.items) m.entries }))
    else None
set_in_definition w (Assigns name at x) = None
set_in_definition w (Extends name at x) = None

-- A definition that has changed, and those behind it; or the definition, and others.
abbrev pub first_definition : Option Definition → Definition → List Definition → List Definition → List Definition
first_definition None d ds others = d ∷ others
first_definition (Some e) d ds others = e ∷ ds

-- Definitions with the property set in the first module that has the name.
abbrev pub set_in : Wanted → List Definition → List Definition
set_in w [] = []
set_in w (d ∷ ds) = first_definition (set_in_definition w d) d ds (set_in w ds)
