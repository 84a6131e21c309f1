-- How lists are gathered. No public contract speaks of it.
use Rattle.std.specs.Borrow.{Bor}
use Rattle.std.specs.Prelude.{◌≡◌, ℕ, ◌+◌, Bool, true, not, ◌&&◌, ◌||◌, List, [], ◌∷◌, ◌++◌, map, nat_eq, if◌then◌else◌}
use Rattle.std.specs.Prelude.{Option, Some, None, slice_get, bit_and}
use Rattle.std.specs.List.{list_any}
use Rattle.std.specs.Str.{bytes_eq}
use Rattle.bp_faults.specs.declared.ids.NodeId.{NodeId}
use Rattle.bp_faults.specs.declared.place.Item.{Item}
use Rattle.bp_names.specs.Meaning.{IsSetOf}
use Rattle.bp_props.specs.declared.props.Props.{Props}
use Rattle.info_mutators.specs.declared.exports.ExportNames.{ExportNames}
use Rattle.indexmap.specs.IndexSet.{insert_key, insert_all}
use Rattle.info_mutators.specs.Info.{item_names}
use Rattle.info_mutators.specs.Kept.{if_short}

-- The paths, or other values, behind some references.
abbrev pub values_behind : {A : Type 0} → List (Bor A) → List A
values_behind refs = map (λ r. r.now) refs

-- A set of paths has noted some paths in order, each once.
abbrev pub NotesAllPaths : List (Bor (List ℕ)) → List (List ℕ) → List (Bor (List ℕ)) → Type 0
NotesAllPaths old paths new = values_behind new ≡ insert_all bytes_eq (values_behind old) paths

-- It has noted them as long as it was short.
abbrev pub NotesPaths : List (Bor (List ℕ)) → List (List ℕ) → List (Bor (List ℕ)) → Type 0
NotesPaths old paths new = if_short (values_behind new) ≡ if_short (insert_all bytes_eq (values_behind old) paths)

-- A set of numbers has noted some numbers in order, each once, as long as it was short.
abbrev pub NotesNumbers : List ℕ → List ℕ → List ℕ → Type 0
NotesNumbers old more new = if_short new ≡ if_short (insert_all nat_eq old more)

-- What a slot says of a number, where others are in a set. A slot holds its owner's number plus 1, or 0 where it is
-- free.
abbrev pub is_noted_by : Option ℕ → List ℕ → ℕ → Bool
is_noted_by None others number = list_any (nat_eq number) others
is_noted_by (Some held) others number =
    not (nat_eq held 0) && (nat_eq held (number + 1) || list_any (nat_eq number) others)

-- Slots and a set of others know which numbers are noted, and the set has no further ones.
pub record KnowsNoted (mask : ℕ) (slots others noted : List ℕ) : Type 0 where
  pub found : (number : ℕ)
      → is_noted_by (slice_get slots (bit_and number mask)) others number ≡ list_any (nat_eq number) noted
  pub within : (number : ℕ) → list_any (nat_eq number) others ≡ true → list_any (nat_eq number) noted ≡ true

-- A node was noted in a set and in a list, unless the set had it.
pub record NotesOther (node : NodeId) (old_keys : List ℕ) (old_nodes : List NodeId) (new_keys : List ℕ)
    (new_nodes : List NodeId) : Type 0 where
  pub keys : new_keys ≡ insert_key nat_eq old_keys node.0
  pub nodes : new_nodes ≡ (if list_any (nat_eq node.0) old_keys then old_nodes else old_nodes ++ node ∷ [])

-- A set and a list stay as they were.
pub record StaysNoted (old_keys : List ℕ) (old_nodes : List NodeId) (new_keys : List ℕ) (new_nodes : List NodeId)
    : Type 0 where
  pub keys : new_keys ≡ old_keys
  pub nodes : new_nodes ≡ old_nodes

-- A set has the names of a list.
abbrev pub AreNames : List Item → List (List ℕ) → Type 0
AreNames items set = IsSetOf (item_names items) set

-- Three sets have the names of a module's export lists.
pub record AreExportNames (own : Props) (names : ExportNames) : Type 0 where
  pub statics : AreNames own.base.export_static_lib_headers.items names.statics
  pub shareds : AreNames own.base.export_shared_lib_headers.items names.shareds
  pub headers : AreNames own.base.export_header_lib_headers.items names.headers
