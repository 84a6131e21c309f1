-- How an index finds names by slots. No public contract speaks of it.
use Rattle.std.specs.Borrow.{Bor}
use Rattle.std.specs.Prelude.{◌≡◌, ◌≤◌, ℕ, ◌-◌, ◌*◌, Bool, false, cond, List, map, length, nat_eq, bit_and, slice_get}
use Rattle.std.specs.Prelude.{Option, Some, None, if◌then◌else◌}
use Rattle.std.specs.Str.{bytes_eq}
use Rattle.bp_names.specs.Meaning.{number_of}
use Rattle.name_index.specs.Keys.{key_of}

-- Names with their numbers.
abbrev pub names_of : List (Bor (List ℕ) × ℕ) → List (List ℕ × ℕ)
names_of kept = map (λ (name : Bor (List ℕ) × ℕ). (name.0.now, name.1)) kept

-- A slot that is there is free where it holds 0.
abbrev pub is_free : Option ℕ → Bool
is_free None = false
is_free (Some mark) = nat_eq mark 0

-- The number of a name by the owner of its slot: the owner's where the name is the owner, else that among the others.
abbrev pub by_owner : Option (List ℕ × ℕ) → List (List ℕ × ℕ) → List ℕ → Option ℕ
by_owner None others name = number_of others name
by_owner (Some owner) others name = if bytes_eq name owner.0 then Some owner.1 else number_of others name

-- The number of a name by what its slot holds: the index of its owner among all names plus 1, or 0 where it is free.
abbrev pub number_by : Option ℕ → List (List ℕ × ℕ) → List (List ℕ × ℕ) → List ℕ → Option ℕ
number_by None names others name = number_of others name
number_by (Some mark) names others name = cond (nat_eq mark 0) None (by_owner (slice_get names (mark - 1)) others name)

-- Each name is found by its slot, others have no further names, and slots are owned by names.
pub record FindsBySlots (mask : ℕ) (marks : List ℕ) (names others : List (List ℕ × ℕ)) : Type 0 where
  pub found : (name : List ℕ)
      → number_of names name ≡ number_by (slice_get marks (bit_and (key_of name) mask)) names others name
  pub within : (name : List ℕ) → number_of names name ≡ None → number_of others name ≡ None
  pub owned : (slot mark : ℕ) → slice_get marks slot ≡ Some mark → mark ≤ length names

-- There are at least four slots for each of so many names.
abbrev pub HasRoomFor : ℕ → List ℕ → Type 0
HasRoomFor count marks = 4 * count ≤ length marks
