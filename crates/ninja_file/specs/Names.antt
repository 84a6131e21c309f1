-- The names, values and paths of a file for Ninja, byte by byte. Ninja manual, "Ninja file reference"; the profile is
-- in docs/NINJA.md.
use Rattle.std.specs.Prelude.{ℕ, Bool, List, ◌&&◌, ◌||◌, ◌==◌, not, length, codes}
use Rattle.std.specs.Char.{is_ascii_alphanumeric}
use Rattle.std.specs.List.{list_all}
use Rattle.std.specs.Str.{bytes_eq}
use Rattle.bp_faults.specs.Characters.{is_control}

-- A list without items.
abbrev pub is_nil : {A : Type 0} → List A → Bool
is_nil xs = length xs == 0

-- A letter, a digit or `_` of ASCII.
abbrev pub is_name_byte : ℕ → Bool
is_name_byte b = is_ascii_alphanumeric b || b == 95

-- Rules, keys and variables are called by one or more of these.
abbrev pub is_name : List ℕ → Bool
is_name name = not (is_nil name) && list_all is_name_byte name

-- A byte that is no control character.
abbrev pub is_shown : ℕ → Bool
is_shown b = not (is_control b)

-- A value isn't empty and holds no control character.
abbrev pub is_value : List ℕ → Bool
is_value value = not (is_nil value) && list_all is_shown value

-- A path is such a value without `|`.
abbrev pub is_path : List ℕ → Bool
is_path path = is_value path && list_all (λ b. not (b == 124)) path

-- The keys that a rule may have.
abbrev pub is_rule_key : List ℕ → Bool
is_rule_key key =
    bytes_eq key (codes "command") || bytes_eq key (codes "description")
    || bytes_eq key (codes "depfile") || bytes_eq key (codes "deps")
