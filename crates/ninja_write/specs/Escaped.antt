-- Paths and values as they are written. Ninja manual, "Ninja file reference", "Lexical syntax".
use Rattle.std.specs.Prelude.{ℕ, List, [], ◌∷◌, ◌++◌, ◌==◌, if◌then◌else◌}
use Rattle.std.specs.List.{flat_map}
use Rattle.ninja_file.specs.declared.escape.Escape.{Escape}
use Rattle.ninja_file.specs.declared.escape.Escape.TheVariants.{Path, Value}
use Rattle.ninja_file.specs.Escapes.{is_escaped}
use Rattle.bp_faults.specs.Characters.{dollar, space}

-- One byte, behind a dollar where it is escaped.
abbrev pub escaped_byte : Escape → ℕ → List ℕ
escaped_byte escape b = if is_escaped escape b then dollar ∷ b ∷ [] else b ∷ []

-- Each byte, as it is written.
abbrev pub escaped_bytes : Escape → List ℕ → List ℕ
escaped_bytes escape bytes = flat_map (escaped_byte escape) bytes

-- A path, as it is written.
abbrev pub path_text : List ℕ → List ℕ
path_text path = escaped_bytes Path path

-- Ninja drops the spaces after `=`, so a dollar stands before a space that begins a value.
abbrev pub lead : List ℕ → List ℕ
lead [] = []
lead (b ∷ bytes) = if b == space then dollar ∷ [] else []

-- The value of a variable, as it is written.
abbrev pub value_text : List ℕ → List ℕ
value_text value = lead value ++ escaped_bytes Value value
