-- Bytes as a text.
use Rattle.std.specs.Prelude.{◌≡◌, ℕ, ◌⊎◌, List, Result, Err, IsUtf8}
use Rattle.std.specs.Str.Lossy.{utf8_valid_len}
use Rattle.bp_faults.specs.declared.fault.Fault.{Fault}
use Rattle.bp_faults.specs.declared.kind.FaultKind.TheVariants.{NotUtf8}
use Rattle.bp_faults.specs.Faults.{fault_at}
use Rattle.bp_lexer.specs.Places.{place_at}

-- The fault of a file whose bytes are no text stands behind the longest prefix that is one.
abbrev pub not_utf8 : ℕ → List ℕ → Fault
not_utf8 file bytes = fault_at NotUtf8 (place_at file bytes (utf8_valid_len bytes))

-- What the bytes of a file mean, where a meaning is given to every text: they must be UTF-8.
abbrev pub AsText : {A : Type 0} → ℕ → List ℕ → (Result A Fault → Type 0) → Result A Fault → Type 0
AsText file bytes Means outcome =
    (IsUtf8 bytes × Means outcome) ⊎ ((IsUtf8 bytes → ⊥) × (outcome ≡ Err (not_utf8 file bytes)))
