-- Bytes as text, and what a file holds within a limit.
use Rattle.std.proofs.Common.{◌≡◌, ◌<◌, ◌≤◌, ℕ, Bool, true, false, cond, List, length, Option, Some, None, refl}
use Rattle.std.proofs.Common.{arith, ap, IsUtf8}
use Rattle.std.specs.Prelude.{IsSomeAnd}
use Rattle.std.specs.Str.{is_utf8}
use Rattle.std.proofs.lemmas.Bool.Decides.{nat_tests}
use Rattle.std.proofs.lemmas.Str.{IsUtf8-from_is_utf8, is_utf8-from_IsUtf8}
use Rattle.fault_view.specs.Excerpts.{as_text}
use Rattle.fault_view.specs.View.{bytes_within}

pub text_of : (bytes : List ℕ) → IsUtf8 bytes → as_text bytes ≡ Some bytes
text_of bytes h = ap (λ t. cond t (Some bytes) None) (is_utf8-from_IsUtf8 bytes h)

refuted : (t : Bool) (bytes : List ℕ) → (t ≡ true → ⊥) → cond t (Some bytes) None ≡ None
refuted true bytes never = absurd (never refl)
refuted false bytes never = refl

pub no_text : (bytes : List ℕ) → (IsUtf8 bytes → ⊥) → as_text bytes ≡ None
no_text bytes never = refuted (is_utf8 bytes) bytes (λ e. never (IsUtf8-from_is_utf8 bytes e))

fits : (limit : ℕ) (bytes : List ℕ) → length bytes ≤ limit → bytes_within limit (Some bytes) ≡ Some bytes
fits limit bytes le = grind (arith, nat_tests)

too_large : (limit : ℕ) (held : Option (List ℕ)) → IsSomeAnd held (λ bytes. limit < length bytes)
    → None ≡ bytes_within limit held
too_large limit None h = absurd h
too_large limit (Some bytes) h = grind (arith, nat_tests, h)
