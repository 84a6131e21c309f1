-- What is wrong where no token begins, and the fault that it is.
use Rattle.std.specs.Prelude.{◌≡◌, ℕ, ◌+◌, List, ◌⊎◌, drop, take, slice_index, codes, encode_utf8_all, chars}
use Rattle.std.specs.Int.{w64}
use Rattle.std.specs.Int.RustNames.{FitsSigned}
use Rattle.std.specs.Str.Parse.{signed_digits_value}
use Rattle.bp_faults.specs.Faults.{fault_at, fault_on}
use Rattle.bp_faults.specs.declared.fault.Fault.{Fault}
use Rattle.bp_faults.specs.declared.kind.FaultKind.TheVariants as fault
use Rattle.bp_lexer.specs.declared.flaw.Flaw.{Flaw}
use Rattle.bp_lexer.specs.declared.flaw.Flaw.TheVariants.{BadChar, OpenString, OpenComment, BadEscape, BadNumber}
use Rattle.bp_lexer.specs.declared.token.TokenKind.TheVariants.{Int}
use Rattle.bp_lexer.specs.Classes.{in_line}
use Rattle.bp_lexer.specs.Strings.{IsClosedAt, IsOpen, IsBadEscapeAt}
use Rattle.bp_lexer.specs.Forms.{IsLongest, HasNoForm}
use Rattle.bp_lexer.specs.Places.{place_at}

-- The decimal number is one of 64 bits: from -2^63 to 2^63 - 1.
abbrev pub IsInRange : List ℕ → Type 0
IsInRange word = FitsSigned w64 (signed_digits_value 10 word)

-- The text begins with a quote, a backquote or `/*`.
abbrev pub Opens : List ℕ → Type 0
Opens text = (slice_index text 0 ≡ 34) ⊎ ((slice_index text 0 ≡ 96) ⊎ (take 2 text ≡ codes "/*"))

-- A string that no quote ends on its line, or a backquote. Where no form fits, no other backquote follows that one.
abbrev pub OpensString : List ℕ → Type 0
OpensString text = ((slice_index text 0 ≡ 34) × IsOpen (drop 1 text)) ⊎ (slice_index text 0 ≡ 96)

-- A string that ends, with its first bad escape at k.
abbrev pub HasBadEscape : List ℕ → ℕ → Type 0
HasBadEscape text k =
    (slice_index text 0 ≡ 34) × ((n : ℕ) × IsClosedAt in_line (drop 1 text) n) × IsBadEscapeAt (drop 1 text) k

-- What is wrong at the front of a text: no form fits, and why; or the longest form is a number out of range.
abbrev pub HasFlaw : List ℕ → Flaw → Type 0
HasFlaw text BadChar = HasNoForm text × (Opens text → ⊥)
HasFlaw text OpenString = HasNoForm text × OpensString text
HasFlaw text OpenComment = HasNoForm text × (take 2 text ≡ codes "/*")
HasFlaw text (BadEscape k) = HasNoForm text × HasBadEscape text k
HasFlaw text (BadNumber n) = IsLongest text Int n × (IsInRange (take n text) → ⊥)

-- The character that a text begins with, in UTF-8.
abbrev pub first_char : List ℕ → List ℕ
first_char text = encode_utf8_all (take 1 (chars text))

-- The fault that a flaw at a place is. A bad escape stands at its backslash, behind the quote.
abbrev pub lex_fault : ℕ → List ℕ → ℕ → Flaw → Fault
lex_fault file text at BadChar = fault_on fault.BadChar (place_at file text at) (first_char (drop at text))
lex_fault file text at OpenString = fault_at fault.OpenString (place_at file text at)
lex_fault file text at OpenComment = fault_at fault.OpenComment (place_at file text at)
lex_fault file text at (BadEscape k) =
    fault_on fault.BadEscape (place_at file text (at + 1 + k)) (first_char (drop (at + 1 + k + 1) text))
lex_fault file text at (BadNumber n) = fault_on fault.BadNumber (place_at file text at) (take n (drop at text))
