-- What the searches inside the lexer find. No public contract speaks of it.
use Rattle.std.specs.Prelude.{◌≡◌, ◌+◌, ◌==◌, if◌then◌else◌, ℕ, Bool, true, false, List, take}
use Rattle.std.specs.Prelude.{Option, Some, None, Result, Ok, Err}
use Rattle.bp_lexer.specs.declared.flaw.Flaw.{Flaw}
use Rattle.bp_lexer.specs.declared.flaw.Flaw.TheVariants.{OpenString, BadEscape}
use Rattle.bp_lexer.specs.declared.token.TokenKind.{TokenKind}
use Rattle.bp_lexer.specs.declared.token.TokenKind.TheVariants.{Ident, Int, Raw, Punct as Mark, BlockComment}
use Rattle.bp_faults.specs.declared.place.Place.{Place}
use Rattle.bp_lexer.specs.Classes.{in_line}
use Rattle.bp_lexer.specs.Places.{begins_char}
use Rattle.bp_lexer.specs.Strings.{is_escape, is_body, IsClosedAt, IsOpen, IsBadEscapeAt}
use Rattle.bp_lexer.specs.Forms.{IsLongest}
use Rattle.bp_lexer.specs.Faults.{IsInRange, HasFlaw}

-- Up to n there is no bad escape, or the first is known.
abbrev pub KnowsBadEscape : List ℕ → ℕ → Option ℕ → Type 0
KnowsBadEscape rest n None = is_body is_escape false (take n rest) ≡ true
KnowsBadEscape rest n (Some k) = IsBadEscapeAt rest k

-- What is wrong with the body of a string, behind its quote.
abbrev pub IsBodyFlaw : List ℕ → Flaw → Type 0
IsBodyFlaw rest OpenString = IsOpen rest
IsBodyFlaw rest (BadEscape k) = ((n : ℕ) × IsClosedAt in_line rest n) × IsBadEscapeAt rest k
IsBodyFlaw rest flaw = ⊥

-- A search at the front of a text finds the longest form and its length, or what is wrong.
abbrev pub Finds : List ℕ → Result (TokenKind × ℕ) Flaw → Type 0
Finds text (Ok found) = IsLongest text found.0 found.1
Finds text (Err flaw) = HasFlaw text flaw

-- The same where a number out of range is no token.
abbrev pub FindsToken : List ℕ → Result (TokenKind × ℕ) Flaw → Type 0
FindsToken text (Ok found) = IsLongest text found.0 found.1 × (found.0 ≡ Int → IsInRange (take found.1 text))
FindsToken text (Err flaw) = HasFlaw text flaw

-- The place behind a byte.
abbrev pub place_after : Place → ℕ → Place
place_after p b =
    if b == 10 then record { file = p.file; line = p.line + 1; col = 1 }
    else (if begins_char b then record { file = p.file; line = p.line; col = p.col + 1 }
    else p)

-- The place that many columns further on.
abbrev pub place_along : Place → ℕ → Place
place_along p n = record { file = p.file; line = p.line; col = p.col + n }

-- A token of the kind has bytes of ASCII alone, and no end of a line.
abbrev pub is_plain : TokenKind → Bool
is_plain Ident = true
is_plain Int = true
is_plain (Mark punct) = true
is_plain kind = false

-- A token of the kind may hold the end of a line.
abbrev pub has_line_end : TokenKind → Bool
has_line_end Raw = true
has_line_end BlockComment = true
has_line_end kind = false
