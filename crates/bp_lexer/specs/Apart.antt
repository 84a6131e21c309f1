-- Where a token ends, as far as the byte behind it tells.
use Rattle.std.specs.Prelude.{◌≡◌, ◌⊎◌, ℕ, Bool, false, ◌==◌, List, [], slice_index}
use Rattle.bp_lexer.specs.declared.token.Punct.TheVariants.{Plus}
use Rattle.bp_lexer.specs.declared.token.TokenKind.{TokenKind}
use Rattle.bp_lexer.specs.declared.token.TokenKind.TheVariants.{Ident, Int, LineComment, Punct as Mark}
use Rattle.bp_lexer.specs.Classes.{is_word, is_digit, in_line}

-- Which bytes go on with a token of the kind. A token of any other kind ends by itself. 61 is `=`.
abbrev pub goes_on : TokenKind → ℕ → Bool
goes_on Ident b = is_word b
goes_on Int b = is_digit b
goes_on (Mark Plus) b = b == 61
goes_on LineComment b = in_line b
goes_on kind b = false

-- The text is empty, or its first byte doesn't pass the test.
abbrev pub StopsAt : (ℕ → Bool) → List ℕ → Type 0
StopsAt test text = (text ≡ []) ⊎ (test (slice_index text 0) ≡ false)
