-- The names of the modules of a text, as its tokens tell them.
use Rattle.std.specs.Prelude.{◌≡◌, ℕ, Bool, true, false, ◌&&◌, List, [], ◌∷◌, codes, if◌then◌else◌, Option, Some, None}
use Rattle.std.specs.List.{cons_option}
use Rattle.std.specs.Str.{bytes_eq}
use Rattle.bp_lexer.specs.Meaning.{IsTokenList, word_of, string_of}
use Rattle.bp_lexer.specs.declared.token.Token.{Token}
use Rattle.bp_lexer.specs.declared.token.TokenKind.{TokenKind}
use Rattle.bp_lexer.specs.declared.token.TokenKind.TheVariants.{Quoted, Raw, Punct as Mark}
use Rattle.bp_lexer.specs.declared.token.Punct.TheVariants.{Colon}

-- A token is a string.
abbrev pub is_string : TokenKind → Bool
is_string Quoted = true
is_string Raw = true
is_string kind = false

-- A token is a colon.
abbrev pub is_colon_token : TokenKind → Bool
is_colon_token (Mark Colon) = true
is_colon_token kind = false

-- Three tokens are the word `name`, a colon and a string.
abbrev pub is_name_entry : List ℕ → Token → Token → Token → Bool
is_name_entry text word colon string =
    bytes_eq (word_of text word) (codes "name") && (is_colon_token colon.kind && is_string string.kind)

-- The string behind the word `name` and a colon, where the tokens begin with these.
abbrev pub first_name : List ℕ → List Token → Option (List ℕ)
first_name text [] = None
first_name text (a ∷ []) = None
first_name text (a ∷ b ∷ []) = None
first_name text (a ∷ b ∷ c ∷ more) =
    if is_name_entry text a b c then Some (string_of c.kind (word_of text c)) else None

-- The names that begin at each of the tokens.
abbrev pub token_names : List ℕ → List Token → List (List ℕ)
token_names text [] = []
token_names text (t ∷ ts) = cons_option (first_name text (t ∷ ts)) (token_names text ts)

-- The names of a text are those in its tokens, and a text that has no tokens has none.
pub record AreNames (text : List ℕ) (names : List (List ℕ)) : Type 0 where
  pub lexed : (ts : List Token) → IsTokenList 0 text ts → names ≡ token_names text ts
  pub refused : ((ts : List Token) → IsTokenList 0 text ts → ⊥) → names ≡ []
