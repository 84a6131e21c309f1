-- The forms of tokens, as lists of bytes.
use Rattle.std.specs.Prelude.{◌≡◌, ℕ, ◌+◌, ◌<◌, ◌≤◌, false, List, [], ◌∷◌, ◌++◌, ◌⊎◌, length, take, slice_index, codes}
use Rattle.std.specs.Prelude.{IsTrue}
use Rattle.std.specs.List.{list_all}
use Rattle.bp_lexer.specs.declared.token.Punct.{Punct}
use Rattle.bp_lexer.specs.declared.token.Punct.TheVariants.{OpenBrace, CloseBrace, OpenBracket, CloseBracket, OpenParen}
use Rattle.bp_lexer.specs.declared.token.Punct.TheVariants.{CloseParen, Colon, Comma, Equal, PlusEqual, Plus}
use Rattle.bp_lexer.specs.declared.token.TokenKind.{TokenKind}
use Rattle.bp_lexer.specs.declared.token.TokenKind.TheVariants.{Ident, Int, Quoted, Raw, Punct as Mark, LineComment}
use Rattle.bp_lexer.specs.declared.token.TokenKind.TheVariants.{BlockComment}
use Rattle.bp_lexer.specs.Classes.{is_letter, is_word, is_digit, in_line, in_raw}
use Rattle.bp_lexer.specs.Strings.{is_escape, is_body}

-- How each punctuation mark is written.
abbrev pub punct_text : Punct → List ℕ
punct_text OpenBrace = codes "{"
punct_text CloseBrace = codes "}"
punct_text OpenBracket = codes "["
punct_text CloseBracket = codes "]"
punct_text OpenParen = codes "("
punct_text CloseParen = codes ")"
punct_text Colon = codes ":"
punct_text Comma = codes ","
punct_text Equal = codes "="
punct_text PlusEqual = codes "+="
punct_text Plus = codes "+"

-- `*/` stands at n.
abbrev pub IsEnd : List ℕ → ℕ → Type 0
IsEnd bytes n = (slice_index bytes n ≡ 42) × (slice_index bytes (n + 1) ≡ 47)

-- `*/` stands at n, and at no place before.
abbrev pub IsFirstEnd : List ℕ → ℕ → Type 0
IsFirstEnd bytes n = IsEnd bytes n × ((m : ℕ) → m < n → IsEnd bytes m → ⊥)

-- The bytes are a token of the kind. 45 is `-`, 34 the quote, 96 the backquote, 47 `/` and 42 `*`.
abbrev pub IsForm : TokenKind → List ℕ → Type 0
IsForm Ident word = (first : ℕ) × (more : List ℕ) × (word ≡ first ∷ more) × IsTrue (is_letter first)
    × IsTrue (list_all is_word more)
IsForm Int word = (sign digits : List ℕ) × (word ≡ sign ++ digits) × ((sign ≡ []) ⊎ (sign ≡ 45 ∷ []))
    × (0 < length digits) × IsTrue (list_all is_digit digits)
IsForm Quoted word = (inner : List ℕ) × (word ≡ 34 ∷ (inner ++ 34 ∷ [])) × IsTrue (is_body is_escape false inner)
IsForm Raw word = (inner : List ℕ) × (word ≡ 96 ∷ (inner ++ 96 ∷ [])) × IsTrue (list_all in_raw inner)
IsForm (Mark punct) word = word ≡ punct_text punct
IsForm LineComment word = (inner : List ℕ) × (word ≡ 47 ∷ 47 ∷ inner) × IsTrue (list_all in_line inner)
IsForm BlockComment word =
    (behind : List ℕ) × (n : ℕ) × (word ≡ 47 ∷ 42 ∷ behind) × (length behind ≡ n + 2) × IsFirstEnd behind n

-- A token of the kind, and n bytes long, is the longest that the text begins with.
pub record IsLongest (text : List ℕ) (kind : TokenKind) (n : ℕ) : Type 0 where
  pub within : n ≤ length text
  pub form : IsForm kind (take n text)
  pub longest : (k : TokenKind) (word after : List ℕ) → text ≡ word ++ after → IsForm k word → length word ≤ n

-- The text begins with no token.
abbrev pub HasNoForm : List ℕ → Type 0
HasNoForm text = (k : TokenKind) (word after : List ℕ) → text ≡ word ++ after → IsForm k word → ⊥
