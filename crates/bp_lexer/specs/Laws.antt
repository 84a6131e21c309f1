-- What holds of all texts.
use Rattle.std.specs.Prelude.{◌≡◌, ◌⊎◌, ℕ, false, List, ◌++◌, Result, ◌+◌, ◌<◌, ◌≤◌, length, take, slice_index, All}
use Rattle.std.specs.Prelude.{IsUtf8, IsCharBoundary, chars}
use Rattle.std.specs.Str.Parse.{IsNumeral, without_leading_sign}
use Rattle.bp_faults.specs.declared.fault.Fault.{Fault}
use Rattle.bp_lexer.specs.declared.token.Token.{Token}
use Rattle.bp_lexer.specs.declared.token.TokenKind.{TokenKind}
use Rattle.bp_lexer.specs.declared.token.TokenKind.TheVariants.{Int}
use Rattle.bp_lexer.specs.Apart.{goes_on, StopsAt}
use Rattle.bp_lexer.specs.Classes.{is_white}
use Rattle.bp_lexer.specs.Forms.{IsForm, IsLongest}
use Rattle.bp_lexer.specs.Meaning.{IsToken, IsTokenList, IsFirstLexFault, LexMeans}
use Rattle.bp_lexer.specs.Places.{place_at, last_line, IsPlaceBefore}

-- A text has at most one token list.
abbrev pub OneTokenList : Type 0
OneTokenList = (file : ℕ) (text : List ℕ) (ts us : List Token) → IsTokenList file text ts
    → IsTokenList file text us → ts ≡ us

-- Each text has a token list or a first fault.
abbrev pub SomeListOrFault : Type 0
SomeListOrFault = (file : ℕ) (text : List ℕ)
    → ((ts : List Token) × IsTokenList file text ts) ⊎ ((fault : Fault) × IsFirstLexFault file text fault)

-- No text has both.
abbrev pub NotListAndFault : Type 0
NotListAndFault = (file : ℕ) (text : List ℕ) (ts : List Token) (fault : Fault)
    → IsTokenList file text ts → IsFirstLexFault file text fault → ⊥

-- A text has at most one first fault.
abbrev pub OneFault : Type 0
OneFault = (file : ℕ) (text : List ℕ) (a b : Fault) → IsFirstLexFault file text a → IsFirstLexFault file text b → a ≡ b

-- A text means one thing alone.
abbrev pub OneMeaning : Type 0
OneMeaning = (file : ℕ) (text : List ℕ) (a b : Result (List Token) Fault) → LexMeans file text a
    → LexMeans file text b → a ≡ b

-- In UTF-8 the column of a character is one more than the characters before it on its line.
abbrev pub ColumnsCountCharacters : Type 0
ColumnsCountCharacters = (file : ℕ) (text : List ℕ) (i : ℕ) → IsUtf8 text → IsCharBoundary text i
    → (place_at file text i).col ≡ 1 + length (chars (last_line (take i text)))

-- A form has a byte, and begins with no white space.
abbrev pub FormsHaveBytes : Type 0
FormsHaveBytes = (kind : TokenKind) (word : List ℕ) → IsForm kind word
    → (0 < length word) × (is_white (slice_index word 0) ≡ false)

-- A form is the longest that a text begins with, where the byte behind it doesn't go on with it.
abbrev pub FormsStandApart : Type 0
FormsStandApart = (kind : TokenKind) (word after : List ℕ) → IsForm kind word → StopsAt (goes_on kind) after
    → IsLongest (word ++ after) kind (length word)

-- A token has a byte, lies within the text, and begins with no white space. In UTF-8 it begins and ends where
-- characters do.
pub record StandsWithin (text : List ℕ) (t : Token) : Type 0 where
  pub nonempty : t.start < t.end
  pub within : t.end ≤ length text
  pub not_white : is_white (slice_index text t.start) ≡ false
  pub begins : IsUtf8 text → IsCharBoundary text t.start
  pub ends : IsUtf8 text → IsCharBoundary text t.end

-- The tokens of a text stand so.
abbrev pub TokensStandWithin : Type 0
TokensStandWithin = (file : ℕ) (text : List ℕ) (t : Token) → IsToken file text t → StandsWithin text t

-- Of two tokens, the one that ends before the other begins has the earlier place.
abbrev pub PlacesRise : Type 0
PlacesRise = (file : ℕ) (text : List ℕ) (t u : Token) → IsToken file text t → IsToken file text u
    → t.end ≤ u.start → IsPlaceBefore t.place u.place

-- Each token of a list is a token of the text, in the file of its place.
abbrev pub ListsHaveTokens : Type 0
ListsHaveTokens = (file : ℕ) (text : List ℕ) (ts : List Token) → IsTokenList file text ts
    → All (λ t. IsToken t.place.file text t) ts

-- An integer is a numeral behind its sign, if it has one.
abbrev pub IntegersAreNumerals : Type 0
IntegersAreNumerals = (word : List ℕ) → IsForm Int word → IsNumeral 10 (without_leading_sign word)
