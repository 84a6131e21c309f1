-- The meaning of a text: its token list, or its first fault. And that of a token: its string.
-- The tokens are those of Android.bp files as Soong has them, in this project's profile; docs/LANGUAGE.md says them in
-- words.
use Rattle.std.specs.Prelude.{◌≡◌, ℕ, ◌-◌, ◌<◌, ◌≤◌, true, false, List, [], ◌∷◌, length, drop, take, slice_index}
use Rattle.std.specs.Prelude.{Result, Ok, Err, encode_utf8_all, chars}
use Rattle.bp_faults.specs.declared.fault.Fault.{Fault}
use Rattle.bp_lexer.specs.declared.flaw.Flaw.{Flaw}
use Rattle.bp_lexer.specs.declared.token.Token.{Token}
use Rattle.bp_lexer.specs.declared.token.TokenKind.{TokenKind}
use Rattle.bp_lexer.specs.declared.token.TokenKind.TheVariants.{Int, Quoted, Raw}
use Rattle.bp_lexer.specs.Classes.{is_white}
use Rattle.bp_lexer.specs.Strings.{unescaped_chars}
use Rattle.bp_lexer.specs.Forms.{IsLongest}
use Rattle.bp_lexer.specs.Faults.{IsInRange, HasFlaw, lex_fault}
use Rattle.bp_lexer.specs.Places.{place_at}

-- There is only white space from i to j.
abbrev pub IsBlank : List ℕ → ℕ → ℕ → Type 0
IsBlank text i j = (i ≤ j) × ((k : ℕ) → i ≤ k → k < j → is_white (slice_index text k) ≡ true)

-- The bytes of a token.
abbrev pub word_of : List ℕ → Token → List ℕ
word_of text t = take (t.end - t.start) (drop t.start text)

-- The span of the token is the longest form that begins at its start, and a number is one of 64 bits.
pub record IsToken (file : ℕ) (text : List ℕ) (t : Token) : Type 0 where
  pub inside : t.start ≤ length text
  pub longest : IsLongest (drop t.start text) t.kind (t.end - t.start)
  pub number : t.kind ≡ Int → IsInRange (word_of text t)
  pub place : t.place ≡ place_at file text t.start

-- From i to j the spans of the tokens cover the text, but for white space.
abbrev pub Covers : ℕ → List ℕ → ℕ → ℕ → List Token → Type 0
Covers file text i j [] = IsBlank text i j
Covers file text i j (t ∷ ts) = IsBlank text i t.start × IsToken file text t × Covers file text t.end j ts

-- The tokens of the whole text.
abbrev pub IsTokenList : ℕ → List ℕ → List Token → Type 0
IsTokenList file text ts = Covers file text 0 (length text) ts

-- What is wrong at a place, as a fault.
abbrev pub IsFaultAt : ℕ → List ℕ → ℕ → Fault → Type 0
IsFaultAt file text at fault = (flaw : Flaw) × HasFlaw (drop at text) flaw × (fault ≡ lex_fault file text at flaw)

-- The first fault: tokens cover what stands before its place, and there begins no token.
pub record IsFirstLexFault (file : ℕ) (text : List ℕ) (fault : Fault) : Type 0 where
  pub at : ℕ
  pub before : List Token
  pub covered : Covers file text 0 at before
  pub inside : at < length text
  pub not_white : is_white (slice_index text at) ≡ false
  pub wrong : IsFaultAt file text at fault

-- What a text means, by the number of its file.
abbrev pub LexMeans : ℕ → List ℕ → Result (List Token) Fault → Type 0
LexMeans file text (Ok ts) = IsTokenList file text ts
LexMeans file text (Err fault) = IsFirstLexFault file text fault

-- What stands between the quotes or backquotes.
abbrev pub inner_of : List ℕ → List ℕ
inner_of word = take (length word - 2) (drop 1 word)

-- The string that a token stands for. A token that is no string stands for its own bytes.
abbrev pub string_of : TokenKind → List ℕ → List ℕ
string_of Quoted word = encode_utf8_all (unescaped_chars false (chars (inner_of word)))
string_of Raw word = inner_of word
string_of kind word = word
