-- Words: the tokens that are no comments, as the grammar sees them.
use Rattle.std.specs.Prelude.{ℕ, Bool, true, false, not, ◌||◌, if◌then◌else◌, List, Option, Some, None, map, filter}
use Rattle.std.specs.Prelude.{codes}
use Rattle.std.specs.Str.{bytes_eq}
use Rattle.std.specs.Str.Parse.{signed_digits_value}
use Rattle.bp_faults.specs.declared.place.Place.{Place}
use Rattle.bp_lexer.specs.declared.token.Token.{Token}
use Rattle.bp_lexer.specs.declared.token.TokenKind.{TokenKind}
use Rattle.bp_lexer.specs.declared.token.TokenKind.TheVariants.{Ident, Int, Quoted, Raw, LineComment, BlockComment}
use Rattle.bp_lexer.specs.Meaning.{string_of, word_of}
use Rattle.bp_parser.specs.Trees.{Atom, Truth, Number, Str, Name}

-- A token without where its bytes lie: its kind, its place and its text.
pub record Word : Type 0 where
  pub kind : TokenKind
  pub at : Place
  pub text : List ℕ

-- A token of a text as a word.
abbrev pub as_word : List ℕ → Token → Word
as_word text t = record { kind = t.kind; at = t.place; text = word_of text t }

-- Each token of a text as a word.
abbrev pub all_words : List ℕ → List Token → List Word
all_words text ts = map (as_word text) ts

-- The two kinds of comments.
abbrev pub is_comment : TokenKind → Bool
is_comment LineComment = true
is_comment BlockComment = true
is_comment _ = false

-- The tokens that are no comments.
abbrev pub without_comments : List Token → List Token
without_comments ts = filter (λ t. not (is_comment t.kind)) ts

-- The words of a text with these tokens.
abbrev pub words_of : List ℕ → List Token → List Word
words_of text ts = all_words text (without_comments ts)

-- `true` and `false` are the booleans.
abbrev pub is_truth : List ℕ → Bool
is_truth name = bytes_eq name (codes "true") || bytes_eq name (codes "false")

-- An identifier is a boolean or the name of a variable.
abbrev pub truth_or_name : List ℕ → Atom
truth_or_name text =
    if bytes_eq text (codes "true") then Truth true
    else if bytes_eq text (codes "false") then Truth false
    else Name text

-- What a word is by itself as an expression, if it is one: an identifier, an integer or a string.
abbrev pub atom_of : TokenKind → List ℕ → Option Atom
atom_of Ident text = Some (truth_or_name text)
atom_of Int text = Some (Number (signed_digits_value 10 text))
atom_of Quoted text = Some (Str (string_of Quoted text))
atom_of Raw text = Some (Str (string_of Raw text))
atom_of _ text = None
