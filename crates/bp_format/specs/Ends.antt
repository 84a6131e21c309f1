-- How the code finds where definitions end, and its pieces. No public contract speaks of it.
use Rattle.std.specs.Prelude.{ℕ, Bool, true, false, not, ◌&&◌, ◌||◌, if◌then◌else◌, List, [], ◌∷◌, Option, Some, None}
use Rattle.bp_lexer.specs.declared.token.Token.{Token}
use Rattle.bp_lexer.specs.declared.token.TokenKind.{TokenKind}
use Rattle.bp_lexer.specs.Meaning.{word_of}
use Rattle.bp_parser.specs.Words.{is_comment}
use Rattle.bp_format.specs.Kinds.{is_ident, wants_value}
use Rattle.bp_format.specs.Layout.{Piece, nest_behind}
use Rattle.bp_format.specs.Pieces.{text_between, has_line_end}

-- The kind of the first token that is no comment.
abbrev pub next_word : List Token → Option TokenKind
next_word [] = None
next_word (t ∷ ts) = if is_comment t.kind then next_word ts else Some t.kind

-- A definition begins there, or the file ends.
abbrev pub begins_definition : Option TokenKind → Bool
begins_definition None = true
begins_definition (Some kind) = is_ident kind

-- No bracket is open.
abbrev pub is_none_open : List TokenKind → Bool
is_none_open [] = true
is_none_open (kind ∷ nest) = false

-- A definition ends behind a word where no bracket is open, no value has to follow, and none goes on.
abbrev pub is_end : List TokenKind → TokenKind → List Token → Bool
is_end nest kind after =
    is_none_open nest && not (is_comment kind || wants_value kind) && begins_definition (next_word after)

-- The piece that a token is, with the brackets that are open behind it.
abbrev pub piece : List TokenKind → List ℕ → Token → List Token → Piece
piece nest text t after = record {
  kind = t.kind;
  text = word_of text t;
  broken = has_line_end (text_between text t after);
  ends = is_end nest t.kind after;
}

-- The pieces that tokens are, with the brackets that are open before them.
abbrev pub pieces : List TokenKind → List ℕ → List Token → List Piece
pieces nest text [] = []
pieces nest text (t ∷ ts) = piece (nest_behind nest t.kind) text t ts ∷ pieces (nest_behind nest t.kind) text ts

-- The kind of the first token, if there is one.
abbrev pub kind_at : List Token → Option TokenKind
kind_at [] = None
kind_at (t ∷ ts) = Some t.kind
