-- The layout of a file: the texts of its tokens, with a gap behind each.
use Rattle.std.specs.Prelude.{ℕ, ◌-◌, Bool, not, ◌||◌, if◌then◌else◌, List, [], ◌∷◌, ◌++◌, length, take, Option, Some}
use Rattle.std.specs.Prelude.{None}
use Rattle.std.specs.List.{count_by, slice_get}
use Rattle.bp_lexer.specs.declared.token.TokenKind.{TokenKind}
use Rattle.bp_format.specs.declared.gap.Gap.{Gap}
use Rattle.bp_format.specs.declared.gap.Gap.TheVariants.{Line}
use Rattle.bp_format.specs.Kinds.{opens_list, closes_list, opens_map, closes_map, opens_call, closes_call}
use Rattle.bp_format.specs.Gaps.{gap, gap_text, some_is}

-- A token as the layout sees it.
pub record Piece : Type 0 where
  pub kind : TokenKind
  pub text : List ℕ
  -- An LF lay between it and the next token.
  pub broken : Bool
  -- It is the last token of a definition.
  pub ends : Bool

-- An opening bracket.
abbrev pub opens_any : TokenKind → Bool
opens_any kind = opens_list kind || opens_map kind || opens_call kind

-- A closing bracket.
abbrev pub closes_any : TokenKind → Bool
closes_any kind = closes_list kind || closes_map kind || closes_call kind

-- The brackets that are open behind a token, the innermost last.
abbrev pub nest_behind : List TokenKind → TokenKind → List TokenKind
nest_behind nest kind =
    if opens_any kind then nest ++ kind ∷ [] else (if closes_any kind then take (length nest - 1) nest else nest)

-- How many braces and brackets are open.
abbrev pub nest_depth : List TokenKind → ℕ
nest_depth nest = count_by (λ kind. not (opens_call kind)) nest

-- Whether the innermost is a parenthesis.
abbrev pub in_call : List TokenKind → Bool
in_call nest = some_is opens_call (slice_get nest (length nest - 1))

-- The kind of the first piece, if there is one.
abbrev pub first_kind : List Piece → Option TokenKind
first_kind [] = None
first_kind (a ∷ more) = Some a.kind

-- The gap behind a piece, with the brackets that are open there, the kind of the piece before it, and those behind it.
abbrev pub gap_behind : List TokenKind → Option TokenKind → Piece → List Piece → Gap
gap_behind nest before a [] = Line 0
gap_behind nest before a (b ∷ more) = gap record {
  before = before;
  left = a.kind;
  broken = a.broken;
  ends = a.ends;
  right = b.kind;
  after = first_kind more;
  depth = nest_depth nest;
  in_call = in_call nest;
}

-- The pieces from one on.
abbrev pub laid : List TokenKind → Option TokenKind → List Piece → List ℕ
laid nest before [] = []
laid nest before (a ∷ more) =
    a.text ++ (gap_text (gap_behind (nest_behind nest a.kind) before a more)
    ++ laid (nest_behind nest a.kind) (Some a.kind) more)

-- The layout of a whole file. No pieces have the empty layout.
abbrev pub layout : List Piece → List ℕ
layout ps = laid [] None ps
