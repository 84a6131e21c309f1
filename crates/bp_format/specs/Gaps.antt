-- What stands between two tokens in the layout.
use Rattle.std.specs.Prelude.{ℕ, ◌-◌, ◌*◌, Bool, false, not, ◌&&◌, ◌||◌, if◌then◌else◌, List, [], ◌∷◌, codes, replicate}
use Rattle.std.specs.Prelude.{Option, Some, None}
use Rattle.bp_lexer.specs.declared.token.TokenKind.{TokenKind}
use Rattle.bp_parser.specs.Words.{is_comment}
use Rattle.bp_format.specs.declared.gap.Gap.{Gap}
use Rattle.bp_format.specs.declared.gap.Gap.TheVariants.{Nothing, Space, EmptyLine, Line}
use Rattle.bp_format.specs.declared.gap.Seam.{Seam}
use Rattle.bp_format.specs.Kinds.{is_line_comment, is_ident, opens_list, closes_list, opens_map, closes_map, opens_call}
use Rattle.bp_format.specs.Kinds.{closes_call, is_comma, is_colon}

-- The bytes of a gap. A line begins with four spaces for each open brace or bracket.
abbrev pub gap_text : Gap → List ℕ
gap_text Nothing = []
gap_text Space = codes " "
gap_text EmptyLine = 10 ∷ 10 ∷ []
gap_text (Line depth) = 10 ∷ replicate (4 * depth) 32

-- An optional kind passes the test.
abbrev pub some_is : (TokenKind → Bool) → Option TokenKind → Bool
some_is test None = false
some_is test (Some kind) = test kind

-- A line, one level out where the token closes.
abbrev pub new_line : Seam → Gap
new_line s = Line (if closes_map s.right || closes_list s.right then s.depth - 1 else s.depth)

-- `[` `]` and `{` `}`.
abbrev pub is_empty_pair : TokenKind → TokenKind → Bool
is_empty_pair left right = (opens_list left && closes_list right) || (opens_map left && closes_map right)

-- Nothing stands between: in an empty list or map, inside of parentheses, before `,` and `:`, and between a name and
-- its `(`.
abbrev pub touches : Seam → Bool
touches s =
    is_empty_pair s.left s.right || opens_call s.left || closes_call s.right || is_comma s.right || is_colon s.right
    || (is_ident s.left && opens_call s.right)

-- A list of one token stays on its line.
abbrev pub is_lone_item : Seam → Bool
is_lone_item s =
    (opens_list s.left && some_is closes_list s.after) || (closes_list s.right && some_is opens_list s.before)

-- A new line begins behind `{`, `[` and `,`, and before `}` and `]`.
abbrev pub breaks : Seam → Bool
breaks s =
    opens_map s.left || opens_list s.left || closes_map s.right || closes_list s.right
    || (is_comma s.left && not s.in_call)

-- Between two tokens that are no comments.
abbrev pub word_gap : Seam → Gap
word_gap s = if touches s || is_lone_item s then Nothing else (if breaks s then new_line s else Space)

-- Behind a comment.
abbrev pub gap_behind_comment : Seam → Gap
gap_behind_comment s = if is_line_comment s.left || s.broken then new_line s else Space

-- The first rule that fits gives the gap.
abbrev pub gap : Seam → Gap
gap s =
    if is_comment s.right && not s.broken then Space
    else if s.ends then EmptyLine
    else if is_comment s.left then gap_behind_comment s
    else if is_comment s.right then new_line s
    else word_gap s
