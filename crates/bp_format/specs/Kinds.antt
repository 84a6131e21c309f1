-- The kinds of tokens that the layout tells apart.
use Rattle.std.specs.Prelude.{Bool, true, false}
use Rattle.bp_lexer.specs.declared.token.Punct.TheVariants.{OpenBrace, CloseBrace, OpenBracket, CloseBracket, OpenParen}
use Rattle.bp_lexer.specs.declared.token.Punct.TheVariants.{CloseParen, Colon, Comma, Equal, PlusEqual, Plus}
use Rattle.bp_lexer.specs.declared.token.TokenKind.{TokenKind}
use Rattle.bp_lexer.specs.declared.token.TokenKind.TheVariants.{Ident, LineComment, Punct as Mark}

-- A comment to the end of its line.
abbrev pub is_line_comment : TokenKind → Bool
is_line_comment LineComment = true
is_line_comment _ = false

-- An identifier; `true`, `false` and `select` are some.
abbrev pub is_ident : TokenKind → Bool
is_ident Ident = true
is_ident _ = false

-- The mark `[`.
abbrev pub opens_list : TokenKind → Bool
opens_list (Mark OpenBracket) = true
opens_list _ = false

-- The mark `]`.
abbrev pub closes_list : TokenKind → Bool
closes_list (Mark CloseBracket) = true
closes_list _ = false

-- The mark `{`.
abbrev pub opens_map : TokenKind → Bool
opens_map (Mark OpenBrace) = true
opens_map _ = false

-- The mark `}`.
abbrev pub closes_map : TokenKind → Bool
closes_map (Mark CloseBrace) = true
closes_map _ = false

-- The mark `(`.
abbrev pub opens_call : TokenKind → Bool
opens_call (Mark OpenParen) = true
opens_call _ = false

-- The mark `)`.
abbrev pub closes_call : TokenKind → Bool
closes_call (Mark CloseParen) = true
closes_call _ = false

-- The mark `,`.
abbrev pub is_comma : TokenKind → Bool
is_comma (Mark Comma) = true
is_comma _ = false

-- The mark `:`.
abbrev pub is_colon : TokenKind → Bool
is_colon (Mark Colon) = true
is_colon _ = false

-- A value goes on behind it: `=`, `+=` and `+`.
abbrev pub wants_value : TokenKind → Bool
wants_value (Mark Equal) = true
wants_value (Mark PlusEqual) = true
wants_value (Mark Plus) = true
wants_value _ = false
