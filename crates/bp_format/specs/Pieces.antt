-- The pieces that the tokens of a text are: what the layout asks of each.
use Rattle.std.specs.Prelude.{◌≡◌, ℕ, ◌-◌, Bool, true, false, ◌↔◌, ◌==◌, List, [], ◌∷◌, ◌++◌, take, drop}
use Rattle.std.specs.List.{list_any}
use Rattle.bp_lexer.specs.declared.token.Token.{Token}
use Rattle.bp_lexer.specs.Meaning.{word_of}
use Rattle.bp_parser.specs.Trees.{Definition}
use Rattle.bp_parser.specs.Words.{Word, words_of, is_comment}
use Rattle.bp_parser.specs.Grammar.{SpellsFile}
use Rattle.bp_format.specs.Layout.{Piece}

-- There is an LF among the bytes.
abbrev pub has_line_end : List ℕ → Bool
has_line_end bytes = list_any (λ b. b == 10) bytes

-- What stands between a token and the first of those behind it.
abbrev pub text_between : List ℕ → Token → List Token → List ℕ
text_between text t [] = []
text_between text t (u ∷ us) = take (u.start - t.end) (drop t.end text)

-- The words are whole definitions.
abbrev pub AreDefinitions : List Word → Type 0
AreDefinitions ws = (ds : List Definition) × SpellsFile ds ws

-- The token is the last of a definition: it is no comment, and whole definitions stand up to it and behind it.
abbrev pub EndsDefinition : List ℕ → List Token → Token → List Token → Type 0
EndsDefinition text before t after =
    (is_comment t.kind ≡ false) × AreDefinitions (words_of text (before ++ t ∷ []))
    × AreDefinitions (words_of text after)

-- The piece that a token is, with those before it and behind it.
pub record IsPiece (source : List ℕ) (before : List Token) (t : Token) (after : List Token) (a : Piece) : Type 0 where
  pub kind : a.kind ≡ t.kind
  pub text : a.text ≡ word_of source t
  pub broken : a.broken ≡ has_line_end (text_between source t after)
  pub ends : (a.ends ≡ true) ↔ EndsDefinition source before t after

-- The pieces that the tokens are, in order, with those before the first.
abbrev pub ArePieces : List ℕ → List Token → List Token → List Piece → Type 0
ArePieces text before [] ps = ps ≡ []
ArePieces text before (t ∷ ts) [] = ⊥
ArePieces text before (t ∷ ts) (a ∷ ps) = IsPiece text before t ts a × ArePieces text (before ++ t ∷ []) ts ps
