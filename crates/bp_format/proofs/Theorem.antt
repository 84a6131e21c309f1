-- A formatted text has the tokens and the tree of the text, and is its own layout.
use Rattle.std.proofs.Common.{◌≡◌, ℕ, Bool, true, false, cond, List, [], ◌∷◌, map, length, Option, Some, None, sym}
use Rattle.std.proofs.Common.{refl, ap, ◌∙◌, subst}
use Rattle.std.specs.Prelude.{not, MatchOption}
use Rattle.bp_lexer.specs.declared.token.Token.{Token}
use Rattle.bp_lexer.specs.declared.token.TokenKind.{TokenKind}
use Rattle.bp_lexer.specs.Meaning.{IsTokenList}
use Rattle.bp_parser.specs.Meaning.{IsTree}
use Rattle.bp_parser.specs.Trees.{File}
use Rattle.bp_parser.specs.Words.{words_of, is_comment, as_word, without_comments}
use Rattle.bp_format.specs.Layout.{Piece, layout, nest_behind}
use Rattle.bp_format.specs.Ends.{pieces}
use Rattle.bp_format.specs.WithoutPlaces.{token_content, token_contents, definitions_without_places}
use Rattle.bp_format.specs.Meaning.{HasLayout}
use Rattle.bp_format.proofs.Lexing.{Lexing}
use Rattle.bp_format.proofs.Relex.{retold, sound_pieces, layout_listed}
use Rattle.bp_format.proofs.Again.{again, laid_again, pieces_again}
use Rattle.bp_format.proofs.Frames.{Alike}
use Rattle.bp_format.proofs.Flaws.{tree_alike}
use Rattle.bp_format.proofs.Cuts.{pieces_are, pieces_only}

-- the kind and the text of a piece
abbrev bare_piece : Piece → TokenKind × List ℕ
bare_piece a = (a.kind, a.text)

bare_of_pieces : (nest : List TokenKind) (text : List ℕ) (ts : List Token)
    → map bare_piece (pieces nest text ts) ≡ token_contents text ts
bare_of_pieces nest text [] = refl
bare_of_pieces nest text (t ∷ ts) =
    ap (λ l. token_content text t ∷ l) (bare_of_pieces (nest_behind nest t.kind) text ts)

bare_again : (nest : List TokenKind) (before : Option TokenKind) (ps : List Piece)
    → map bare_piece (again nest before ps) ≡ map bare_piece ps
bare_again nest before [] = refl
bare_again nest before (a ∷ more) = ap (λ l. bare_piece a ∷ l) (bare_again (nest_behind nest a.kind) (Some a.kind) more)

-- the tokens of the layout
abbrev told : ℕ → List ℕ → List Token → List Token
told file text ts = retold file (layout (pieces [] text ts)) 0 [] None (pieces [] text ts)

told_listed : Lexing → (file : ℕ) (text : List ℕ) (ts : List Token) → IsTokenList file text ts
    → IsTokenList file (layout (pieces [] text ts)) (told file text ts)
told_listed lex file text ts listed =
    layout_listed lex file (pieces [] text ts) (sound_pieces lex file text 0 (length text) [] ts listed)

told_pieces : (file : ℕ) (text : List ℕ) (ts : List Token)
    → pieces [] (layout (pieces [] text ts)) (told file text ts) ≡ again [] None (pieces [] text ts)
told_pieces file text ts = pieces_again file (layout (pieces [] text ts)) 0 [] None text ts refl

told_bare : (file : ℕ) (text : List ℕ) (ts : List Token)
    → token_contents (layout (pieces [] text ts)) (told file text ts) ≡ token_contents text ts
told_bare file text ts =
    sym (bare_of_pieces [] (layout (pieces [] text ts)) (told file text ts))
    ∙ ap (map bare_piece) (told_pieces file text ts)
    ∙ bare_again [] None (pieces [] text ts)
    ∙ bare_of_pieces [] text ts

told_layout : (file : ℕ) (text : List ℕ) (ts : List Token)
    → layout (pieces [] (layout (pieces [] text ts)) (told file text ts)) ≡ layout (pieces [] text ts)
told_layout file text ts = ap layout (told_pieces file text ts) ∙ laid_again [] None (pieces [] text ts)

-- a token more, where it is a word
word_more : (text out : List ℕ) (t u : Token) (x y : List Token) (b c : Bool) → b ≡ c
    → token_content text t ≡ token_content out u → Alike (map (as_word text) x) (map (as_word out) y)
    → Alike (map (as_word text) (cond b (t ∷ x) x)) (map (as_word out) (cond c (u ∷ y) y))
word_more text out t u x y true true is head rest = λ i. head i ∷ rest i
word_more text out t u x y true false is head rest = absurd cc
word_more text out t u x y false true is head rest = absurd cc
word_more text out t u x y false false is head rest = rest

-- tokens that are the same but for places have like words
pub words_alike : (text out : List ℕ) (ts us : List Token) → token_contents text ts ≡ token_contents out us
    → Alike (words_of text ts) (words_of out us)
words_alike text out [] [] same = refl
words_alike text out [] (u ∷ us) same = absurd cc
words_alike text out (t ∷ ts) [] same = absurd cc
words_alike text out (t ∷ ts) (u ∷ us) same =
    let head : token_content text t ≡ token_content out u = cc in
    let rest : token_contents text ts ≡ token_contents out us = cc in
    word_more text out t u (without_comments ts) (without_comments us) (not (is_comment t.kind))
    (not (is_comment u.kind)) (ap (λ p. not (is_comment p.0)) head) head (words_alike text out ts us rest)

pub one_tokens : Lexing → (file : ℕ) (text : List ℕ) (ts us : List Token) → IsTokenList file text ts
    → IsTokenList file text us → ts ≡ us
one_tokens lex file text ts us a b = lex.one_list file text ts us a b

-- A text whose tokens have a tree has the layout of the pieces that the code sees, and no other.
pub has_layout : (file : ℕ) (text out : List ℕ) (ts : List Token) (tree : File) → IsTokenList file text ts
    → IsTree (words_of text ts) tree → out ≡ layout (pieces [] text ts) → HasLayout file text out
has_layout file text out ts tree listed parsed is = record {
  tokens = ts;
  listed = listed;
  tree = tree;
  parsed = parsed;
  parts = pieces [] text ts;
  are = pieces_are text tree.defs [] ts ts [] parsed.spelled refl refl;
  laid_out = is;
}

-- what holds of an option holds of its value, or where there is none
pub some_of : {T : Type 0} (N : Type 0) (S : T → Type 0) (o : Option T) (x : T) → MatchOption o N S → o ≡ Some x → S x
some_of N S o x m is = subst (λ r. MatchOption r N S) is m

pub none_of : {T : Type 0} (N : Type 0) (S : T → Type 0) (o : Option T) → MatchOption o N S → o ≡ None → N
none_of N S o m is = subst (λ r. MatchOption r N S) is m

-- the same, with the tokens as three calls saw them
pub formatted : (file : ℕ) (text out : List ℕ) (ts us vs : List Token) (tree : File) → IsTokenList file text ts
    → us ≡ ts → IsTree (words_of text us) tree → vs ≡ ts → out ≡ layout (pieces [] text vs) → HasLayout file text out
formatted file text out ts us vs tree listed u parsed v is =
    has_layout file text out ts tree listed (subst (λ l. IsTree (words_of text l) tree) u parsed)
    (is ∙ ap (λ l. layout (pieces [] text l)) v)

pub laid_by : (file : ℕ) (text out : List ℕ) (h : HasLayout file text out) → out ≡ layout (pieces [] text h.tokens)
laid_by file text out h =
    h.laid_out
    ∙ ap layout (pieces_only text [] h.tokens h.parts (pieces [] text h.tokens) h.are
    (pieces_are text h.tree.defs [] h.tokens h.tokens [] h.parsed.spelled refl refl))

-- the tokens of a layout
told_out : Lexing → (file : ℕ) (text out : List ℕ) (h : HasLayout file text out)
    → IsTokenList file out (told file text h.tokens)
told_out lex file text out h =
    subst (λ o. IsTokenList file o (told file text h.tokens)) (sym (laid_by file text out h))
    (told_listed lex file text h.tokens h.listed)

pub layout_tokens : Lexing → (file : ℕ) (text out : List ℕ) → HasLayout file text out
    → (us : List Token) × IsTokenList file out us
layout_tokens lex file text out h = (told file text h.tokens, told_out lex file text out h)

pub tokens_same : Lexing → (file : ℕ) (text out : List ℕ) (ts us : List Token) → HasLayout file text out
    → IsTokenList file text ts → IsTokenList file out us → token_contents out us ≡ token_contents text ts
tokens_same lex file text out ts us h listed told_of =
    let old : h.tokens ≡ ts = one_tokens lex file text h.tokens ts h.listed listed in
    let new : us ≡ told file text h.tokens =
    one_tokens lex file out us (told file text h.tokens) told_of (told_out lex file text out h) in
    (λ i. token_contents (laid_by file text out h i) (new i))
    ∙ told_bare file text h.tokens
    ∙ ap (token_contents text) old

pub tree_same : Lexing → (file : ℕ) (text out : List ℕ) (ts us : List Token) (tree : File) → HasLayout file text out
    → IsTokenList file text ts → IsTree (words_of text ts) tree → IsTokenList file out us → (other : File)
    × IsTree (words_of out us) other × (definitions_without_places tree.defs ≡ definitions_without_places other.defs)
tree_same lex file text out ts us tree h listed parsed told_of =
    tree_alike (words_of text ts) (words_of out us) tree
    (words_alike text out ts us (sym (tokens_same lex file text out ts us h listed told_of))) parsed

pub layout_again : Lexing → (file : ℕ) (text out : List ℕ) → HasLayout file text out → HasLayout file out out
layout_again lex file text out h =
    let us = told file text h.tokens in
    let listed = (told_out lex file text out h) in
    let tree = tree_same lex file text out h.tokens us h.tree h h.listed h.parsed listed in
    has_layout file out out us tree.0 listed tree.1 (laid_by file text out h ∙ sym (told_layout file text h.tokens)
    ∙ ap (λ o. layout (pieces [] o us)) (sym (laid_by file text out h)))
