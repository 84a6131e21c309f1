-- In what words private functions say what they read. No public contract speaks of it.
use Rattle.std.specs.Prelude.{◌≡◌, ℕ, ◌+◌, ◌<◌, ◌⊎◌, List, ◌∷◌, length, drop, slice_index_or}
use Rattle.std.specs.List.{All}
use Rattle.bp_lexer.specs.declared.token.Punct.{Punct}
use Rattle.bp_lexer.specs.declared.token.Punct.TheVariants.{Comma}
use Rattle.bp_lexer.specs.declared.token.Token.{Token}
use Rattle.bp_lexer.specs.declared.token.TokenKind.TheVariants.{Punct as Mark}
use Rattle.bp_lexer.specs.Meaning.{IsToken}
use Rattle.bp_parser.specs.declared.flaw.Flaw.TheVariants.{Unexpected}
use Rattle.bp_parser.specs.declared.stop.Stop.{Stop}
use Rattle.bp_parser.specs.declared.stop.Stop.TheVariants.{Bad}
use Rattle.bp_parser.specs.Trees.{Tree, Sum, Terms, no_term, term_and}
use Rattle.bp_parser.specs.Words.{as_word, all_words}
use Rattle.bp_parser.specs.Grammar.{IsMark, IsMarkAt}
use Rattle.bp_parser.specs.Machine.{StartsNot}

-- Each is a token of the text.
abbrev pub AreTokens : List ℕ → List Token → Type 0
AreTokens text ts = All (λ t. IsToken t.place.file text t) ts

-- The token stands at a place.
pub record IsTokenAt (text : List ℕ) (ts : List Token) (at : ℕ) (t : Token) : Type 0 where
  pub within : at < length ts
  pub token : IsToken t.place.file text t
  pub here : drop at (all_words text ts) ≡ as_word text t ∷ drop (at + 1) (all_words text ts)

-- A mark stands at a place.
pub record HasMark (mark : Punct) (ts : List Token) (at : ℕ) : Type 0 where
  pub within : at < length ts
  pub place : (text : List ℕ) (d : Token)
      → IsMarkAt mark (slice_index_or ts at d).place (drop at (all_words text ts)) (drop (at + 1) (all_words text ts))
  pub here : (text : List ℕ) → IsMark mark (drop at (all_words text ts)) (drop (at + 1) (all_words text ts))

-- Another word stands there, or none.
abbrev pub LacksMark : Punct → List Token → ℕ → Type 0
LacksMark mark ts at = (text : List ℕ) → StartsNot (Mark mark) (drop at (all_words text ts))

-- Behind a part stands a comma, and the next part is behind it; or the mark that closes, and the next part is there.
abbrev pub EndsPart : Punct → List Token → ℕ → ℕ → Type 0
EndsPart close ts at next = (HasMark Comma ts at × (next ≡ at + 1)) ⊎ (HasMark close ts at × (next ≡ at))

-- An unexpected word.
abbrev pub IsUnexpectedAt : ℕ → Stop → Type 0
IsUnexpectedAt at stop = stop ≡ Bad (Unexpected at)

-- A sum, or its first term where there is no other.
abbrev pub sum_of : Tree → Terms → Tree
sum_of x no_term = x
sum_of x (term_and at y terms) = Sum x (term_and at y terms)
