-- Each token of a list is a token of the text.
use Rattle.std.specs.Prelude.{All}
use Rattle.std.proofs.Common.{ℕ, zero, suc, ◌<◌, List, [], ◌∷◌, length, get_or, arith}
use Rattle.bp_lexer.specs.declared.token.Token.{Token}
use Rattle.bp_lexer.specs.Meaning.{IsToken, IsTokenList, Covers}
use Rattle.bp_lexer.proofs.Places.{place_file}

pub token_at : (file : ℕ) (text : List ℕ) (i j : ℕ) (ts : List Token) → Covers file text i j ts → (k : ℕ) (d : Token)
    → k < length ts → IsToken file text (get_or ts k d)
token_at file text i j [] covers k d within = absurd (omega arith)
token_at file text i j (t ∷ ts) covers zero d within = covers.1
token_at file text i j (t ∷ ts) covers (suc k) d within = token_at file text t.end j ts covers.2 k d (omega arith)

-- a token stands in the file of its place
pub token_here : (file : ℕ) (text : List ℕ) (t : Token) → IsToken file text t → IsToken t.place.file text t
token_here file text t token = record {
  inside = token.inside;
  longest = token.longest;
  number = token.number;
  place = place_file file text t.start t.place token.place;
}

pub all_tokens : (file : ℕ) (text : List ℕ) (ts : List Token) → IsTokenList file text ts
    → All (λ t. IsToken t.place.file text t) ts
all_tokens file text ts listed =
    λ k d within. token_here file text (get_or ts k d) (token_at file text 0 (length text) ts listed k d within)
