-- The tokens of a list are those of the text, and stand one behind the other.
use Rattle.std.proofs.Common.{ℕ, zero, suc, ◌+◌, ◌<◌, ◌≤◌, ◌≡◌, List, [], ◌∷◌, length, get_or, arith}
use Rattle.bp_lexer.specs.declared.token.Token.{Token}
use Rattle.bp_lexer.specs.Meaning.{IsToken, Covers, IsTokenList}
use Rattle.bp_lexer.specs.Laws.{ListsHaveTokens}

pub token_of : ListsHaveTokens → (file : ℕ) (text : List ℕ) (ts : List Token) (k : ℕ) (d : Token)
    → IsTokenList file text ts → k < length ts → IsToken (get_or ts k d).place.file text (get_or ts k d)
token_of law file text ts k d listed within = law file text ts listed k d within

order : (file : ℕ) (text : List ℕ) (i j : ℕ) (ts : List Token) → Covers file text i j ts → (k : ℕ) (d : Token)
    → suc k < length ts → (get_or ts k d).end ≤ (get_or ts (suc k) d).start
order file text i j [] covers k d within = absurd (omega arith)
order file text i j (t ∷ []) covers k d within = absurd (omega arith)
order file text i j (t ∷ u ∷ us) covers zero d within = covers.2.0.0
order file text i j (t ∷ u ∷ us) covers (suc k) d within = order file text t.end j (u ∷ us) covers.2 k d (omega arith)

pub in_order : (file : ℕ) (text : List ℕ) (ts : List Token) (k : ℕ) (d : Token) → IsTokenList file text ts
    → k + 1 < length ts → (get_or ts k d).end ≤ (get_or ts (k + 1) d).start
in_order file text ts k d listed within =
    let next : k + 1 ≡ suc k = omega arith in
    rw next (order file text 0 (length text) ts listed k d (omega arith))

pub start_within : ListsHaveTokens → (file : ℕ) (text : List ℕ) (ts : List Token) (k : ℕ) (d : Token)
    → IsTokenList file text ts → k < length ts → (get_or ts k d).start ≤ length text
start_within law file text ts k d listed within = (token_of law file text ts k d listed within).inside
