-- The text of an integer token is read as its number.
use Rattle.std.proofs.Common.{◌≡◌, ℕ, ℤ, List, Result, Ok, Err, refl, subst}
use Rattle.std.specs.Prelude.{IsOk}
use Rattle.std.specs.Int.{w64}
use Rattle.std.specs.Str.Parse.{ParsesSigned, IsNumeral, without_leading_sign}
use Rattle.bp_lexer.specs.declared.token.Token.{Token}
use Rattle.bp_lexer.specs.declared.token.TokenKind.TheVariants.{Int}
use Rattle.bp_lexer.specs.Faults.{IsInRange}
use Rattle.bp_lexer.specs.Forms.{IsForm}
use Rattle.bp_lexer.specs.Laws.{IntegersAreNumerals}
use Rattle.bp_lexer.specs.Meaning.{IsToken, word_of}

parsed : {E : Type 0} (word : List ℕ) (r : Result ℤ E) → IsNumeral 10 (without_leading_sign word) → IsInRange word
    → ParsesSigned w64 10 word r → IsOk r
parsed word (Ok z) digits fits parses = refl
parsed word (Err e) digits fits parses = absurd (parses (digits, fits))

pub int_parses : IntegersAreNumerals
    → {E : Type 0} (file : ℕ) (text : List ℕ) (t : Token) (read : List ℕ) (r : Result ℤ E) → IsToken file text t
    → t.kind ≡ Int → read ≡ word_of text t → ParsesSigned w64 10 read r → IsOk r
int_parses are file text t read r token int same parses =
    let word = word_of text t in
    parsed word r (are word (subst (λ k. IsForm k word) int token.longest.form)) (token.number int)
    (subst (λ l. ParsesSigned w64 10 l r) same parses)
