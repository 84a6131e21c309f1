-- Where a token stands in its text.
use Rattle.std.proofs.Common.{ℕ, List}
use Rattle.bp_lexer.specs.declared.token.Token.{Token}
use Rattle.bp_lexer.specs.Laws.{StandsWithin}
use Rattle.bp_lexer.specs.Meaning.{IsToken}
use Rattle.bp_lexer.proofs.Boundary.{before_token, after_token}
use Rattle.bp_lexer.proofs.OneMeaning.{token_first}

pub stands_within : (file : ℕ) (text : List ℕ) (t : Token) → IsToken file text t → StandsWithin text t
stands_within file text t token =
    let first = token_first file text t token in
    record {
      nonempty = first.0;
      within = first.1;
      not_white = first.2;
      begins = λ utf8. before_token file text t token;
      ends = λ utf8. after_token file text t utf8 token;
    }
