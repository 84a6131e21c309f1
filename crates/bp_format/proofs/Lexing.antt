-- The laws of the lexer that the proofs on whole texts use.
use Rattle.bp_lexer.specs.Laws.{FormsHaveBytes, FormsStandApart, OneTokenList, PlacesRise, TokensStandWithin}

pub record Lexing : Type 0 where
  pub bytes : FormsHaveBytes
  pub apart : FormsStandApart
  pub within : TokensStandWithin
  pub rise : PlacesRise
  pub one_list : OneTokenList
