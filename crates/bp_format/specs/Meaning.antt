-- What formatting a text means.
use Rattle.std.specs.Prelude.{◌≡◌, ℕ, ◌<◌, ◌≤◌, ◌⊎◌, List, [], length, Result, Ok, Err}
use Rattle.bp_faults.specs.Faults.{fault_at, file_start}
use Rattle.bp_faults.specs.declared.fault.Fault.{Fault}
use Rattle.bp_faults.specs.declared.kind.FaultKind.TheVariants.{TextTooLong}
use Rattle.bp_faults.specs.declared.limits.TheConstants.{LARGEST_FILE}
use Rattle.bp_lexer.specs.declared.token.Token.{Token}
use Rattle.bp_lexer.specs.Meaning.{IsTokenList, IsFirstLexFault as IsLexFault}
use Rattle.bp_parser.specs.Trees.{File}
use Rattle.bp_parser.specs.Words.{words_of}
use Rattle.bp_parser.specs.Meaning.{IsTree, IsFirstParseFault as IsTreeFault}
use Rattle.bp_format.specs.Layout.{Piece, layout}
use Rattle.bp_format.specs.Pieces.{ArePieces}

-- The text is a file, and has this layout.
pub record HasLayout (file : ℕ) (text : List ℕ) (out : List ℕ) : Type 0 where
  pub tokens : List Token
  pub listed : IsTokenList file text tokens
  pub tree : File
  pub parsed : IsTree (words_of text tokens) tree
  pub parts : List Piece
  pub are : ArePieces text [] tokens parts
  pub laid_out : out ≡ layout parts

-- What formatting a text comes to: its layout, if that has at most 2^20 bytes, or a fault. The faults are that of its
-- tokens, that of its tree, and that the layout is longer.
abbrev pub FormatMeans : ℕ → List ℕ → Result (List ℕ) Fault → Type 0
FormatMeans file text (Ok out) = HasLayout file text out × (length out ≤ LARGEST_FILE)
FormatMeans file text (Err fault) =
    IsLexFault file text fault
    ⊎ (((tokens : List Token) × IsTokenList file text tokens × IsTreeFault text (words_of text tokens) fault)
    ⊎ ((out : List ℕ) × HasLayout file text out × (LARGEST_FILE < length out)
    × (fault ≡ fault_at TextTooLong (file_start file))))
