-- What it means to set a list in a text.
use Rattle.std.specs.Prelude.{◌≡◌, ℕ, ◌<◌, ◌≤◌, ◌⊎◌, List, ◌++◌, codes, length, take, drop, Some, Result, Ok, Err}
use Rattle.bp_faults.specs.Faults.{fault_at, file_start}
use Rattle.bp_faults.specs.declared.fault.Fault.{Fault}
use Rattle.bp_faults.specs.declared.kind.FaultKind.TheVariants.{TextTooLong}
use Rattle.bp_faults.specs.declared.limits.TheConstants.{LARGEST_FILE}
use Rattle.bp_lexer.specs.declared.token.Token.{Token}
use Rattle.bp_lexer.specs.Meaning.{IsTokenList, IsFirstLexFault as IsLexFault}
use Rattle.bp_parser.specs.Trees.{File}
use Rattle.bp_parser.specs.Words.{words_of}
use Rattle.bp_parser.specs.Meaning.{IsTree, IsFirstParseFault as IsTreeFault}
use Rattle.bp_format.specs.declared.spot.Spot.{Spot}
use Rattle.bp_format.specs.declared.spot.Spot.TheVariants.{Instead, Behind}
use Rattle.bp_format.specs.Spots.{spot}
use Rattle.bp_format.specs.Spans.{span}
use Rattle.bp_format.specs.Quotes.{list_text}

-- What is asked for: the list of a property of a module.
pub record Wanted : Type 0 where
  pub name : List ℕ
  pub property : List ℕ
  pub items : List (List ℕ)

-- What is put into the span.
abbrev pub put_in : List ℕ → List (List ℕ) → Spot → List ℕ
put_in property items (Instead place) = list_text items
put_in property items (Behind place) = codes ", " ++ (property ++ (codes ": " ++ list_text items))

-- The text is a file with these tokens and this tree.
pub record IsFile (file : ℕ) (text : List ℕ) : Type 0 where
  pub tokens : List Token
  pub listed : IsTokenList file text tokens
  pub tree : File
  pub parsed : IsTree (words_of text tokens) tree

-- Only the span gives way.
pub record IsEdited (file : ℕ) (text : List ℕ) (w : Wanted) (out : List ℕ) : Type 0 where
  pub read : IsFile file text
  pub place : Spot
  pub found : spot file w.name w.property read.tree.defs ≡ Ok place
  pub from : ℕ
  pub to : ℕ
  pub spanned : span place read.tokens ≡ Some (from, to)
  pub in_order : from ≤ to
  pub within : to ≤ length text
  pub edited : out ≡ take from text ++ (put_in w.property w.items place ++ drop to text)

-- What setting a list comes to: the edited text, if it has at most 2^20 bytes, or a fault. The faults are that of the
-- text's tokens, that of its tree, that there is no such module or no list, and that the edited text is longer.
abbrev pub EditMeans : ℕ → List ℕ → Wanted → Result (List ℕ) Fault → Type 0
EditMeans file text w (Ok out) = IsEdited file text w out × (length out ≤ LARGEST_FILE)
EditMeans file text w (Err fault) =
    IsLexFault file text fault
    ⊎ (((tokens : List Token) × IsTokenList file text tokens × IsTreeFault text (words_of text tokens) fault)
    ⊎ (((read : IsFile file text) × (spot file w.name w.property read.tree.defs ≡ Err fault))
    ⊎ ((out : List ℕ) × IsEdited file text w out × (LARGEST_FILE < length out)
    × (fault ≡ fault_at TextTooLong (file_start file)))))
