-- The meaning of a text with its tokens: its tree, or its first fault.
use Rattle.std.specs.Prelude.{◌≡◌, ℕ, List, [], ◌∷◌, length, map, codes, slice_index_or, Result, Ok, Err}
use Rattle.bp_faults.specs.Faults.{fault_at, fault_on}
use Rattle.bp_faults.specs.declared.fault.Fault.{Fault}
use Rattle.bp_faults.specs.declared.kind.FaultKind.TheVariants as fault
use Rattle.bp_faults.specs.declared.place.Place.{Place}
use Rattle.bp_lexer.specs.Meaning.{IsTokenList}
use Rattle.bp_lexer.specs.Places.{place_at}
use Rattle.bp_lexer.specs.declared.token.Token.{Token}
use Rattle.bp_parser.specs.declared.flaw.Flaw.{Flaw}
use Rattle.bp_parser.specs.declared.flaw.Flaw.TheVariants.{Unexpected, TooNested, Duplicate}
use Rattle.bp_parser.specs.Trees.{File}
use Rattle.bp_parser.specs.Words.{Word, words_of}
use Rattle.bp_parser.specs.Grammar.{SpellsFile}
use Rattle.bp_parser.specs.Flaws.{IsFlaw, IsFirstFlaw}

-- The tokens are those of the text, as a file.
abbrev pub AreTokensOf : List ℕ → List Token → Type 0
AreTokensOf text ts = (file : ℕ) × IsTokenList file text ts

-- The file of the first word, and 0 where there is none.
abbrev pub number_of_file : List Word → ℕ
number_of_file [] = 0
number_of_file (w ∷ ws) = w.at.file

-- The words spell the tree, and nothing is wrong with them.
pub record IsTree (ws : List Word) (tree : File) : Type 0 where
  pub file : tree.file ≡ number_of_file ws
  pub spelled : SpellsFile tree.defs ws
  pub sound : (flaw : Flaw) → IsFlaw ws flaw → ⊥

-- Where a word stands; the end is where the text ends.
abbrev pub word_place : List ℕ → List Word → ℕ → Place
word_place text ws k = slice_index_or (map (λ w. w.at) ws) k (place_at (number_of_file ws) text (length text))

-- The text of a word, and what the end is called.
abbrev pub word_subject : List Word → ℕ → List ℕ
word_subject ws k = slice_index_or (map (λ w. w.text) ws) k (codes "end of file")

-- The fault that a flaw is.
abbrev pub parse_fault : List ℕ → List Word → Flaw → Fault
parse_fault text ws (Unexpected k) = fault_on fault.Expected (word_place text ws k) (word_subject ws k)
parse_fault text ws (TooNested k) = fault_at fault.TooNested (word_place text ws k)
parse_fault text ws (Duplicate k) = fault_on fault.DuplicateProperty (word_place text ws k) (word_subject ws k)

-- The fault is that of the first flaw.
abbrev pub IsFirstParseFault : List ℕ → List Word → Fault → Type 0
IsFirstParseFault text ws fault = (flaw : Flaw) × IsFirstFlaw ws flaw × (fault ≡ parse_fault text ws flaw)

-- What a text with its tokens means.
abbrev pub ParseMeans : List ℕ → List Token → Result File Fault → Type 0
ParseMeans text ts (Ok tree) = IsTree (words_of text ts) tree
ParseMeans text ts (Err fault) = IsFirstParseFault text (words_of text ts) fault
