-- What holds of all words and of all trees.
use Rattle.std.specs.Prelude.{◌≡◌, ◌⊎◌, ℕ, List, All, Result}
use Rattle.bp_faults.specs.declared.fault.Fault.{Fault}
use Rattle.bp_lexer.specs.declared.token.Token.{Token}
use Rattle.bp_parser.specs.Flaws.{IsTooNested}
use Rattle.bp_parser.specs.Grammar.{SpellsFile}
use Rattle.bp_parser.specs.Meaning.{IsTree, IsFirstParseFault, ParseMeans, number_of_file}
use Rattle.bp_parser.specs.Names.{DefinitionHasDistinctNames, FileHasDistinctNames}
use Rattle.bp_parser.specs.Trees.{Definition, File}
use Rattle.bp_parser.specs.Words.{Word}

-- Words have at most one tree.
abbrev pub OneTree : Type 0
OneTree = (ws : List Word) (a b : File) → IsTree ws a → IsTree ws b → a ≡ b

-- Any words have a tree or a first fault.
abbrev pub SomeTreeOrFault : Type 0
SomeTreeOrFault = (text : List ℕ) (ws : List Word)
    → ((tree : File) × IsTree ws tree) ⊎ ((fault : Fault) × IsFirstParseFault text ws fault)

-- No words have both.
abbrev pub NotTreeAndFault : Type 0
NotTreeAndFault = (text : List ℕ) (ws : List Word) (tree : File) (fault : Fault)
    → IsTree ws tree → IsFirstParseFault text ws fault → ⊥

-- Words have at most one first fault.
abbrev pub OneFault : Type 0
OneFault =
    (text : List ℕ) (ws : List Word) (a b : Fault) → IsFirstParseFault text ws a → IsFirstParseFault text ws b → a ≡ b

-- A text with its tokens means one thing alone.
abbrev pub OneMeaning : Type 0
OneMeaning = (text : List ℕ) (ts : List Token) (a b : Result File Fault) → ParseMeans text ts a
    → ParseMeans text ts b → a ≡ b

-- The names of each map differ in the tree of any words.
abbrev pub TreesHaveDistinctNames : Type 0
TreesHaveDistinctNames = (ws : List Word) (tree : File) → IsTree ws tree → FileHasDistinctNames tree

-- Words that spell definitions have them as their tree, where the names of each map differ and no bracket is nested too
-- deeply.
abbrev pub SpelledDefinitionsAreTrees : Type 0
SpelledDefinitionsAreTrees = (ws : List Word) (ds : List Definition) → SpellsFile ds ws
    → All DefinitionHasDistinctNames ds → ((k : ℕ) → IsTooNested ws k → ⊥)
    → IsTree ws (record { file = number_of_file ws; defs = ds })
