-- Files mean something where texts have a token list or a fault, and words a tree or a fault.
use Rattle.std.proofs.Common.{◌≡◌, ◌⊎◌, inl, inr, ℕ, List, [], refl}
use Rattle.std.specs.Prelude.{Ok, Err}
use Rattle.bp_faults.specs.declared.fault.Fault.{Fault}
use Rattle.bp_lexer.specs.declared.token.Token.{Token}
use Rattle.bp_lexer.specs.Meaning as lexer
use Rattle.bp_parser.specs.Meaning as parser
use Rattle.bp_parser.specs.Trees.{File}
use Rattle.bp_parser.specs.Words.{Word, words_of}
use Rattle.bp_load.specs.Texts.{AsText}
use Rattle.bp_load.specs.Trees.{Source, placed_file, SourceTextMeans, SourceFileMeans, TreesMean}
use Rattle.bp_load.specs.Inherited.{RawMean, all_evaluated}
use Rattle.bp_load.specs.Loaded.{all_named}
use Rattle.bp_load.specs.Laws.{SomeRaw, SomeLoad}
use Rattle.bp_faults.specs.Phases.{HasOutcome}
use Rattle.bp_faults.proofs.Phases.{then_some, phase_some}
use Rattle.bp_load.proofs.AsTexts.{some_text}

module _
    (list_or_fault : (file : ℕ) (text : List ℕ)
    → ((ts : List Token) × lexer.IsTokenList file text ts) ⊎ ((fault : Fault) × lexer.IsFirstLexFault file text fault))
    (tree_or_fault : (text : List ℕ) (ws : List Word)
    → ((tree : File) × parser.IsTree ws tree) ⊎ ((fault : Fault) × parser.IsFirstParseFault text ws fault))
  where
    lexed : (file : ℕ) (text : List ℕ) → HasOutcome (lexer.LexMeans file text)
    lexed file text =
        elim (list_or_fault file text) [ inl list ↦ (Ok list.0, list.1) | inr wrong ↦ (Err wrong.0, wrong.1) ]

    parsed : (text : List ℕ) (ts : List Token) → HasOutcome (parser.ParseMeans text ts)
    parsed text ts =
        elim (tree_or_fault text (words_of text ts)) [
          | inl tree ↦ (Ok tree.0, tree.1)
          | inr wrong ↦ (Err wrong.0, wrong.1)
        ]

    some_file : (file : ℕ) (source : Source) → HasOutcome (SourceFileMeans file source)
    some_file file source =
        then_some
        (AsText file source.1 (SourceTextMeans file source.1))
        (λ tree o. Ok (placed_file source.0 tree) ≡ o)
        (some_text file source.1 (SourceTextMeans file source.1)
        (then_some (lexer.LexMeans file source.1) (parser.ParseMeans source.1) (lexed file source.1) (parsed source.1)))
        (λ tree. (Ok (placed_file source.0 tree), refl))

    pub some_raw : SomeRaw
    some_raw files =
        then_some
        (TreesMean files)
        (λ trees o. all_evaluated [] trees ≡ o)
        (phase_some SourceFileMeans some_file 1 files)
        (λ trees. (all_evaluated [] trees, refl))

pub some_load : SomeRaw → SomeLoad
some_load raw files =
    then_some (RawMean files) (λ raws o. all_named raws ≡ o) (raw files) (λ raws. (all_named raws, refl))
