-- Files mean one thing alone where texts have one token list and one tree.
use Rattle.std.proofs.Common.{◌≡◌, ℕ, List, []}
use Rattle.std.specs.Prelude.{Ok}
use Rattle.bp_lexer.specs.declared.token.Token.{Token}
use Rattle.bp_lexer.specs.Meaning.{LexMeans}
use Rattle.bp_parser.specs.Meaning.{ParseMeans}
use Rattle.bp_load.specs.Texts.{AsText}
use Rattle.bp_load.specs.Trees.{Source, placed_file, SourceTextMeans, SourceFileMeans, TreesMean}
use Rattle.bp_load.specs.Inherited.{RawMean, all_evaluated}
use Rattle.bp_load.specs.Loaded.{all_named}
use Rattle.bp_load.specs.Laws.{OneRaw, OneLoad}
use Rattle.bp_faults.specs.Phases.{IsOnce}
use Rattle.bp_faults.proofs.Phases.{then_once, value_once, phase_once}
use Rattle.bp_load.proofs.AsTexts.{as_text_once}

module _ (lexed : (file : ℕ) (text : List ℕ) → IsOnce (LexMeans file text))
    (parsed : (text : List ℕ) (ts : List Token) → IsOnce (ParseMeans text ts)) where
  text_once : (file : ℕ) (text : List ℕ) → IsOnce (SourceTextMeans file text)
  text_once file text = then_once (LexMeans file text) (ParseMeans text) (lexed file text) (parsed text)

  file_once : (file : ℕ) (source : Source) → IsOnce (SourceFileMeans file source)
  file_once file source =
      then_once
      (AsText file source.1 (SourceTextMeans file source.1))
      (λ tree o. Ok (placed_file source.0 tree) ≡ o)
      (as_text_once file source.1 (SourceTextMeans file source.1) (text_once file source.1))
      (λ tree. value_once (Ok (placed_file source.0 tree)))

  pub raw_once : OneRaw
  raw_once files =
      then_once
      (TreesMean files)
      (λ trees o. all_evaluated [] trees ≡ o)
      (phase_once SourceFileMeans file_once 1 files)
      (λ trees. value_once (all_evaluated [] trees))

pub load_once : OneRaw → OneLoad
load_once raw files =
    then_once (RawMean files) (λ raws o. all_named raws ≡ o) (raw files) (λ raws. value_once (all_named raws))
