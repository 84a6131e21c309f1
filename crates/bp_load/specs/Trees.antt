-- The phase of parsing: every file as its directory and its definitions.
use Rattle.std.specs.Prelude.{◌≡◌, ℕ, List, map, Result, Ok}
use Rattle.std.specs.declared.vec.Vec.{Vec}
use Rattle.std.specs.declared.alloc.Global.{Global}
use Rattle.bp_faults.specs.declared.fault.Fault.{Fault}
use Rattle.bp_lexer.specs.Meaning.{LexMeans}
use Rattle.bp_parser.specs.Trees.{File, Definition, tree_view}
use Rattle.bp_parser.specs.Meaning.{ParseMeans}
use Rattle.bp_load.specs.declared.parsed.Parsed.{Parsed}
use Rattle.bp_load.specs.Directories.{directories, directory_of}
use Rattle.bp_load.specs.Texts.{AsText}
use Rattle.bp_faults.specs.Phases.{Then, Phase}

-- A source file: its path and its bytes.
abbrev pub Source : Type 0
Source = List ℕ × List ℕ

-- How contracts see the files that are handed in.
abbrev pub sources_given : List (List ℕ × Vec ℕ Global) → List Source
sources_given files = map (λ f. (f.0, f.1.items)) files

-- A file as it is parsed: the components of its directory, the directory as a path, and its definitions.
pub record Placed : Type 0 where
  pub directory : List (List ℕ)
  pub dir : List ℕ
  pub defs : List Definition

-- How contracts see a parsed file of the code.
abbrev pub placed_of : Parsed → Placed
placed_of p = record { directory = p.directory; dir = p.dir; defs = (tree_view p.tree).defs }

-- The parsed file that a path and a tree make.
abbrev pub placed_file : List ℕ → File → Placed
placed_file path tree = record { directory = directories path; dir = directory_of path; defs = tree.defs }

-- What a text means, by the number of its file: first its tokens, then their tree.
abbrev pub SourceTextMeans : ℕ → List ℕ → Result File Fault → Type 0
SourceTextMeans file text outcome = Then (LexMeans file text) (ParseMeans text) outcome

-- What a file means, by its number.
abbrev pub SourceFileMeans : ℕ → Source → Result Placed Fault → Type 0
SourceFileMeans file source outcome =
    Then (AsText file source.1 (SourceTextMeans file source.1)) (λ tree o. Ok (placed_file source.0 tree) ≡ o) outcome

-- What all files mean. The first has the number 1.
abbrev pub TreesMean : List Source → Result (List Placed) Fault → Type 0
TreesMean files outcome = Phase SourceFileMeans 1 files outcome
