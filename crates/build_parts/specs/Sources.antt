-- Which files are compiled, and which are headers: by the ends of their paths.
use Rattle.std.specs.Prelude.{ℕ, Bool, List, [], ◌∷◌, ◌++◌, ◌||◌, not, nat_eq, Option, Some, None, Result, Ok, Err}
use Rattle.std.specs.Prelude.{if◌then◌else◌, codes}
use Rattle.std.specs.List.{ends_with}
use Rattle.bp_names.specs.Meaning.{knows}
use Rattle.bp_faults.specs.declared.fault.Fault.{Fault}
use Rattle.bp_faults.specs.declared.place.Item.{Item}
use Rattle.bp_faults.specs.declared.kind.FaultKind.{FaultKind}
use Rattle.bp_faults.specs.declared.kind.FaultKind.TheVariants.{BadSource, DuplicateSource}
use Rattle.bp_faults.specs.Faults.{fault_on}
use Rattle.bp_faults.specs.Answers.{then_do}
use Rattle.build_parts.specs.declared.sources.SourceKind.{SourceKind}
use Rattle.build_parts.specs.declared.sources.SourceKind.TheVariants.{Compiled, Header}
use Rattle.build_parts.specs.declared.sources.Language.TheVariants.{C, Cxx, Assembler}

-- A path ends so.
abbrev pub ends : List ℕ → List ℕ → Bool
ends path suffix = ends_with nat_eq path suffix

-- What is done with a source. Any other end is none.
abbrev pub source_kind : List ℕ → Option SourceKind
source_kind path =
    if ends path (codes ".c") then Some (Compiled C)
    else if ends path (codes ".cc") || ends path (codes ".cpp") || ends path (codes ".cxx") then Some (Compiled Cxx)
    else if ends path (codes ".S") || ends path (codes ".s") then Some (Compiled Assembler)
    else if ends path (codes ".h") || ends path (codes ".hh") || ends path (codes ".hpp") || ends path (codes ".inc")
    then Some Header
    else None

-- The fault of a source stands at its place and names its path.
abbrev pub source_fault : FaultKind → Item → Fault
source_fault kind item = fault_on kind item.at item.text

-- The check of a source by its kind, and by whether its path is new.
abbrev pub checked_by : Option SourceKind → Bool → Item → Result Unit Fault
checked_by None is_new item = Err (source_fault BadSource item)
checked_by (Some Header) is_new item = Ok tt
checked_by (Some (Compiled language)) is_new item = if is_new then Ok tt else Err (source_fault DuplicateSource item)

-- A source is of a known kind, and one that isn't a header has a path that didn't come before.
abbrev pub source_checked : List (List ℕ) → Item → Result Unit Fault
source_checked earlier item = checked_by (source_kind item.text) (not (knows earlier item.text)) item

-- The sources are checked one after another, behind earlier ones.
abbrev pub sources_checked : List (List ℕ) → List Item → Result Unit Fault
sources_checked earlier [] = Ok tt
sources_checked earlier (item ∷ items) =
    then_do (source_checked earlier item) (λ done. sources_checked (earlier ++ item.text ∷ []) items)
