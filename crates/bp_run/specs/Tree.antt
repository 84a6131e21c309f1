-- Trees: which files are read, and which modules they load as.
use Rattle.std.specs.Prelude.{◌≡◌, ◌⊎◌, ℕ, ◌+◌, List, [], ◌∷◌, ◌++◌, map, nat_le, length, codes}
use Rattle.std.specs.Prelude.{Option, Some, None, Result, Ok, Err, IfSome, if◌then◌else◌}
use Rattle.std.specs.Result.{IsOk}
use Rattle.std.specs.FinMap.{get}
use Rattle.bp_faults.specs.declared.fault.Fault.{Fault}
use Rattle.bp_faults.specs.declared.kind.FaultKind.TheVariants.{NoFile, FileTooLarge, TooMany}
use Rattle.bp_faults.specs.declared.limits.TheConstants.{LARGEST_FILE, LARGEST_LIST_FILE, LARGEST_ORDER_FILE}
use Rattle.bp_faults.specs.declared.limits.TheConstants.{LARGEST_TREE}
use Rattle.bp_faults.specs.Answers.{then_do}
use Rattle.bp_faults.specs.Faults.{fault_at, fault_on, file_start}
use Rattle.bp_faults.specs.Phases.{GoesOn, Then}
use Rattle.bp_ports.specs.Files.{Files}
use Rattle.bp_props.specs.declared.module.Module.{Module}
use Rattle.bp_load.specs.ListFile.{ListMeans}
use Rattle.bp_load.specs.Loaded.{LoadMeans}
use Rattle.bp_load.specs.Trees.{Source}
use Rattle.command_words.specs.declared.configuration.Synth.{Synth as SynthWords}
use Rattle.synthetic_tree.specs.Blocks.{AreTree}
use Rattle.bp_run.specs.Lines.{synth_name}

-- What is read of a file, by its number: it is there, and no larger than the limit.
abbrev pub read_of : ℕ → ℕ → Option (List ℕ) → Result (List ℕ) Fault
read_of number limit None = Err (fault_at NoFile (file_start number))
read_of number limit (Some bytes) =
    if nat_le (length bytes) limit then Ok bytes else Err (fault_at FileTooLarge (file_start number))

-- The paths that the list file names, which is no larger than its limit.
abbrev pub ListFileMeans : List ℕ → Files → Result (List (List ℕ)) Fault → Type 0
ListFileMeans list files outcome = GoesOn (read_of 0 LARGEST_LIST_FILE (get files list)) ListMeans outcome

-- Files together are no larger than the limit of a tree: the bytes of a file, behind others of that size.
abbrev pub counted_bytes : ℕ → ℕ → List ℕ → Result (List ℕ) Fault
counted_bytes number size bytes =
    if nat_le (size + length bytes) LARGEST_TREE then Ok bytes
    else Err (fault_on TooMany (file_start number) (codes "bytes"))

-- The bytes of an Android.bp file, which is no larger than its limit.
abbrev pub file_bytes : Files → ℕ → ℕ → List ℕ → Result (List ℕ) Fault
file_bytes files number size path = then_do (read_of number LARGEST_FILE (get files path)) (counted_bytes number size)

-- The files of some paths in turn, numbered on, behind others of that size.
abbrev pub sources_from : Files → ℕ → ℕ → List (List ℕ) → Result (List Source) Fault
sources_from files number size [] = Ok []
sources_from files number size (path ∷ paths) =
    then_do (file_bytes files number size path)
    (λ bytes. then_do (sources_from files (number + 1) (size + length bytes) paths) (λ more. Ok ((path, bytes) ∷ more)))

-- The files that the list names, which are numbered from 1.
abbrev pub sources_of : Files → List (List ℕ) → Result (List Source) Fault
sources_of files paths = sources_from files 1 0 paths

-- The order file, which has the number behind those of the files that the list names.
abbrev pub order_of : Files → List (List ℕ) → List ℕ → Result (List ℕ) Fault
order_of files paths order = read_of (length paths + 1) LARGEST_ORDER_FILE (get files order)

-- The files that the list names, and then the order file.
abbrev pub sources_and_order : Files → List (List ℕ) → List ℕ → Result (List Source × List ℕ) Fault
sources_and_order files paths order =
    then_do (sources_of files paths)
    (λ sources. then_do (order_of files paths order) (λ bytes. Ok (sources, bytes)))

-- What the files of a list load as: first all are read.
abbrev pub ListedFilesLoad : Files → List (List ℕ) → Result (List Module) Fault → Type 0
ListedFilesLoad files paths outcome = GoesOn (sources_of files paths) LoadMeans outcome

-- What a list and the files that it names load as.
abbrev pub ListLoads : List ℕ → Files → Result (List Module) Fault → Type 0
ListLoads list files outcome = Then (ListFileMeans list files) (ListedFilesLoad files) outcome

-- What a synthetic tree loads as.
abbrev pub SynthLoads : SynthWords → Result (List Module) Fault → Type 0
SynthLoads words outcome =
    (files : List Source) × AreTree words.seed words.modules files × LoadMeans files outcome

-- The paths that are listed, and none where the list has a fault.
abbrev pub listed_of : Result (List (List ℕ)) Fault → List (List ℕ)
listed_of (Ok paths) = paths
listed_of (Err fault) = []

-- The paths that are listed, and the order's behind them; none where the list has a fault.
abbrev pub listed_with : List ℕ → Result (List (List ℕ)) Fault → List (List ℕ)
listed_with order (Ok paths) = paths ++ order ∷ []
listed_with order (Err fault) = []

-- The files by their numbers: the list has the number 0, and behind it stand those that it names.
abbrev pub AreListedFiles : List ℕ → Files → List (List ℕ) → Type 0
AreListedFiles list files paths =
    (outcome : Result (List (List ℕ)) Fault) × ListFileMeans list files outcome × (paths ≡ listed_of outcome)

-- The files of a replay by their numbers, but for the list: those that it names, and then the order file.
abbrev pub AreListedWith : List ℕ → List ℕ → Files → List (List ℕ) → Type 0
AreListedWith list order files paths =
    (outcome : Result (List (List ℕ)) Fault) × ListFileMeans list files outcome × (paths ≡ listed_with order outcome)

-- The names of files by their numbers: a list has the number 0, and behind it stand the files that it names.
abbrev pub AreListNames : List ℕ → Option Files → List (List ℕ) → Type 0
AreListNames list told names =
    (paths : List (List ℕ)) × IfSome told (λ files. AreListedFiles list files paths) × (names ≡ list ∷ paths)

-- The names of the files of a replay by their numbers: the order file stands behind those of the list.
abbrev pub AreReplayNames : List ℕ → List ℕ → Option Files → List (List ℕ) → Type 0
AreReplayNames list order told names =
    (paths : List (List ℕ)) × IfSome told (λ files. AreListedWith list order files paths) × (names ≡ list ∷ paths)

-- The names of the files of a synthetic tree by their numbers: `synth` stands in the place of a list.
abbrev pub AreSynthNames : SynthWords → List (List ℕ) → Type 0
AreSynthNames words names =
    (files : List Source) × AreTree words.seed words.modules files × (names ≡ synth_name ∷ map (λ f. f.0) files)

-- A path of the list that can't be read: those before it have no fault.
abbrev pub CannotReadOf : Files → List (List ℕ) → List ℕ → Type 0
CannotReadOf files paths path =
    (before after : List (List ℕ)) × (paths ≡ before ++ path ∷ after) × IsOk (sources_of files before)

-- The path that can't be read is the list's, or one that the list names, where it has no fault.
abbrev pub CannotRead : List ℕ → Files → List ℕ → Type 0
CannotRead list files path =
    (path ≡ list) ⊎ ((paths : List (List ℕ)) × ListFileMeans list files (Ok paths) × CannotReadOf files paths path)

-- A path that can't be read is of a file of the list, or the order's, where no file of the list has a fault.
abbrev pub CannotReadAlong : Files → List (List ℕ) → List ℕ → List ℕ → Type 0
CannotReadAlong files paths order path =
    CannotReadOf files paths path ⊎ ((path ≡ order) × IsOk (sources_of files paths))

-- The path that a replay can't read: the list's, one that the list names, or the order's, where nothing before it has
-- a fault.
abbrev pub CannotReplay : List ℕ → List ℕ → Files → List ℕ → Type 0
CannotReplay list order files path =
    (path ≡ list)
    ⊎ ((paths : List (List ℕ)) × ListFileMeans list files (Ok paths) × CannotReadAlong files paths order path)
