-- The phase of evaluation: the modules of every file, each file in the scope that it inherits.
-- Source: Soong reference, "Android.bp file format", variables: a file sees those of the directories above it.
use Rattle.std.specs.Prelude.{◌≡◌, ℕ, nat_le, List, [], ◌∷◌, ◌++◌, length, map, filter, Option, Some, None, Result, Ok}
use Rattle.std.specs.Prelude.{if◌then◌else◌}
use Rattle.std.specs.List.{fold}
use Rattle.bp_faults.specs.declared.fault.Fault.{Fault}
use Rattle.bp_faults.specs.Answers.{then_do}
use Rattle.bp_values.specs.declared.file.RawModule.{RawModule}
use Rattle.bp_values.specs.Scopes.{Pairs}
use Rattle.bp_values.specs.Meaning.{Raw, raw_of, file_evaluation}
use Rattle.bp_load.specs.Directories.{is_above}
use Rattle.bp_faults.specs.Phases.{Then}
use Rattle.bp_load.specs.Trees.{Source, Placed, TreesMean}

-- A file that is evaluated: its directory and its final scope.
abbrev pub Finished : Type 0
Finished = List (List ℕ) × Pairs

-- Of two files above a directory, the nearer is that whose directory has more components, and the second where both
-- have as many or there is no first.
abbrev pub nearer : Option Finished → Finished → Option Finished
nearer None file = Some file
nearer (Some best) file = if nat_le (length best.0) (length file.0) then Some file else Some best

-- The file in the nearest directory that is above this one or the same, if there is one.
abbrev pub nearest_file : List (List ℕ) → List Finished → Option Finished
nearest_file directory files = fold nearer None (filter (λ f. is_above f.0 directory) files)

-- The final scope of a file, and the empty one where there is no file.
abbrev pub scope_of : Option Finished → Pairs
scope_of None = []
scope_of (Some file) = file.1

-- A file inherits the final scope of the file in its nearest ancestor directory that has one. Of the files
-- before it in file order none stands in its own directory, and all of its ancestors' stand there.
abbrev pub inherited_scope : List (List ℕ) → List Finished → Pairs
inherited_scope directory files = scope_of (nearest_file directory files)

-- Modules, each with the directory of its file.
abbrev pub in_directory : List ℕ → List Raw → List (List ℕ × Raw)
in_directory dir modules = map (λ m. (dir, m)) modules

-- The modules of the files in turn, behind files that are finished, or the first fault.
abbrev pub all_evaluated : List Finished → List Placed → Result (List (List ℕ × Raw)) Fault
all_evaluated finished [] = Ok []
all_evaluated finished (file ∷ files) =
    then_do (file_evaluation (inherited_scope file.directory finished) file.defs)
    (λ values. then_do (all_evaluated (finished ++ (file.directory, values.1) ∷ []) files)
    (λ modules. Ok (in_directory file.dir values.0 ++ modules)))

-- How contracts see a raw module of the code with its directory.
abbrev pub placed_raw : List ℕ × RawModule → List ℕ × Raw
placed_raw m = (m.0, raw_of m.1)

-- What files mean as raw modules: first every file is parsed, and then every file is evaluated.
abbrev pub RawMean : List Source → Result (List (List ℕ × Raw)) Fault → Type 0
RawMean files outcome = Then (TreesMean files) (λ parsed o. all_evaluated [] parsed ≡ o) outcome
