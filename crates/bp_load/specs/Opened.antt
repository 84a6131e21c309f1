-- No public contract speaks of it: how files are evaluated, while the directories above the last file stay open.
use Rattle.std.specs.Prelude.{◌≡◌, ◌≤◌, ℕ, List, [], ◌∷◌, ◌++◌, map, reverse, Option, Some, None, Result, Ok, Err}
use Rattle.std.specs.Prelude.{if◌then◌else◌}
use Rattle.std.specs.declared.vec.Vec.{Vec}
use Rattle.std.specs.declared.alloc.Global.{Global}
use Rattle.bp_faults.specs.declared.fault.Fault.{Fault}
use Rattle.bp_faults.specs.declared.refusal.Refusal.{Refusal}
use Rattle.bp_faults.specs.Answers.{then_do}
use Rattle.bp_values.specs.Scopes.{Pairs, count_of, outer_pairs}
use Rattle.bp_values.specs.Meaning.{Raw, file_evaluation}
use Rattle.bp_values.specs.declared.file.RawModule.{RawModule}
use Rattle.bp_values.specs.declared.scope.Scope.{Scope}
use Rattle.bp_load.specs.declared.opened.Open.{Open}
use Rattle.bp_load.specs.declared.opened.Evaluation.{Evaluation}
use Rattle.bp_load.specs.declared.opened.Evaluated.{Evaluated}
use Rattle.bp_load.specs.Directories.{is_above}
use Rattle.bp_load.specs.Trees.{Placed}
use Rattle.bp_load.specs.Inherited.{Finished, nearest_file, in_directory, placed_raw}

-- The scope of a file, and the base where there is none.
abbrev pub scope_in : Pairs → Option Finished → Pairs
scope_in base None = base
scope_in base (Some file) = file.1

-- The modules of the files in turn, behind files that are finished. Where none of these is above a file, it inherits
-- the base.
abbrev pub evaluated_in : Pairs → List Finished → List Placed → Result (List (List ℕ × Raw)) Fault
evaluated_in base finished [] = Ok []
evaluated_in base finished (file ∷ files) =
    then_do (file_evaluation (scope_in base (nearest_file file.directory finished)) file.defs)
    (λ values. then_do (evaluated_in base (finished ++ (file.directory, values.1) ∷ []) files)
    (λ modules. Ok (in_directory file.dir values.0 ++ modules)))

-- An open directory, with the final scope of its file: an outer part of that scope.
abbrev pub open_in : Scope → Open → Finished
open_in scope o = (o.directory, outer_pairs o.names scope)

-- The open directories, innermost first, and the modules so far.
pub record Turn : Type 0 where
  pub opened : List Finished
  pub modules : List (List ℕ × Raw)

-- What an evaluation has so far.
abbrev pub turn_of : Evaluation → Turn
turn_of e = record { opened = map (open_in e.scope) (reverse e.opened.items); modules = map placed_raw e.modules.items }

-- What stays open for a file: from the innermost outwards, directories that aren't above the file's are closed.
abbrev pub still_open : List (List ℕ) → List Finished → List Finished
still_open directory [] = []
still_open directory (o ∷ more) = if is_above o.0 directory then o ∷ more else still_open directory more

-- The same of directories with their numbers of names.
abbrev pub stay_open : List (List ℕ) → List Open → List Open
stay_open directory [] = []
stay_open directory (o ∷ more) = if is_above o.directory directory then o ∷ more else stay_open directory more

-- How many names the innermost directory's scope has, or the base where none is open.
abbrev pub names_in : ℕ → List Open → ℕ
names_in base [] = base
names_in base (o ∷ more) = o.names

-- Innermost first: the first directory has at most so many names, each other at most as many as the one inside it, and
-- the base at most as many as the last.
abbrev pub AreNested : ℕ → ℕ → List Open → Type 0
AreNested base count [] = base ≤ count
AreNested base count (o ∷ more) = (o.names ≤ count) × AreNested base o.names more

-- The scopes of the open directories, and the base with those pairs, are outer parts of the scope.
abbrev pub IsBelow : Pairs → Evaluation → Type 0
IsBelow base e = AreNested e.base (count_of e.scope) (reverse e.opened.items) × (outer_pairs e.base e.scope ≡ base)

-- The innermost open directory.
abbrev pub innermost : List Finished → Option Finished
innermost [] = None
innermost (o ∷ more) = Some o

-- A file is evaluated in the scope of the innermost directory that stays open, and opens its own.
abbrev pub with_values : Pairs → Turn → List Finished → Placed → Result Turn Fault
with_values base turn stay file =
    then_do (file_evaluation (scope_in base (innermost stay)) file.defs)
    (λ values. Ok
    (record { opened = (file.directory, values.1) ∷ stay; modules = turn.modules ++ in_directory file.dir values.0 }))

-- One file more is evaluated.
abbrev pub next_turn : Pairs → Turn → Placed → Result Turn Fault
next_turn base turn file = with_values base turn (still_open file.directory turn.opened) file

-- The files are evaluated in turn.
abbrev pub all_turned : Pairs → Turn → List Placed → Result Turn Fault
all_turned base turn [] = Ok turn
all_turned base turn (file ∷ files) = then_do (next_turn base turn file) (λ next. all_turned base next files)

-- No directory is open yet, and there are no modules.
abbrev pub no_turn : Turn
no_turn = record { opened = []; modules = [] }

-- The modules that files are evaluated to, with their values.
abbrev pub values_of : Evaluated → List (List ℕ × Raw)
values_of evaluated = map placed_raw evaluated.modules.items

-- The modules of an answer alone.
abbrev pub modules_alone : Result Evaluated Refusal → Result (Vec (List ℕ × RawModule) Global) Refusal
modules_alone (Ok evaluated) = Ok evaluated.modules
modules_alone (Err refusal) = Err refusal
