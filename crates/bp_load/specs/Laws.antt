-- What holds of all lists and of all files.
use Rattle.std.specs.Prelude.{◌≡◌, ◌⊎◌, ℕ, true, List, Result, Ok, IsTrue}
use Rattle.std.specs.List.{All}
use Rattle.std.specs.declared.cmp.Ordering.TheVariants.{Less}
use Rattle.bp_faults.specs.declared.fault.Fault.{Fault}
use Rattle.bp_props.specs.declared.module.Module.{Module}
use Rattle.bp_values.specs.Meaning.{Raw}
use Rattle.bp_load.specs.Directories.{is_above, directory_cmp}
use Rattle.bp_load.specs.ListFile.{is_listed, ListMeans}
use Rattle.bp_load.specs.Trees.{Source}
use Rattle.bp_load.specs.Inherited.{RawMean}
use Rattle.bp_load.specs.Loaded.{LoadMeans}

-- A list file means something.
abbrev pub SomeList : Type 0
SomeList = (bytes : List ℕ) → (outcome : Result (List (List ℕ)) Fault) × ListMeans bytes outcome

-- A list file means one thing alone.
abbrev pub OneList : Type 0
OneList = (bytes : List ℕ) (a b : Result (List (List ℕ)) Fault) → ListMeans bytes a → ListMeans bytes b → a ≡ b

-- Each path that a list means may be listed.
abbrev pub ListsWhatMayBe : Type 0
ListsWhatMayBe = (bytes : List ℕ) (paths : List (List ℕ)) → ListMeans bytes (Ok paths)
    → All (λ path. IsTrue (is_listed path)) paths

-- A directory above another is the same, or stands before it in file order. So the files before a file are all
-- that it could inherit from.
abbrev pub AncestorsStandFirst : Type 0
AncestorsStandFirst = (above below : List (List ℕ)) → is_above above below ≡ true
    → (above ≡ below) ⊎ (directory_cmp above below ≡ Less)

-- Files mean some raw modules, or have some fault.
abbrev pub SomeRaw : Type 0
SomeRaw = (files : List Source) → (outcome : Result (List (List ℕ × Raw)) Fault) × RawMean files outcome

-- Files mean one list of raw modules, or have one fault.
abbrev pub OneRaw : Type 0
OneRaw = (files : List Source) (a b : Result (List (List ℕ × Raw)) Fault) → RawMean files a → RawMean files b → a ≡ b

-- Files load as something.
abbrev pub SomeLoad : Type 0
SomeLoad = (files : List Source) → (outcome : Result (List Module) Fault) × LoadMeans files outcome

-- Files load as one thing alone.
abbrev pub OneLoad : Type 0
OneLoad = (files : List Source) (a b : Result (List Module) Fault) → LoadMeans files a → LoadMeans files b → a ≡ b
