-- Texts, the places where they go, and what putting them there does.
use Rattle.std.specs.Prelude.{◌≡◌, ◌⊎◌, ℕ, List, [], ◌∷◌, ◌++◌}
use Rattle.std.specs.FinMap.{insert}
use Rattle.bp_ports.specs.Causes.{Rose}
use Rattle.bp_ports.specs.Files.{WhereTold, SameBut, AppendsPart}
use Rattle.bp_run.specs.declared.put.Put.{Put}
use Rattle.bp_run.specs.declared.put.Put.TheVariants.{Write, Print}
use Rattle.bp_run.specs.Lines.{write_line, output_line}
use Rattle.bp_run.specs.World.{World, Unchanged, HaveCounted}

-- The file of the path holds the text, every other file is as it was, and so is the output.
pub record IsSaved (path text : List ℕ) (old new : World) : Type 0 where
  pub files : WhereTold (λ before after. after ≡ insert before path text) old.files new.files
  pub out : new.out ≡ old.out
  pub counts : HaveCounted old new

-- The text stands behind the output, and the files are as they were.
pub record IsPrinted (text : List ℕ) (old new : World) : Type 0 where
  pub out : WhereTold (λ before after. after ≡ before ++ text) old.out new.out
  pub files : new.files ≡ old.files
  pub counts : HaveCounted old new

-- A text is where it goes: in a file, or on the output.
abbrev pub IsPut : Put → World → World → Type 0
IsPut (Write path text) old new = IsSaved path text old new
IsPut (Print text) old new = IsPrinted text old new

-- Texts are where they go, put there one after another.
abbrev pub ArePut : List Put → World → World → Type 0
ArePut [] old new = Unchanged old new × HaveCounted old new
ArePut (put ∷ puts) old new = (between : World) × IsPut put old between × ArePut puts between new

-- The write of the path failed, and of the files it alone may have changed.
pub record IsUnsaved (path : List ℕ) (old new : World) (line : List ℕ) : Type 0 where
  pub told : line ≡ write_line path
  pub cause : Rose old.writes new.writes
  pub files : WhereTold (SameBut path) old.files new.files
  pub out : new.out ≡ old.out

-- The put on the output failed, which may have gained a first part of the text, and the files are as they were.
pub record IsUnprinted (text : List ℕ) (old new : World) (line : List ℕ) : Type 0 where
  pub told : line ≡ output_line
  pub cause : Rose old.puts new.puts
  pub out : WhereTold (AppendsPart text) old.out new.out
  pub files : new.files ≡ old.files

-- A text couldn't be put where it goes, which the line says.
abbrev pub IsUnput : Put → World → World → List ℕ → Type 0
IsUnput (Write path text) old new line = IsUnsaved path old new line
IsUnput (Print text) old new line = IsUnprinted text old new line

-- One of the texts couldn't be put where it goes, which the line says. Those before it are.
abbrev pub AreUnput : List Put → World → World → List ℕ → Type 0
AreUnput [] old new line = ⊥
AreUnput (put ∷ puts) old new line =
    IsUnput put old new line ⊎ ((between : World) × IsPut put old between × AreUnput puts between new line)
