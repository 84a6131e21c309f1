-- The measure of this crate: what was written is read back.
use Rattle.std.specs.Prelude.{◌≡◌, ℕ, ⊤, List, IsUtf8, Result, Ok, Err}
use Rattle.ninja_file.specs.declared.file.NinjaFile.{NinjaFile}
use Rattle.ninja_file.specs.Meaning.{IsWellFormed}
use Rattle.ninja_read.specs.declared.reader.NinjaError.{NinjaError}
use Rattle.ninja_read.specs.declared.reader.NinjaError.TheVariants.{BadLine, OutOfMemory}
use Rattle.ninja_read.specs.Meaning.{reading, Reads}
use Rattle.ninja_write.specs.Meaning.{text_of}

-- What `write` ensures of the text that it answers for a file.
pub record IsWritten (f : NinjaFile) (text : List ℕ) : Type 0 where
  pub same : text ≡ text_of f
  pub utf8 : IsUtf8 text

-- What a reader may answer where a file was written: that file, or that memory ran out.
abbrev pub ReadBackMeans : NinjaFile → Result NinjaFile NinjaError → Type 0
ReadBackMeans f (Ok back) = back ≡ f
ReadBackMeans f (Err (BadLine line)) = ⊥
ReadBackMeans f (Err OutOfMemory) = ⊤

-- What is written for a well-formed file stands for that file, and so `read` answers it.
abbrev pub WrittenIsReadBack : Type 0
WrittenIsReadBack =
    (f : NinjaFile) (text : List ℕ) (answer : Result NinjaFile NinjaError) →
    IsWellFormed f → IsWritten f text → Reads answer (reading text) → ReadBackMeans f answer
