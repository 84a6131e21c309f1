-- What the laws say of reading.
use Rattle.std.specs.Prelude.{◌≡◌, ℕ, List, Ok}
use Rattle.ninja_file.specs.declared.file.NinjaFile.{NinjaFile}
use Rattle.ninja_file.specs.Meaning.{AllDiffer, outs_of}
use Rattle.ninja_read.specs.Meaning.{reading}

-- A text that is read names no out twice.
abbrev pub OutsDiffer : Type 0
OutsDiffer = (text : List ℕ) (f : NinjaFile) → reading text ≡ Ok f → AllDiffer (outs_of f)
