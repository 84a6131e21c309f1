-- What the program makes of the bytes of its input.
use Rattle.std.specs.Prelude.{◌≡◌, ◌⊎◌, ℕ, List, Bool, Vec, Option, Some, None, Result, Ok, Err, ⊤}
use Rattle.std.specs.declared.alloc.Global.{Global}
use Rattle.graph_picture.specs.declared.focus.Focus.{Focus}
use Rattle.graph_picture.specs.declared.picture.PictureError.{PictureError}
use Rattle.graph_picture.specs.declared.picture.PictureError.TheVariants.{BadLine, NoModule, OutOfMemory}
use Rattle.graph_picture.specs.declared.variant.Variant.{Variant}
use Rattle.graph_picture.specs.Drawing.{picture_of}
use Rattle.graph_picture.specs.Lines.{IsGraph, variants_text}
use Rattle.graph_picture.specs.Reach.{IsOf, AreMarks}
use Rattle.graph_picture.specs.Reading.{Stops, LeadsOutside}

-- There is a focus, and no variant is of its module.
abbrev pub IsLost : List Variant → Option Focus → Type 0
IsLost variants None = ⊥
IsLost variants (Some focus) = (n : ℕ) → IsOf variants focus.module n → ⊥

-- The marks of what is kept, or none where the focus is lost.
abbrev pub MarksMean : List Variant → Option Focus → Option (Vec Bool Global) → Type 0
MarksMean variants focus (Some marks) = AreMarks variants focus marks.items
MarksMean variants focus None = IsLost variants focus

-- The bytes are the text of a graph, and the picture shows what is kept of it.
pub record IsPicture (bytes : List ℕ) (focus : Option Focus) (text : List ℕ) : Type 0 where
  pub variants : List Variant
  pub marks : List Bool
  pub graph : IsGraph variants
  pub read : bytes ≡ variants_text variants
  pub kept : AreMarks variants focus marks
  pub text_is : text ≡ picture_of variants marks

-- The bytes are the text of a graph without a variant of the module in focus.
pub record HasNoModule (bytes : List ℕ) (focus : Option Focus) : Type 0 where
  pub variants : List Variant
  pub graph : IsGraph variants
  pub read : bytes ≡ variants_text variants
  pub lost : IsLost variants focus

-- The picture of some bytes, or why there is none.
abbrev pub PictureMeans : List ℕ → Option Focus → Result (Vec ℕ Global) PictureError → Type 0
PictureMeans bytes focus (Ok text) = IsPicture bytes focus text.items
PictureMeans bytes focus (Err (BadLine number)) = Stops bytes number ⊎ LeadsOutside bytes number
PictureMeans bytes focus (Err NoModule) = HasNoModule bytes focus
PictureMeans bytes focus (Err OutOfMemory) = ⊤
