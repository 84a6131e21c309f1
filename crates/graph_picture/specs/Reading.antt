-- What the bytes of a text come to: the graph of which they are the text, or the number of a bad line.
use Rattle.std.specs.Prelude.{◌≡◌, ◌<◌, ◌≤◌, ◌^◌, ◌⊎◌, ℕ, suc, List, ◌∷◌, ◌++◌, length, Vec, Result, Ok, Err, ⊤}
use Rattle.std.specs.List.{AllByRecursion}
use Rattle.std.specs.declared.alloc.Global.{Global}
use Rattle.graph_picture.specs.declared.variant.Arrow.{Arrow}
use Rattle.graph_picture.specs.declared.variant.Variant.{Variant}
use Rattle.graph_picture.specs.declared.read.ReadError.{ReadError}
use Rattle.graph_picture.specs.declared.read.ReadError.TheVariants.{BadLine, OutOfMemory}
use Rattle.graph_picture.specs.Lines.{HasNo, IsVariant, IsGraph, LeadInside, variant_line, arrow_line}
use Rattle.graph_picture.specs.Lines.{all_variant_lines}
use Rattle.graph_picture.specs.Lines.{variants_text}
use Rattle.bp_faults.specs.Characters.{ended_line}

-- Behind the lines of some variants this line is neither that of the next variant, nor that of one more edge.
pub record IsStray (variants : List Variant) (line : List ℕ) : Type 0 where
  pub no_variant : (v : Variant) → IsVariant v → line ≡ variant_line (length variants) v → ⊥
  pub no_arrow : 0 < length variants → (a : Arrow) → a.to < 2 ^ 32 → line ≡ arrow_line a → ⊥

-- The bytes begin with the lines of some variants, and what is behind them isn't a line that goes on.
pub record Stops (bytes : List ℕ) (number : ℕ) : Type 0 where
  pub before : List Variant
  pub rest : List ℕ
  pub each : AllByRecursion IsVariant before
  pub whole : bytes ≡ variants_text before ++ rest
  pub some : 0 < length rest
  pub stray : (line behind : List ℕ) → HasNo 10 line → rest ≡ ended_line line ++ behind → IsStray before line
  pub number_is : number ≡ suc (length (all_variant_lines before))

-- The bytes are the text of some variants, and the line of this number has the first edge that leads to none of them.
pub record LeadsOutside (bytes : List ℕ) (number : ℕ) : Type 0 where
  pub variants : List Variant
  pub before : List Variant
  pub arrow : Arrow
  pub behind : List (List ℕ)
  pub each : AllByRecursion IsVariant variants
  pub whole : bytes ≡ variants_text variants
  pub lines : all_variant_lines variants ≡ all_variant_lines before ++ arrow_line arrow ∷ behind
  pub inside : LeadInside (length variants) before
  pub outside : length variants ≤ arrow.to
  pub number_is : number ≡ suc (length (all_variant_lines before))

-- What the bytes come to.
abbrev pub ReadMeans : List ℕ → Result (Vec Variant Global) ReadError → Type 0
ReadMeans bytes (Ok variants) = IsGraph variants.items × (bytes ≡ variants_text variants.items)
ReadMeans bytes (Err (BadLine number)) = Stops bytes number ⊎ LeadsOutside bytes number
ReadMeans bytes (Err OutOfMemory) = ⊤
