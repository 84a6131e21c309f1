-- What the steps of reading and drawing come to. No public contract speaks of it.
use Rattle.std.specs.Prelude.{◌≡◌, ◌≢◌, ◌<◌, ◌≤◌, ◌^◌, ℕ, suc, Bool, true, false, List, [], ◌∷◌, ◌++◌, length, Option}
use Rattle.std.specs.Prelude.{Some, None}
use Rattle.std.specs.Prelude.{Result, Ok, Err, Vec, ⊤}
use Rattle.std.specs.Fmt.{decimal}
use Rattle.std.specs.List.{AllByRecursion}
use Rattle.std.specs.declared.alloc.Global.{Global}
use Rattle.graph_nodes.specs.declared.graph.EdgeKind.{EdgeKind}
use Rattle.graph_nodes.specs.GraphText.{kind_word}
use Rattle.graph_picture.specs.declared.read.ReadError.{ReadError}
use Rattle.graph_picture.specs.declared.read.ReadError.TheVariants.{BadLine, OutOfMemory}
use Rattle.graph_picture.specs.declared.variant.Arrow.{Arrow}
use Rattle.graph_picture.specs.declared.variant.Variant.{Variant}
use Rattle.graph_picture.specs.Lines.{HasNo, IsVariant, LeadInside, variant_line, arrow_line, all_variant_lines}
use Rattle.graph_picture.specs.Lines.{variants_text}
use Rattle.graph_picture.specs.Reading.{IsStray, Stops}
use Rattle.bp_faults.specs.Characters.{ended_line}

-- The number below 2^32 of which a text is the decimal, or none.
abbrev pub IsNumber : List ℕ → Option ℕ → Type 0
IsNumber text (Some n) = (n < 2 ^ 32) × (text ≡ decimal n)
IsNumber text None = (n : ℕ) → n < 2 ^ 32 → text ≡ decimal n → ⊥

-- The kind that is spelled so, or none.
abbrev pub IsKind : List ℕ → Option EdgeKind → Type 0
IsKind word (Some kind) = word ≡ kind_word kind
IsKind word None = (kind : EdgeKind) → word ≢ kind_word kind

-- The edge of which a line is the line, or none.
abbrev pub IsArrowOf : List ℕ → Option Arrow → Type 0
IsArrowOf line (Some a) = (a.to < 2 ^ 32) × (line ≡ arrow_line a)
IsArrowOf line None = (a : Arrow) → a.to < 2 ^ 32 → line ≡ arrow_line a → ⊥

-- The variant of which a line is the line, or none.
abbrev pub IsVariantOf : ℕ → List ℕ → Option Variant → Type 0
IsVariantOf n line (Some v) = IsVariant v × (line ≡ variant_line n v) × (v.edges ≡ [])
IsVariantOf n line None = (v : Variant) → IsVariant v → line ≡ variant_line n v → ⊥

-- The first line of some bytes and what is behind it, or none where LF isn't among them.
abbrev pub IsFirstLine : List ℕ → Option (List ℕ × List ℕ) → Type 0
IsFirstLine bytes (Some (line, behind)) = HasNo 10 line × (bytes ≡ ended_line line ++ behind)
IsFirstLine bytes None = HasNo 10 bytes

-- A line was put behind those of some variants, or it is none that goes on.
abbrev pub PutsLine : List Variant → List ℕ → Bool → List Variant → Type 0
PutsLine old line true new =
    (all_variant_lines new ≡ all_variant_lines old ++ line ∷ [])
    × (AllByRecursion IsVariant old → AllByRecursion IsVariant new)
PutsLine old line false new = IsStray old line

-- Some first lines of the bytes are those of the variants so far.
pub record IsRead (bytes : List ℕ) (variants : List Variant) (rest : List ℕ) (line : ℕ) : Type 0 where
  pub each : AllByRecursion IsVariant variants
  pub whole : bytes ≡ variants_text variants ++ rest
  pub line_is : line ≡ length (all_variant_lines variants)

-- What reading line by line comes to.
abbrev pub ReadsLines : List ℕ → Result (Vec Variant Global) ReadError → Type 0
ReadsLines bytes (Ok variants) = AllByRecursion IsVariant variants.items × (bytes ≡ variants_text variants.items)
ReadsLines bytes (Err (BadLine number)) = Stops bytes number
ReadsLines bytes (Err OutOfMemory) = ⊤

-- The first of some edges that leads to none of so many variants, or none does.
abbrev pub FindsFirst : ℕ → List Arrow → Option ℕ → Type 0
FindsFirst count edges (Some i) =
    (before : List Arrow) × (a : Arrow) × (after : List Arrow) × (edges ≡ before ++ a ∷ after) × (length before ≡ i)
    × AllByRecursion (λ (b : Arrow). b.to < count) before × (count ≤ a.to)
FindsFirst count edges None = AllByRecursion (λ (b : Arrow). b.to < count) edges

-- The line of the first edge that leads outside, by its number.
pub record IsOutside (variants : List Variant) (number : ℕ) : Type 0 where
  pub before : List Variant
  pub arrow : Arrow
  pub behind : List (List ℕ)
  pub lines : all_variant_lines variants ≡ all_variant_lines before ++ arrow_line arrow ∷ behind
  pub inside : LeadInside (length variants) before
  pub outside : length variants ≤ arrow.to
  pub number_is : number ≡ suc (length (all_variant_lines before))

-- That line, or none where all edges lead inside.
abbrev pub FindsOutside : List Variant → Option ℕ → Type 0
FindsOutside variants (Some number) = IsOutside variants number
FindsOutside variants None = LeadInside (length variants) variants
