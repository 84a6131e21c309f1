-- The text of a graph, as `bpgen graph` prints it: variants with their edges, and the lines that say them.
use Rattle.std.specs.Prelude.{◌≢◌, ◌<◌, ◌^◌, ℕ, List, ◌∷◌, ◌++◌, map, length, codes, All, IsUtf8}
use Rattle.std.specs.Fmt.{decimal}
use Rattle.std.specs.List.{AllByRecursion, flat_map}
use Rattle.graph_nodes.specs.GraphText.{kind_word}
use Rattle.graph_nodes.specs.Numbered.{by_number}
use Rattle.graph_picture.specs.declared.variant.Arrow.{Arrow}
use Rattle.graph_picture.specs.declared.variant.Variant.{Variant}
use Rattle.bp_faults.specs.Characters.{ended_line}

-- None of the bytes is this one.
abbrev pub HasNo : ℕ → List ℕ → Type 0
HasNo byte bytes = All (λ b. b ≢ byte) bytes

-- A word is a text without a space and without LF.
pub record IsPrintedWord (word : List ℕ) : Type 0 where
  pub text : IsUtf8 word
  pub no_space : HasNo 32 word
  pub no_end : HasNo 10 word

-- The names of a variant are words, and a `u32` numbers the targets of its edges.
pub record IsVariant (v : Variant) : Type 0 where
  pub owner : IsPrintedWord v.module
  pub variation : IsPrintedWord v.variation
  pub targets : AllByRecursion (λ (a : Arrow). a.to < 2 ^ 32) v.edges

-- The line of variant n: its number, the name of its module and its own name, with one space between.
abbrev pub variant_line : ℕ → Variant → List ℕ
variant_line n v = decimal n ++ (codes " " ++ (v.module ++ (codes " " ++ v.variation)))

-- The line of an edge: two spaces, the kind, one space and the target's number.
abbrev pub arrow_line : Arrow → List ℕ
arrow_line a = codes "  " ++ (kind_word a.kind ++ (codes " " ++ decimal a.to))

-- The lines of variant n: its own, and one for each of its edges, in order.
abbrev pub variant_lines : ℕ → Variant → List (List ℕ)
variant_lines n v = variant_line n v ∷ map arrow_line v.edges

-- The lines of some variants, which are numbered from 0.
abbrev pub all_variant_lines : List Variant → List (List ℕ)
all_variant_lines variants = by_number variant_lines 0 variants

-- The text of some variants: LF ends each of their lines.
abbrev pub variants_text : List Variant → List ℕ
variants_text variants = flat_map ended_line (all_variant_lines variants)

-- Each edge leads to one of so many variants.
abbrev pub LeadInside : ℕ → List Variant → Type 0
LeadInside count variants =
    AllByRecursion (λ (v : Variant). AllByRecursion (λ (a : Arrow). a.to < count) v.edges) variants

-- A graph is variants whose edges lead to some of them. A `u32` numbers them.
pub record IsGraph (variants : List Variant) : Type 0 where
  pub each : AllByRecursion IsVariant variants
  pub ends : LeadInside (length variants) variants
  pub few : length variants < 2 ^ 32
