-- Which variants a focus keeps: those that lie on walks from or to the variants of a module.
use Rattle.std.specs.Prelude.{◌≡◌, ◌<◌, ◌≤◌, ◌⊎◌, ◌↔◌, ℕ, zero, suc, Bool, true, false, List, length, Contains, Option}
use Rattle.std.specs.Prelude.{Some, None, ⊤}
use Rattle.std.specs.Prelude.{slice_get, slice_index_or}
use Rattle.graph_picture.specs.declared.focus.Focus.{Focus}
use Rattle.graph_picture.specs.declared.variant.Arrow.{Arrow}
use Rattle.graph_picture.specs.declared.variant.Variant.{Variant}

-- Some edge of variant n leads to variant m.
abbrev pub ArrowLeads : List Variant → ℕ → ℕ → Type 0
ArrowLeads variants n m =
    (v : Variant) × (a : Arrow) × (slice_get variants n ≡ Some v) × Contains v.edges a × (a.to ≡ m)

-- A walk of k steps leads from n to m.
abbrev pub StepWalk : (ℕ → ℕ → Type 0) → ℕ → ℕ → ℕ → Type 0
StepWalk Step zero n m = n ≡ m
StepWalk Step (suc k) n m = (t : ℕ) × Step n t × StepWalk Step k t m

-- Variant n is one of a module.
abbrev pub IsOf : List Variant → List ℕ → ℕ → Type 0
IsOf variants owner n = (v : Variant) × (slice_get variants n ≡ Some v) × (v.module ≡ owner)

-- A walk of at most so many edges leads from a variant of the module to variant n, or from there to such a variant.
abbrev pub IsNear : List Variant → Focus → ℕ → Type 0
IsNear variants focus n =
    (s : ℕ) × (k : ℕ) × IsOf variants focus.module s × (k ≤ focus.depth)
    × (StepWalk (ArrowLeads variants) k s n ⊎ StepWalk (ArrowLeads variants) k n s)

-- A focus keeps what is near. Without one all variants are kept.
abbrev pub IsKept : List Variant → Option Focus → ℕ → Type 0
IsKept variants None n = ⊤
IsKept variants (Some focus) n = IsNear variants focus n

-- The mark of a number, which is not set beyond the marks.
abbrev pub mark_at : List Bool → ℕ → Bool
mark_at marks n = slice_index_or marks n false

-- The variants that are kept are marked, and no others.
pub record AreMarks (variants : List Variant) (focus : Option Focus) (marks : List Bool) : Type 0 where
  pub size : length marks ≡ length variants
  pub exact : (n : ℕ) → n < length variants → (mark_at marks n ≡ true) ↔ IsKept variants focus n
