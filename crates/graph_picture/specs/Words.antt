-- What the words of the command line ask for.
use Rattle.std.specs.Prelude.{◌≡◌, ◌≢◌, ◌<◌, ◌^◌, ℕ, List, [], ◌∷◌, Some, slice_get}
use Rattle.std.specs.Fmt.{decimal}
use Rattle.graph_picture.specs.declared.words.Asked.{Asked}
use Rattle.graph_picture.specs.declared.words.Asked.TheVariants.{Whole, Near, Wrong}

-- A module is a word that doesn't begin with `-`.
abbrev pub AsksNear : List ℕ → ℕ → Asked → Type 0
AsksNear owner depth Whole = ⊥
AsksNear owner depth (Near focus) =
    (slice_get owner 0 ≢ Some 45) × (focus.module ≡ owner) × (focus.depth ≡ depth)
AsksNear owner depth Wrong = slice_get owner 0 ≡ Some 45

-- A depth is the decimal of a number below 2^32.
abbrev pub AsksWithin : List ℕ → List ℕ → Asked → Type 0
AsksWithin owner word Whole = ⊥
AsksWithin owner word (Near focus) = (word ≡ decimal focus.depth) × AsksNear owner focus.depth (Near focus)
AsksWithin owner word Wrong = (n : ℕ) → n < 2 ^ 32 → word ≡ decimal n → slice_get owner 0 ≡ Some 45

-- No words ask for all, one for what is near a module to the largest depth that a `u32` numbers, and two for what is
-- near it to a depth.
abbrev pub WordsMean : List (List ℕ) → Asked → Type 0
WordsMean [] asked = asked ≡ Whole
WordsMean (owner ∷ []) asked = AsksNear owner 4294967295 asked
WordsMean (owner ∷ depth ∷ []) asked = AsksWithin owner depth asked
WordsMean (owner ∷ depth ∷ more ∷ words) asked = asked ≡ Wrong
