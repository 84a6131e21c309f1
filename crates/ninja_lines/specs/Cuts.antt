-- Texts that are cut at a byte, and words. A byte that a dollar takes with it cuts nothing.
use Rattle.std.specs.Prelude.{ℕ, Bool, true, false, List, [], ◌∷◌, ◌==◌, not, length, filter, if◌then◌else◌}
use Rattle.std.specs.List.{onto_first}
use Rattle.bp_faults.specs.Characters.{dollar, space}

-- A byte that no dollar takes, before parts: it may cut.
abbrev pub cut_byte : ℕ → ℕ → List (List ℕ) → List (List ℕ)
cut_byte at b parts = if b == at then [] ∷ parts else onto_first b parts

-- The parts between the bytes `at`. The flag says that a dollar stands before.
abbrev pub parts_between : ℕ → Bool → List ℕ → List (List ℕ)
parts_between at behind [] = [] ∷ []
parts_between at true (b ∷ bytes) = onto_first b (parts_between at false bytes)
parts_between at false (b ∷ bytes) =
    if b == dollar then onto_first b (parts_between at true bytes) else cut_byte at b (parts_between at false bytes)

-- The parts between spaces, where several spaces count as one.
abbrev pub words : List ℕ → List (List ℕ)
words text = filter (λ part. not (length part == 0)) (parts_between space false text)
