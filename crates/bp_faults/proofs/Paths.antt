-- Facts about paths in normal form, for the proofs of every crate.
use Rattle.std.proofs.Common.{◌≡◌, ℕ, true, List, [], ◌∷◌, refl}
use Rattle.std.specs.Prelude.{◌==◌}
use Rattle.std.specs.List.{list_all, slice_split}
use Rattle.bp_faults.specs.Paths.{is_component, is_normal}

-- A text whose parts between slashes are all components is a path in normal form.
pub normal_of_parts : (text : List ℕ) → list_all is_component (slice_split (λ c. c == 47) text) ≡ true
    → is_normal text ≡ true
normal_of_parts [] all = refl
normal_of_parts (b ∷ bs) all = all
