-- The path of a block's file, by its components.
use Rattle.std.proofs.Common.{◌≡◌, ◌∙◌, ◌<◌, ◌^◌, ℕ, Bool, true, false, List, [], ◌∷◌, ◌++◌, ap, refl, rules, arith}
use Rattle.std.specs.Prelude.{codes, decimal, ◌==◌, ◌&&◌, nat_le}
use Rattle.std.specs.List.{list_all, slice_split, onto_first}
use Rattle.std.specs.Str.Parse.{digits_value}
use Rattle.std.proofs.lemmas.Fmt.{digits_decimal}
use Rattle.std.proofs.lemmas.Bool.{and_parts}
use Rattle.std.proofs.lemmas.Str.Parse.{IsNumeralModel, numerals_by_value}
use Rattle.std.proofs.lemmas.Grind.{common_steps}
use Rattle.bp_faults.specs.Paths.{is_component, is_normal}
use Rattle.synthetic_tree.specs.Blocks.{block_directory, block_path}

abbrev is_digit : ℕ → Bool
is_digit b = nat_le 48 b && nat_le b 57

own : IsNumeralModel (λ ds. list_all is_digit ds ≡ true) (digits_value 10)
own = numerals_by_value _ (search rules)

abbrev is_slash : ℕ → Bool
is_slash b = b == 47

no_slash : (d : ℕ) → is_digit d ≡ true → is_slash d ≡ false
no_slash d h = grind (arith, common_steps)

digits_split : (ds more : List ℕ) → list_all is_digit ds ≡ true
    → slice_split is_slash (ds ++ 47 ∷ more) ≡ ds ∷ slice_split is_slash more
digits_split [] more h = refl
digits_split (d ∷ ds) more h =
    let k = and_parts (is_digit d) (list_all is_digit ds) h in
    rw (no_slash d k.0, digits_split ds more k.1) refl

-- A path has two components: the directory, and the file's name.
pub components : (b : ℕ) → b < 2 ^ 64
    → slice_split is_slash (block_path b) ≡ block_directory b ∷ codes "Android.bp" ∷ []
components b small = ap (onto_first 98) (digits_split (decimal b) (codes "Android.bp") (digits_decimal own b small))

component : (ds : List ℕ) → is_component (98 ∷ ds) ≡ true
component [] = refl
component (d ∷ []) = refl
component (d ∷ e ∷ ds) = refl

pub normal_path : (b : ℕ) → b < 2 ^ 64 → is_normal (block_path b) ≡ true
normal_path b small =
    ap (list_all is_component) (components b small) ∙ ap (λ (c : Bool). c && true) (component (decimal b))
