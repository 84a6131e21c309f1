-- An item that doesn't begin with a colon is a path.
use Rattle.std.proofs.Common.{◌≡◌, ℕ, Bool, true, false, cond, List, [], ◌∷◌, refl, ap, Ok, eqb, arith}
use Rattle.std.proofs.lemmas.Bool.Decides.{nat_tests}
use Rattle.bp_faults.specs.declared.place.Item.{Item}
use Rattle.property_values.specs.Fits.{source_by, path_in}

pub no_colon : (dir : List ℕ) (item : Item) (text : List ℕ) → ((rest : List ℕ) → text ≡ 58 ∷ rest → ⊥)
    → source_by dir item text ≡ path_in dir item
no_colon dir item [] none = refl
no_colon dir item (c ∷ name) none = by (eqb c 58) refl
  where
    by : (colon : Bool) → eqb c 58 ≡ colon
        → cond colon (Ok (record { named = true; item = record { text = name; at = item.at } }))
        (path_in dir item) ≡ path_in dir item
    by true is = absurd (none name (ap (λ x. x ∷ name) (let same : c ≡ 58 = grind (arith, nat_tests) in same)))
    by false is = refl
