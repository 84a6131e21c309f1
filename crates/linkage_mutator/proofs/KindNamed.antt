-- The kind of a module by the number of its name.
use Rattle.std.proofs.Common.{◌≡◌, ◌+◌, ◌∙◌, ℕ, suc, List, [], ◌∷◌, Option, Some, Bool, true, false, map, refl, ap}
use Rattle.std.proofs.Common.{arith}
use Rattle.std.specs.Prelude.{cond}
use Rattle.std.specs.Option.{option_map, option_and_then}
use Rattle.std.specs.List.{find}
use Rattle.std.specs.Str.{bytes_eq}
use Rattle.bp_names.specs.Meaning.{first_number_from, first_number}
use Rattle.bp_props.specs.declared.module.Module.{Module}
use Rattle.linkage_mutator.specs.Inside.{kind_at}
use Rattle.linkage_mutator.specs.Plugins.{kind_named}

-- of two pairs of answers one is taken in both
both_taken : {A B : Type 0} (f : ℕ → Option B) (g : A → B) (k : ℕ) (a : A) (number : Option ℕ) (item : Option A)
    (is : Bool)
    → f k ≡ Some (g a) → option_and_then f number ≡ option_map g item
    → option_and_then f (cond is (Some k) number) ≡ option_map g (cond is (Some a) item)
both_taken f g k a number item true here rest = here
both_taken f g k a number item false here rest = rest

module _ (all : List Module) (name : List ℕ) where
  -- where some modules stand at k and behind it, the first of a name is at the number of the name
  kind_from : (k : ℕ) (mods : List Module) → ((i : ℕ) → kind_at all (k + i) ≡ kind_at mods i)
      → option_and_then (kind_at all) (first_number_from k (map (λ (m : Module). m.name) mods) name)
      ≡ kind_named mods name
  kind_from k [] stand = refl
  kind_from k (m ∷ mods) stand =
      both_taken (kind_at all) (λ (x : Module). x.kind) k m
      (first_number_from (k + 1) (map (λ (x : Module). x.name) mods) name) (find (λ (x : Module). bytes_eq name x.name)
      mods) (bytes_eq name m.name)
      (ap (kind_at all) (omega arith) ∙ stand 0)
      (kind_from (k + 1) mods (λ i. ap (kind_at all) (omega arith) ∙ stand (suc i)))

-- the kind of a module is that of the module at the number of the name
pub kind_by_number : (mods : List Module) (name : List ℕ)
    → option_and_then (kind_at mods) (first_number (map (λ (m : Module). m.name) mods) name) ≡ kind_named mods name
kind_by_number mods name = kind_from mods name 0 mods (λ i. ap (kind_at mods) (omega arith))
