-- What follows of a definition, from what its parts come to.
use Rattle.std.proofs.Common.{◌≡◌, ℕ, Bool, false, ◌||◌, [], ◌∷◌, if◌then◌else◌, List, ◌++◌, Option, None, Some, Result}
use Rattle.std.proofs.Common.{Ok, Err, option_map, is_some, ap, refl, sym, ◌∙◌}
use Rattle.bp_faults.specs.Answers.{then_do}
use Rattle.bp_faults.specs.Faults.{fault_on}
use Rattle.bp_faults.specs.declared.kind.FaultKind.TheVariants.{AfterUse}
use Rattle.bp_faults.specs.declared.fault.Fault.{Fault}
use Rattle.bp_faults.specs.declared.place.Place.{Place}
use Rattle.bp_parser.specs.Trees.{Tree, Map}
use Rattle.bp_values.specs.Values.{Meaning, MapEntry}
use Rattle.bp_values.specs.Sums.{sum}
use Rattle.bp_values.specs.Scopes.{Pairs, value_in}
use Rattle.bp_values.specs.Expressions.{val, val_map}
use Rattle.bp_values.specs.References.{is_in, is_in_entries}
use Rattle.bp_values.specs.Meaning.{Raw, Known, with_new, with_other, uses_with, known_with, with_module}
use Rattle.bp_values.specs.Meaning.{after_assignment, after_extension, after_module}

-- what is not there has no value
pub is_absent : {A B : Type 0} (f : A → B) (r : Option A) (value : Option B) → is_some r ≡ false
    → option_map f r ≡ value → value ≡ None
is_absent f None value lacks is = sym is
is_absent f (Some x) value lacks is = cc

abbrev pub known : Pairs → (List ℕ → Bool) → List Raw → Known
known scope is_used modules = record { scope = scope; is_used = is_used; modules = modules }

-- the names that are noted, once those of an expression are
noted_with : (later used : List ℕ → Bool) (e : Tree) → ((q : List ℕ) → later q ≡ (used q || is_in q e))
    → uses_with used e ≡ later
noted_with later used e noted = λ i q. sym (noted q) i

pub is_assigned : (scope now : Pairs) (used later : List ℕ → Bool) (modules : List Raw) (name : List ℕ) (at : Place)
    (e : Tree) (v : Meaning)
    → value_in scope name ≡ None → val scope e ≡ Ok v → ((q : List ℕ) → later q ≡ (used q || is_in q e))
    → now ≡ with_new scope name v
    → after_assignment (known scope used modules) name at e (value_in scope name) ≡ Ok (known now later modules)
is_assigned scope now used later modules name at e v none value noted put =
    ap (after_assignment (known scope used modules) name at e) none
    ∙ ap (λ r. then_do r (λ v. Ok (known_with (known scope used modules) (with_new scope name v) e))) value
    ∙ (λ i. Ok (record { scope = sym put i; is_used = noted_with later used e noted i; modules = modules }))

-- what follows of an extension
abbrev summed : Known → List ℕ → Place → Tree → Meaning → Result Meaning Fault → Result Known Fault
summed k name at e old r =
    then_do (then_do r (λ v. sum at old v)) (λ v. Ok (known_with k (with_other k.scope name v) e))

-- a name to which no definition before refers gets the sum
pub extension_begins : (scope : Pairs) (used : List ℕ → Bool) (modules : List Raw) (name : List ℕ) (at : Place)
    (e : Tree) (first : Meaning)
    → Some first ≡ value_in scope name → used name ≡ false
    → after_extension (known scope used modules) name at e (value_in scope name)
    ≡ then_do (val scope e)
    (λ w. then_do (sum at first w) (λ v. Ok (known_with (known scope used modules) (with_other scope name v) e)))
extension_begins scope used modules name at e first has unused =
    ap (after_extension (known scope used modules) name at e) (sym has)
    ∙ ap (λ b. if b then Err (fault_on AfterUse at name)
    else summed (known scope used modules) name at e first (val scope e)) unused
    ∙ by (val scope e)
  where
    by : (r : Result Meaning Fault) → summed (known scope used modules) name at e first r
        ≡ then_do r
        (λ w. then_do (sum at first w) (λ v. Ok (known_with (known scope used modules) (with_other scope name v) e)))
    by (Ok w) = refl
    by (Err fault) = refl

pub is_extended : (scope : Pairs) (used later : List ℕ → Bool) (modules : List Raw) (name : List ℕ) (at : Place)
    (e : Tree) (first w : Meaning)
    → Some first ≡ value_in scope name → used name ≡ false → val scope e ≡ Ok w
    → ((q : List ℕ) → later q ≡ (used q || is_in q e))
    → after_extension (known scope used modules) name at e (value_in scope name)
    ≡ then_do (sum at first w) (λ v. Ok (known (with_other scope name v) later modules))
is_extended scope used later modules name at e first w has unused value noted =
    extension_begins scope used modules name at e first has unused
    ∙ ap (λ r. then_do r
    (λ w. then_do (sum at first w) (λ v. Ok (known_with (known scope used modules) (with_other scope name v) e)))) value
    ∙ (λ i. then_do (sum at first w) (λ v.
    Ok (record { scope = with_other scope name v; is_used = noted_with later used e noted i; modules = modules })))

-- a module is kept behind the others
pub is_declared : (scope : Pairs) (used later : List ℕ → Bool) (modules now : List Raw) (kind : List ℕ) (at : Place)
    (m : Map) (fs : List MapEntry)
    → val_map scope m.at m.entries ≡ Ok fs → ((q : List ℕ) → later q ≡ (used q || is_in_entries q m.entries))
    → now ≡ modules ++ (record { kind = kind; at = at; entries = fs }) ∷ []
    → after_module (known scope used modules) kind at m ≡ Ok (known scope later now)
is_declared scope used later modules now kind at m fs value noted kept =
    ap (λ r. then_do r (λ gs. Ok (with_module (known scope used modules) kind at m gs))) value
    ∙ (λ i. Ok (record { scope = scope; is_used = λ q. sym (noted q) i; modules = sym kept i }))
