-- A file changes no variable that it inherits.
use Rattle.std.proofs.Common.{◌≡◌, ℕ, Bool, true, false, cond, List, [], ◌∷◌, Option, None, Some, option_map, Result}
use Rattle.std.proofs.Common.{Ok, Err, refl, ap, subst, ◌∙◌, sym, if◌then◌else◌}
use Rattle.std.specs.Str.{bytes_eq}
use Rattle.std.proofs.lemmas.Slice.Eq.{bytes_eq-Decides}
use Rattle.bp_faults.specs.declared.fault.Fault.{Fault}
use Rattle.bp_faults.specs.declared.kind.FaultKind.TheVariants.{AfterUse}
use Rattle.bp_faults.specs.declared.place.Place.{Place}
use Rattle.bp_faults.specs.Answers.{then_do}
use Rattle.bp_faults.specs.Faults.{fault_on}
use Rattle.bp_parser.specs.Trees.{Tree, Definition, Assigns, Extends, Declares}
use Rattle.bp_values.specs.Values.{Meaning, MapEntry}
use Rattle.bp_values.specs.Sums.{sum}
use Rattle.bp_values.specs.Scopes.{Pairs, value_in, Keeps}
use Rattle.bp_values.specs.Expressions.{val, val_map}
use Rattle.bp_values.specs.Meaning.{Raw, Known, with_new, with_other, known_with, with_module, after_assignment}
use Rattle.bp_values.specs.Meaning.{after_extension, after_own_extension, after_definition, after_definitions}
use Rattle.bp_values.specs.Meaning.{known_first, file_evaluation}
use Rattle.bp_values.proofs.Pairs.{value_before}
use Rattle.bp_values.proofs.ByName.{value_other}

-- a name gets a value behind the others
new_keeps : (before after : Pairs) (name : List ℕ) (v : Meaning) → Keeps before after
    → Keeps before (with_new after name v)
new_keeps before after name v keeps m w has = value_before m after ((name, v) ∷ []) w (sym (keeps m w has))

-- a name that had no value before may get another
other_keeps : (before after : Pairs) (name : List ℕ) (v : Meaning) → value_in before name ≡ None → Keeps before after
    → Keeps before (with_other after name v)
other_keeps before after name v none keeps m w has =
    value_other name m v after ∙ by (bytes_eq m name) refl ∙ keeps m w has
  where
    by : (b : Bool) → bytes_eq m name ≡ b
        → cond b (option_map (λ u. v) (value_in after m)) (value_in after m) ≡ value_in after m
    by true same =
        let never : Some w ≡ None = sym has ∙ ap (value_in before) ((bytes_eq-Decides m name).0 same) ∙ none in
        cc
    by false apart = refl

assignment_keeps : (before : Pairs) (k next : Known) (name : List ℕ) (at : Place) (e : Tree) (o : Option Meaning)
    → Keeps before k.scope → after_assignment k name at e o ≡ Ok next → Keeps before next.scope
assignment_keeps before k next name at e (Some old) keeps is = cc
assignment_keeps before k next name at e None keeps is = by (val k.scope e) is
  where
    by : (r : Result Meaning Fault) → then_do r (λ v. Ok (known_with k (with_new k.scope name v) e)) ≡ Ok next
        → Keeps before next.scope
    by (Err f) is = cc
    by (Ok v) is =
        let same : known_with k (with_new k.scope name v) e ≡ next = cc in
        subst (λ n. Keeps before n.scope) same (new_keeps before k.scope name v keeps)

extension_keeps : (before : Pairs) (k next : Known) (name : List ℕ) (at : Place) (e : Tree) (o : Option Meaning)
    → value_in before name ≡ None → Keeps before k.scope
    → after_extension k name at e o ≡ Ok next → Keeps before next.scope
extension_keeps before k next name at e None none keeps is = cc
extension_keeps before k next name at e (Some old) none keeps is =
    by (k.is_used name) (then_do (val k.scope e) (λ v. sum at old v)) is
  where
    by : (b : Bool) (r : Result Meaning Fault) → (if b then Err (fault_on AfterUse at name)
        else then_do r (λ v. Ok (known_with k (with_other k.scope name v) e))) ≡ Ok next → Keeps before next.scope
    by true r is = cc
    by false (Err f) is = cc
    by false (Ok v) is =
        let same : known_with k (with_other k.scope name v) e ≡ next = cc in
        subst (λ n. Keeps before n.scope) same (other_keeps before k.scope name v none keeps)

own_extension_keeps : (before : Pairs) (k next : Known) (name : List ℕ) (at : Place) (e : Tree) (o : Option Meaning)
    → value_in before name ≡ o → Keeps before k.scope
    → after_own_extension k name at e o ≡ Ok next → Keeps before next.scope
own_extension_keeps before k next name at e (Some inherited) had keeps is = cc
own_extension_keeps before k next name at e None none keeps is =
    extension_keeps before k next name at e (value_in k.scope name) none keeps is

definition_keeps : (before : Pairs) (k next : Known) (d : Definition) → Keeps before k.scope
    → after_definition before k d ≡ Ok next → Keeps before next.scope
definition_keeps before k next (Assigns name at e) keeps is =
    assignment_keeps before k next name at e (value_in k.scope name) keeps is
definition_keeps before k next (Extends name at e) keeps is =
    own_extension_keeps before k next name at e (value_in before name) refl keeps is
definition_keeps before k next (Declares kind at m) keeps is = by (val_map k.scope m.at m.entries) is
  where
    by : (r : Result (List MapEntry) Fault) → then_do r (λ fs. Ok (with_module k kind at m fs)) ≡ Ok next
        → Keeps before next.scope
    by (Err f) is = cc
    by (Ok fs) is =
        let same : with_module k kind at m fs ≡ next = cc in
        subst (λ n. Keeps before n.scope) same keeps

definitions_keep : (before : Pairs) (k next : Known) (ds : List Definition) → Keeps before k.scope
    → after_definitions before k ds ≡ Ok next → Keeps before next.scope
definitions_keep before k next [] keeps is =
    let same : k ≡ next = cc in
    subst (λ n. Keeps before n.scope) same keeps
definitions_keep before k next (d ∷ ds) keeps is =
    by (after_definition before k d) refl (λ m. definitions_keep before m next ds) is
  where
    by : (r : Result Known Fault) → after_definition before k d ≡ r
        → ((m : Known) → Keeps before m.scope → after_definitions before m ds ≡ Ok next → Keeps before next.scope)
        → then_do r (λ m. after_definitions before m ds) ≡ Ok next → Keeps before next.scope
    by (Err f) step rest is = cc
    by (Ok m) step rest is = rest m (definition_keeps before k m d keeps step) is

pub inherited_stay : (inherited : Pairs) (ds : List Definition) (values : List Raw × Pairs)
    → file_evaluation inherited ds ≡ Ok values → Keeps inherited values.1
inherited_stay inherited ds values is = by (after_definitions inherited (known_first inherited) ds) refl is
  where
    by : (r : Result Known Fault) → after_definitions inherited (known_first inherited) ds ≡ r
        → then_do r (λ k. Ok (k.modules, k.scope)) ≡ Ok values → Keeps inherited values.1
    by (Err f) all is = cc
    by (Ok k) all is =
        let same : (k.modules, k.scope) ≡ values = cc in
        subst (λ v. Keeps inherited v.1) same
        (definitions_keep inherited (known_first inherited) k ds (λ name v has. has) all)
