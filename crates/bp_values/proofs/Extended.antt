-- To which names a file refers makes a difference for those alone that it extends.
use Rattle.std.proofs.Common.{◌≡◌, ℕ, Bool, true, false, not, ◌||◌, cond, List, [], ◌∷◌, ◌++◌, Option, None, Some}
use Rattle.std.proofs.Common.{Result, Ok, Err, refl, ap, ◌∙◌, if◌then◌else◌}
use Rattle.std.specs.Str.{bytes_eq}
use Rattle.std.proofs.lemmas.Slice.Eq.{bytes_eq-Decides}
use Rattle.bp_faults.specs.Answers.{then_do}
use Rattle.bp_faults.specs.Faults.{fault_on}
use Rattle.bp_faults.specs.declared.fault.Fault.{Fault}
use Rattle.bp_faults.specs.declared.kind.FaultKind.TheVariants.{AfterUse}
use Rattle.bp_faults.specs.declared.place.Place.{Place}
use Rattle.bp_parser.specs.Trees.{Tree, Map, Definition, Assigns, Extends, Declares}
use Rattle.bp_values.specs.Values.{Meaning, MapEntry}
use Rattle.bp_values.specs.Sums.{sum}
use Rattle.bp_values.specs.Scopes.{Pairs, value_in}
use Rattle.bp_values.specs.Expressions.{val, val_map}
use Rattle.bp_values.specs.References.{is_in, is_in_entries}
use Rattle.bp_values.specs.Meaning.{Raw, Known, with_new, with_other, uses_with, known_with, with_module}
use Rattle.bp_values.specs.Meaning.{after_assignment, after_extension, after_own_extension, after_module}
use Rattle.bp_values.specs.Meaning.{after_definitions, file_evaluation}
use Rattle.bp_values.specs.Inside.{is_extended_or}

-- a name that was extended stays so
stays_extended : (name : List ℕ) (ds : List Definition) → is_extended_or true name ds ≡ true
stays_extended name [] = refl
stays_extended name (Assigns other at e ∷ ds) = stays_extended name ds
stays_extended name (Extends other at e ∷ ds) = by (bytes_eq other name) (stays_extended name ds)
  where
    by : (b : Bool) → is_extended_or true name ds ≡ true → is_extended_or (cond b true true) name ds ≡ true
    by true stays = stays
    by false stays = stays
stays_extended name (Declares kind at m ∷ ds) = stays_extended name ds

-- one that a later definition extends is extended
extended_later : (b : Bool) (name : List ℕ) (ds : List Definition) → is_extended_or false name ds ≡ true
    → is_extended_or (cond b true false) name ds ≡ true
extended_later true name ds later = stays_extended name ds
extended_later false name ds later = later

-- the name of an extension is extended
extended_first : (name : List ℕ) (ds : List Definition)
    → is_extended_or (cond (bytes_eq name name) true false) name ds ≡ true
extended_first name ds =
    ap (λ b. is_extended_or (cond b true false) name ds) ((bytes_eq-Decides name name).1 refl) ∙ stays_extended name ds

-- two files that refer to the same of the names that these definitions extend
abbrev Agree : List Definition → (List ℕ → Bool) → (List ℕ → Bool) → Type 0
Agree ds one other = (name : List ℕ) → is_extended_or false name ds ≡ true → one name ≡ other name

abbrev known : Pairs → (List ℕ → Bool) → List Raw → Known
known scope is_used modules = record { scope = scope; is_used = is_used; modules = modules }

abbrev last : Result Known Fault → Result (List Raw × Pairs) Fault
last r = then_do r (λ k. Ok (k.modules, k.scope))

abbrev more : Pairs → List Definition → Result Known Fault → Result Known Fault
more inherited ds r = then_do r (λ next. after_definitions inherited next ds)

-- what definitions come to, but for the names that were referred to
abbrev AreSame : Pairs → List Definition → Type 0
AreSame inherited ds = (scope : Pairs) (one other : List ℕ → Bool) (modules : List Raw) → Agree ds one other
    → last (after_definitions inherited (known scope one modules) ds)
    ≡ last (after_definitions inherited (known scope other modules) ds)

assignment : (inherited : Pairs) (ds : List Definition) → AreSame inherited ds
    → (scope : Pairs) (one other : List ℕ → Bool) (modules : List Raw) (name : List ℕ) (at : Place) (e : Tree)
    → Agree ds one other → (o : Option Meaning)
    → last (more inherited ds (after_assignment (known scope one modules) name at e o))
    ≡ last (more inherited ds (after_assignment (known scope other modules) name at e o))
assignment inherited ds rest scope one other modules name at e agree (Some old) = refl
assignment inherited ds rest scope one other modules name at e agree None = by (val scope e)
  where
    by : (r : Result Meaning Fault)
        → last (more inherited ds
        (then_do r (λ v. Ok (known_with (known scope one modules) (with_new scope name v) e))))
        ≡ last (more inherited ds
        (then_do r (λ v. Ok (known_with (known scope other modules) (with_new scope name v) e))))
    by (Ok v) =
        rest (with_new scope name v) (uses_with one e) (uses_with other e) modules
        (λ q later. ap (λ b. b || is_in q e) (agree q later))
    by (Err fault) = refl

extension : (inherited : Pairs) (ds : List Definition) → AreSame inherited ds
    → (scope : Pairs) (one other : List ℕ → Bool) (modules : List Raw) (name : List ℕ) (at : Place) (e : Tree)
    → one name ≡ other name → Agree ds one other → (o : Option Meaning)
    → last (more inherited ds (after_extension (known scope one modules) name at e o))
    ≡ last (more inherited ds (after_extension (known scope other modules) name at e o))
extension inherited ds rest scope one other modules name at e here agree None = refl
extension inherited ds rest scope one other modules name at e here agree (Some old) =
    by (one name) (then_do (val scope e) (λ v. sum at old v))
    ∙ ap (λ b. last (more inherited ds (if b then Err (fault_on AfterUse at name) else then_do (then_do (val scope e)
    (λ v. sum at old v)) (λ v. Ok (known_with (known scope other modules) (with_other scope name v) e))))) here
  where
    by : (b : Bool) (r : Result Meaning Fault)
        → last (more inherited ds (if b then Err (fault_on AfterUse at name)
        else then_do r (λ v. Ok (known_with (known scope one modules) (with_other scope name v) e))))
        ≡ last (more inherited ds (if b then Err (fault_on AfterUse at name)
        else then_do r (λ v. Ok (known_with (known scope other modules) (with_other scope name v) e))))
    by true r = refl
    by false (Ok v) =
        rest (with_other scope name v) (uses_with one e) (uses_with other e) modules
        (λ q later. ap (λ b. b || is_in q e) (agree q later))
    by false (Err fault) = refl

own_extension : (inherited : Pairs) (ds : List Definition) → AreSame inherited ds
    → (scope : Pairs) (one other : List ℕ → Bool) (modules : List Raw) (name : List ℕ) (at : Place) (e : Tree)
    → one name ≡ other name → Agree ds one other → (o : Option Meaning)
    → last (more inherited ds (after_own_extension (known scope one modules) name at e o))
    ≡ last (more inherited ds (after_own_extension (known scope other modules) name at e o))
own_extension inherited ds rest scope one other modules name at e here agree (Some above) = refl
own_extension inherited ds rest scope one other modules name at e here agree None =
    extension inherited ds rest scope one other modules name at e here agree (value_in scope name)

declaration : (inherited : Pairs) (ds : List Definition) → AreSame inherited ds
    → (scope : Pairs) (one other : List ℕ → Bool) (modules : List Raw) (kind : List ℕ) (at : Place) (m : Map)
    → Agree ds one other
    → last (more inherited ds (after_module (known scope one modules) kind at m))
    ≡ last (more inherited ds (after_module (known scope other modules) kind at m))
declaration inherited ds rest scope one other modules kind at m agree = by (val_map scope m.at m.entries)
  where
    by : (r : Result (List MapEntry) Fault)
        → last (more inherited ds (then_do r (λ fs. Ok (with_module (known scope one modules) kind at m fs))))
        ≡ last (more inherited ds (then_do r (λ fs. Ok (with_module (known scope other modules) kind at m fs))))
    by (Ok fs) =
        rest scope (λ q. one q || is_in_entries q m.entries) (λ q. other q || is_in_entries q m.entries)
        (modules ++ (record { kind = kind; at = at; entries = fs }) ∷ [])
        (λ q later. ap (λ b. b || is_in_entries q m.entries) (agree q later))
    by (Err fault) = refl

same_but_for_marks : (inherited : Pairs) (ds : List Definition) → AreSame inherited ds
same_but_for_marks inherited [] scope one other modules agree = refl
same_but_for_marks inherited (Assigns name at e ∷ ds) scope one other modules agree =
    assignment inherited ds (same_but_for_marks inherited ds) scope one other modules name at e agree
    (value_in scope name)
same_but_for_marks inherited (Extends name at e ∷ ds) scope one other modules agree =
    own_extension inherited ds (same_but_for_marks inherited ds) scope one other modules name at e
    (agree name (extended_first name ds))
    (λ q later. agree q (extended_later (bytes_eq name q) q ds later)) (value_in inherited name)
same_but_for_marks inherited (Declares kind at m ∷ ds) scope one other modules agree =
    declaration inherited ds (same_but_for_marks inherited ds) scope one other modules kind at m agree

-- marks that are set at first for those names alone that no definition extends are as good as none
pub marks_at_first : (inherited : Pairs) (ds : List Definition) (marks : List ℕ → Bool)
    → ((q : List ℕ) → marks q ≡ not (is_extended_or false q ds))
    → last (after_definitions inherited (known inherited marks []) ds) ≡ file_evaluation inherited ds
marks_at_first inherited ds marks is =
    same_but_for_marks inherited ds inherited marks (λ name. false) [] (λ name extended. is name ∙ ap not extended)
