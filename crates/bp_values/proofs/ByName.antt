-- What a file means depends on the inherited values by name alone.
use Rattle.std.proofs.Common.{◌≡◌, ℕ, Bool, true, false, cond, List, [], ◌∷◌, ◌++◌, Option, None, Some, option_map}
use Rattle.std.proofs.Common.{Result, Ok, Err, refl, ap, sym, subst, ◌∙◌, if◌then◌else◌, ◌||◌}
use Rattle.std.specs.Prelude.{codes}
use Rattle.std.specs.Option.{option_or}
use Rattle.std.specs.Map.{lookup}
use Rattle.std.specs.Str.{bytes_eq}
use Rattle.std.proofs.lemmas.Slice.Eq.{bytes_eq-Decides}
use Rattle.std.proofs.lemmas.Bool.{false≢true}
use Rattle.bp_faults.specs.Answers.{then_do}
use Rattle.bp_faults.specs.Faults.{fault_on}
use Rattle.bp_faults.specs.declared.fault.Fault.{Fault}
use Rattle.bp_faults.specs.declared.kind.FaultKind.TheVariants.{AfterUse}
use Rattle.bp_faults.specs.declared.limits.TheConstants.{MOST_LIST_ITEMS}
use Rattle.bp_faults.specs.declared.place.Place.{Place}
use Rattle.bp_parser.specs.Trees as tree
use Rattle.bp_parser.specs.Trees.{Tree, Atom, Trees, Terms, Entries, no_tree, tree_and, no_term, term_and, no_entry}
use Rattle.bp_parser.specs.Trees.{entry_and, Map, Definition, Assigns, Extends, Declares, first_place}
use Rattle.bp_values.specs.Values.{Meaning, Items, body}
use Rattle.bp_values.specs.Depths.{nested_entries}
use Rattle.bp_values.specs.Sums.{sum, list_within}
use Rattle.bp_values.specs.Scopes.{Pairs, value_in}
use Rattle.bp_values.specs.Expressions.{val, val_atom, val_items, val_terms, val_entries, val_map, known_value, item_of}
use Rattle.bp_values.specs.References.{is_in_entries}
use Rattle.bp_values.specs.Meaning.{Known, with_new, with_other, uses_with, known_with, after_assignment}
use Rattle.bp_values.specs.Meaning.{after_extension, after_own_extension, after_definition, after_definitions}
use Rattle.bp_values.specs.Meaning.{known_first, file_evaluation}
use Rattle.bp_values.specs.Laws.{HasSameValues, SameOutcomeMeans}
use Rattle.bp_values.proofs.Pairs.{lookup_append}

-- expressions

same_atom : (a b : Pairs) (at : Place) (atom : Atom) → HasSameValues a b → val_atom a at atom ≡ val_atom b at atom
same_atom a b at (tree.Truth t) same = refl
same_atom a b at (tree.Number n) same = refl
same_atom a b at (tree.Str text) same = refl
same_atom a b at (tree.Name name) same = ap (known_value at name) (same name)

mutual
  same_val : (t : Tree) (a b : Pairs) → HasSameValues a b → val a t ≡ val b t
  same_val (tree.Leaf at atom) a b same = same_atom a b at atom same
  same_val (tree.Items at items) a b same =
      ap (λ r. then_do r (λ l. then_do (list_within MOST_LIST_ITEMS (codes "list") at l) (λ m. Ok (Items m))))
      (same_items items a b same)
  same_val (tree.Body at entries) a b same =
      ap (λ r. then_do (then_do r (λ fs. nested_entries at fs)) (λ fs. Ok (body fs))) (same_entries entries a b same)
  same_val (tree.Sum first terms) a b same =
      λ i. then_do (same_val first a b same i) (λ value. same_terms terms value a b same i)

  same_items : (ts : Trees) (a b : Pairs) → HasSameValues a b → val_items a ts ≡ val_items b ts
  same_items no_tree a b same = refl
  same_items (tree_and item more) a b same =
      λ i. then_do (then_do (same_val item a b same i) (λ v. item_of (first_place item) v))
      (λ item. then_do (same_items more a b same i) (λ l. Ok (item ∷ l)))

  same_terms : (ts : Terms) (value : Meaning) (a b : Pairs) → HasSameValues a b
      → val_terms a value ts ≡ val_terms b value ts
  same_terms no_term value a b same = refl
  same_terms (term_and at term more) value a b same =
      λ i. then_do (then_do (same_val term a b same i) (λ w. sum at value w)) (λ s. same_terms more s a b same i)

  same_entries : (es : Entries) (a b : Pairs) → HasSameValues a b → val_entries a es ≡ val_entries b es
  same_entries no_entry a b same = refl
  same_entries (entry_and name at value more) a b same =
      λ i. then_do (same_val value a b same i)
      (λ v. then_do (same_entries more a b same i) (λ fs. Ok ((record { name = name; at = at; value = v }) ∷ fs)))

same_map : (m : Map) (a b : Pairs) → HasSameValues a b → val_map a m.at m.entries ≡ val_map b m.at m.entries
same_map m a b same = ap (λ r. then_do r (λ fs. nested_entries m.at fs)) (same_entries m.entries a b same)

-- scopes in which a name gets a value

same_new : (name : List ℕ) (v : Meaning) (a b : Pairs) → HasSameValues a b
    → HasSameValues (with_new a name v) (with_new b name v)
same_new name v a b same m =
    let last : Pairs = (name, v) ∷ [] in
    lookup_append (bytes_eq m) a last
    ∙ ap (λ r. option_or r (lookup (bytes_eq m) last)) (same m)
    ∙ sym (lookup_append (bytes_eq m) b last)

pub value_other : (name m : List ℕ) (v : Meaning) (ps : Pairs)
    → value_in (with_other ps name v) m ≡ cond (bytes_eq m name) (option_map (λ w. v) (value_in ps m)) (value_in ps m)
value_other name m v [] = by (bytes_eq m name)
  where
    by : (b : Bool) → value_in [] m ≡ cond b (option_map (λ w. v) (value_in [] m)) (value_in [] m)
    by true = refl
    by false = refl
value_other name m v (p ∷ ps) = by (bytes_eq name p.0) refl (value_other name m v ps)
  where
    here : (b : Bool) → cond b (Some v) (value_in ps m)
        ≡ cond b (option_map (λ w. v) (cond b (Some p.1) (value_in ps m))) (cond b (Some p.1) (value_in ps m))
    here true = refl
    here false = refl

    later : (b c : Bool) → bytes_eq m p.0 ≡ b → bytes_eq m name ≡ c → bytes_eq name p.0 ≡ false
        → value_in (with_other ps name v) m ≡ cond c (option_map (λ w. v) (value_in ps m)) (value_in ps m)
        → cond b (Some p.1) (value_in (with_other ps name v) m)
        ≡ cond c (option_map (λ w. v) (cond b (Some p.1) (value_in ps m))) (cond b (Some p.1) (value_in ps m))
    later true true e f apart rest =
        let one : m ≡ p.0 = (bytes_eq-Decides m p.0).0 e in
        let two : m ≡ name = (bytes_eq-Decides m name).0 f in
        absurd (false≢true (sym apart ∙ ap (λ n. bytes_eq n p.0) (sym two) ∙ e))
    later true false e f apart rest = refl
    later false c e f apart rest = rest

    by : (b : Bool) → bytes_eq name p.0 ≡ b → value_in (with_other ps name v) m
        ≡ cond (bytes_eq m name) (option_map (λ w. v) (value_in ps m)) (value_in ps m)
        → value_in (cond b ((p.0, v) ∷ ps) (p ∷ with_other ps name v)) m
        ≡ cond (bytes_eq m name) (option_map (λ w. v) (value_in (p ∷ ps) m)) (value_in (p ∷ ps) m)
    by true e rest =
        let one : name ≡ p.0 = (bytes_eq-Decides name p.0).0 e in
        let both : bytes_eq m name ≡ bytes_eq m p.0 = ap (bytes_eq m) one in
        here (bytes_eq m p.0)
        ∙ ap (λ b. cond b (option_map (λ w. v) (value_in (p ∷ ps) m)) (value_in (p ∷ ps) m)) (sym both)
    by false e rest = later (bytes_eq m p.0) (bytes_eq m name) refl refl e rest

same_other : (name : List ℕ) (v : Meaning) (a b : Pairs) → HasSameValues a b
    → HasSameValues (with_other a name v) (with_other b name v)
same_other name v a b same m =
    value_other name m v a
    ∙ ap (λ r. cond (bytes_eq m name) (option_map (λ w. v) r) r) (same m)
    ∙ sym (value_other name m v b)

-- definitions

record SameKnown (k l : Known) : Type 0 where
  scope : HasSameValues k.scope l.scope
  is_used : k.is_used ≡ l.is_used
  modules : k.modules ≡ l.modules

abbrev SameStep : Result Known Fault → Result Known Fault → Type 0
SameStep (Ok k) (Ok l) = SameKnown k l
SameStep (Err f) (Err g) = f ≡ g
SameStep _ _ = ⊥

same_then : {X : Type 0} (r s : Result X Fault) (f g : X → Result Known Fault) → r ≡ s
    → ((x : X) → SameStep (f x) (g x)) → SameStep (then_do r f) (then_do s g)
same_then {X} r s f g same each = subst (λ t. SameStep (then_do r f) (then_do t g)) same (by r)
  where
    by : (t : Result X Fault) → SameStep (then_do t f) (then_do t g)
    by (Ok x) = each x
    by (Err fault) = refl

same_with : (k l : Known) (a b : Pairs) (e : Tree) → SameKnown k l → HasSameValues a b
    → SameKnown (known_with k a e) (known_with l b e)
same_with k l a b e same scope = record {
  scope = scope;
  is_used = ap (λ u. uses_with u e) same.is_used;
  modules = same.modules;
}

same_assignment : (k l : Known) (name : List ℕ) (at : Place) (e : Tree) (o : Option Meaning) → SameKnown k l
    → SameStep (after_assignment k name at e o) (after_assignment l name at e o)
same_assignment k l name at e (Some old) same = refl
same_assignment k l name at e None same =
    same_then (val k.scope e) (val l.scope e) _ _ (same_val e k.scope l.scope same.scope)
    (λ v. same_with k l (with_new k.scope name v) (with_new l.scope name v) e same
    (same_new name v k.scope l.scope same.scope))

same_extension : (k l : Known) (name : List ℕ) (at : Place) (e : Tree) (o : Option Meaning) → SameKnown k l
    → SameStep (after_extension k name at e o) (after_extension l name at e o)
same_extension k l name at e None same = refl
same_extension k l name at e (Some old) same =
    subst (λ c. SameStep (if k.is_used name then Err (fault_on AfterUse at name) else first)
    (if c then Err (fault_on AfterUse at name) else second))
    (ap (λ (u : List ℕ → Bool). u name) same.is_used) (by (k.is_used name))
  where
    first : Result Known Fault
    first = then_do (then_do (val k.scope e) (λ v. sum at old v)) (λ v. Ok (known_with k (with_other k.scope name v) e))

    second : Result Known Fault
    second =
        then_do (then_do (val l.scope e) (λ v. sum at old v)) (λ v. Ok (known_with l (with_other l.scope name v) e))

    by : (c : Bool) → SameStep (if c then Err (fault_on AfterUse at name) else first)
        (if c then Err (fault_on AfterUse at name) else second)
    by true = refl
    by false =
        same_then (then_do (val k.scope e) (λ v. sum at old v)) (then_do (val l.scope e) (λ v. sum at old v)) _ _
        (ap (λ r. then_do r (λ v. sum at old v)) (same_val e k.scope l.scope same.scope))
        (λ v. same_with k l (with_other k.scope name v) (with_other l.scope name v) e same
        (same_other name v k.scope l.scope same.scope))

same_own_extension : (k l : Known) (name : List ℕ) (at : Place) (e : Tree) (o : Option Meaning) → SameKnown k l
    → SameStep (after_own_extension k name at e o) (after_own_extension l name at e o)
same_own_extension k l name at e (Some inherited) same = refl
same_own_extension k l name at e None same =
    subst (λ r. SameStep (after_extension k name at e (value_in k.scope name)) (after_extension l name at e r))
    (same.scope name)
    (same_extension k l name at e (value_in k.scope name) same)

same_definition : (a b : Pairs) (k l : Known) (d : Definition) → HasSameValues a b → SameKnown k l
    → SameStep (after_definition a k d) (after_definition b l d)
same_definition a b k l (Assigns name at e) above same =
    subst (λ r. SameStep (after_assignment k name at e (value_in k.scope name)) (after_assignment l name at e r))
    (same.scope name)
    (same_assignment k l name at e (value_in k.scope name) same)
same_definition a b k l (Extends name at e) above same =
    subst (λ r. SameStep (after_own_extension k name at e (value_in a name)) (after_own_extension l name at e r))
    (above name)
    (same_own_extension k l name at e (value_in a name) same)
same_definition a b k l (Declares kind at m) above same =
    same_then (val_map k.scope m.at m.entries) (val_map l.scope m.at m.entries) _ _
    (same_map m k.scope l.scope same.scope)
    (λ fs. record {
      scope = same.scope;
      is_used = λ i name. same.is_used i name || is_in_entries name m.entries;
      modules = ap (λ ms. ms ++ (record { kind = kind; at = at; entries = fs }) ∷ []) same.modules;
    })

same_definitions : (a b : Pairs) (ds : List Definition) (k l : Known) → HasSameValues a b → SameKnown k l
    → SameStep (after_definitions a k ds) (after_definitions b l ds)
same_definitions a b [] k l above same = same
same_definitions a b (d ∷ ds) k l above same =
    by (after_definition a k d) (after_definition b l d) (same_definition a b k l d above same)
    (λ m n. same_definitions a b ds m n above)
  where
    by : (r s : Result Known Fault) → SameStep r s
        → ((m n : Known) → SameKnown m n → SameStep (after_definitions a m ds) (after_definitions b n ds))
        → SameStep (then_do r (λ next. after_definitions a next ds)) (then_do s (λ next. after_definitions b next ds))
    by (Ok m) (Ok n) step rest = rest m n step
    by (Err f) (Err g) step rest = step
    by (Ok m) (Err g) step rest = absurd step
    by (Err f) (Ok n) step rest = absurd step

pub values_decide : (a b : Pairs) (ds : List Definition) → HasSameValues a b
    → SameOutcomeMeans (file_evaluation a ds) (file_evaluation b ds)
values_decide a b ds above =
    by (after_definitions a (known_first a) ds) (after_definitions b (known_first b) ds)
    (same_definitions a b ds (known_first a) (known_first b) above
    (record { scope = above; is_used = refl; modules = refl }))
  where
    by : (r s : Result Known Fault) → SameStep r s
        → SameOutcomeMeans (then_do r (λ k. Ok (k.modules, k.scope))) (then_do s (λ k. Ok (k.modules, k.scope)))
    by (Ok m) (Ok n) step = (step.modules, step.scope)
    by (Err f) (Err g) step = step
    by (Ok m) (Err g) step = absurd step
    by (Err f) (Ok n) step = absurd step
