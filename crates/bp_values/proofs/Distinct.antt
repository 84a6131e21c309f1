-- The names of each map differ in what a file means, where they do in the file and in what it inherits.
use Rattle.std.specs.Prelude.{◌≢◌, ℤ, ◌+ℤ◌, codes, IfOk, IfSome, ⊤}
use Rattle.std.specs.List.{All, AllPairs, list_any}
use Rattle.std.specs.Str.{bytes_eq}
use Rattle.std.specs.Cmp.Lexicographic.{nat_list_eq_equiv}
use Rattle.std.proofs.Common.{◌≡◌, ℕ, suc, ◌<◌, Bool, true, false, not, ◌||◌, cond, List, [], ◌∷◌, ◌++◌, map, length}
use Rattle.std.proofs.Common.{get_or, Option, None, Some, Result, Ok, Err, refl, ap, sym, subst, ◌∙◌, arith}
use Rattle.std.proofs.Common.{if◌then◌else◌}
use Rattle.std.proofs.lemmas.Bool.{false≢true}
use Rattle.std.proofs.lemmas.List.{get_or-map, length-map}
use Rattle.std.proofs.lemmas.Map.Views.{list_any-from_Contains}
use Rattle.std.proofs.lemmas.List.Elements.{Contains-get_or, All-nil, All-cons, All-head, All-tail, All-append}
use Rattle.std.proofs.lemmas.List.Elements.{All-push, All-filter, filter_passes}
use Rattle.std.proofs.lemmas.List.Kept.{AllPairs-cons, AllPairs-filter}
use Rattle.std.proofs.lemmas.Result.{IfOk-at_ok}
use Rattle.bp_faults.specs.Answers.{then_do}
use Rattle.bp_faults.specs.Faults.{fault_on}
use Rattle.bp_faults.specs.declared.kind.FaultKind.TheVariants.{AfterUse}
use Rattle.bp_faults.specs.declared.limits.TheConstants.{LONGEST_STRING, MOST_LIST_ITEMS}
use Rattle.bp_faults.specs.declared.fault.Fault.{Fault}
use Rattle.bp_faults.specs.declared.place.Place.{Place}
use Rattle.bp_faults.specs.declared.place.Item.{Item}
use Rattle.bp_parser.specs.Trees as tree
use Rattle.bp_parser.specs.Trees.{Tree, Atom, Trees, Terms, Entries, no_term, term_and, no_entry}
use Rattle.bp_parser.specs.Trees.{entry_and, Definition, Assigns, Extends, Declares}
use Rattle.bp_parser.specs.Names as written
use Rattle.bp_parser.specs.Names.{AreDistinct, DefinitionHasDistinctNames}
use Rattle.bp_values.specs.Values.{Meaning, Truth, Number, Str, Items, Body, MapEntries, no_map_entry, map_entry_and}
use Rattle.bp_values.specs.Values.{MapEntry}
use Rattle.bp_values.specs.Values.{map_entries_of, map_entries_then, body}
use Rattle.bp_values.specs.Depths.{nested_entries}
use Rattle.bp_values.specs.Sums.{sum, sum_entries, sum_body, sum_number, sum_text, sum_item, list_within, is_i64}
use Rattle.bp_values.specs.Sums.{combined_value, value_at, has_name, others}
use Rattle.bp_values.specs.Scopes.{Pairs, value_in}
use Rattle.bp_values.specs.Expressions.{val, val_atom, val_items, val_terms, val_entries, val_map, known_value}
use Rattle.bp_values.specs.Meaning.{Raw, Known, with_new, with_other, known_with, after_assignment, after_extension}
use Rattle.bp_values.specs.Meaning.{after_own_extension, after_definition, after_definitions, known_first}
use Rattle.bp_values.specs.Meaning.{file_evaluation}
use Rattle.bp_values.specs.Names.{map_entry_names, HasDistinctNames, EntriesHaveDistinctNames, ModuleHasDistinctNames}
use Rattle.bp_values.specs.Names.{ScopeHasDistinctNames}

-- results

if_then : {X Y : Type 0} (P : X → Type 0) (Q : Y → Type 0) (r : Result X Fault) (next : X → Result Y Fault) → IfOk r P
    → ((x : X) → P x → IfOk (next x) Q) → IfOk (then_do r next) Q
if_then P Q (Ok x) next first rest = rest x first
if_then P Q (Err f) next first rest = tt

if_test : {X : Type 0} (P : X → Type 0) (b : Bool) (x : X) (f : Fault) → P x → IfOk (if b then Ok x else Err f) P
if_test P true x f p = p
if_test P false x f p = tt

anything : {X : Type 0} (r : Result X Fault) → IfOk r (λ x. ⊤)
anything (Ok x) = tt
anything (Err f) = tt

-- entries as a list

abbrev Apart : MapEntry → MapEntry → Type 0
Apart f g = f.name ≢ g.name

abbrev Kept : MapEntry → Type 0
Kept f = HasDistinctNames f.value

abbrev names : List MapEntry → List (List ℕ)
names fs = map (λ f. f.name) fs

abbrev entry_named : List ℕ → MapEntry
entry_named name = record { name = name; at = record { file = 0; line = 0; col = 0 }; value = Truth false }

listed_names : (fields : MapEntries) → names (map_entries_of fields) ≡ map_entry_names fields
listed_names no_map_entry = refl
listed_names (map_entry_and name at value more) = ap (λ l. name ∷ l) (listed_names more)

listed_values : (fields : MapEntries) → EntriesHaveDistinctNames fields → All Kept (map_entries_of fields)
listed_values no_map_entry kept = All-nil Kept
listed_values (map_entry_and name at value more) kept =
    All-cons Kept (record { name = name; at = at; value = value }) (map_entries_of more) kept.0
    (listed_values more kept.1)

names_then : (fs : List MapEntry) → map_entry_names (map_entries_then fs no_map_entry) ≡ names fs
names_then [] = refl
names_then (f ∷ fs) = ap (λ l. f.name ∷ l) (names_then fs)

values_then : (fs : List MapEntry) → All Kept fs → EntriesHaveDistinctNames (map_entries_then fs no_map_entry)
values_then [] kept = tt
values_then (f ∷ fs) kept = (All-head Kept f fs kept, values_then fs (All-tail Kept f fs kept))

whole_body : (fs : List MapEntry) → AreDistinct (names fs) → All Kept fs → HasDistinctNames (body fs)
whole_body fs distinct kept = (subst AreDistinct (sym (names_then fs)) distinct, values_then fs kept)

apart_from_names : (fs : List MapEntry) → AreDistinct (names fs) → AllPairs Apart fs
apart_from_names fs distinct i j d less within same =
    let long : length (names fs) ≡ length fs = length-map fs (λ (f : MapEntry). f.name) in
    distinct i j d.name less (omega arith)
    (get_or-map (λ (f : MapEntry). f.name) fs i d d.name (omega arith)
    ∙ same
    ∙ sym (get_or-map (λ (f : MapEntry). f.name) fs j d d.name within))

names_from_apart : (fs : List MapEntry) → AllPairs Apart fs → AreDistinct (names fs)
names_from_apart fs apart i j d less within same =
    let long : length (names fs) ≡ length fs = length-map fs (λ (f : MapEntry). f.name) in
    let below : j < length fs = omega arith in
    apart i j (entry_named d) less below
    (sym (get_or-map (λ (f : MapEntry). f.name) fs i (entry_named d) d (omega arith))
    ∙ same
    ∙ get_or-map (λ (f : MapEntry). f.name) fs j (entry_named d) d below)

head_apart : (f : MapEntry) (fs : List MapEntry) → AllPairs Apart (f ∷ fs) → All (Apart f) fs
head_apart f fs apart k d within = apart 0 (suc k) d (omega arith) (omega arith)

tail_apart : (f : MapEntry) (fs : List MapEntry) → AllPairs Apart (f ∷ fs) → AllPairs Apart fs
tail_apart f fs apart i j d less within = apart (suc i) (suc j) d (omega arith) (omega arith)

append_apart : (fs gs : List MapEntry) → AllPairs Apart fs → AllPairs Apart gs → All (λ f. All (Apart f) gs) fs
    → AllPairs Apart (fs ++ gs)
append_apart [] gs first second cross = second
append_apart (f ∷ fs) gs first second cross =
    AllPairs-cons Apart f (fs ++ gs)
    (All-append (Apart f) fs gs (head_apart f fs first) (All-head (λ g. All (Apart g) gs) f fs cross))
    (append_apart fs gs (tail_apart f fs first) second (All-tail (λ g. All (Apart g) gs) f fs cross))

any_name : (q : List ℕ) (fs : List MapEntry) → has_name fs q ≡ list_any (bytes_eq q) (names fs)
any_name q [] = refl
any_name q (f ∷ fs) = ap (λ b. bytes_eq q f.name || b) (any_name q fs)

-- no entry of the first is named like one of the others
others_apart : (fs firsts seconds : List MapEntry) → names fs ≡ names firsts
    → All (λ f. All (Apart f) (others seconds firsts)) fs
others_apart fs firsts seconds named k d within j e behind same =
    let f = get_or fs k d in
    let g = get_or (others seconds firsts) j e in
    let passes : not (has_name firsts g.name) ≡ true =
    filter_passes (λ (h : MapEntry). not (has_name firsts h.name)) seconds j e behind in
    let long : length (names fs) ≡ length fs = length-map fs (λ (h : MapEntry). h.name) in
    let found = list_any-from_Contains nat_list_eq_equiv (get_or (names fs) k d.name) (names fs)
    (Contains-get_or (names fs) k d.name (omega arith)) in
    let here : get_or (names fs) k d.name ≡ g.name =
    get_or-map (λ (h : MapEntry). h.name) fs k d d.name within ∙ same in
    let there : has_name firsts g.name ≡ true =
    any_name g.name firsts
    ∙ ap (list_any (bytes_eq g.name)) (sym named)
    ∙ ap (λ n. list_any (bytes_eq n) (names fs)) (sym here)
    ∙ found in
    false≢true (sym (ap not there) ∙ passes)

-- sums

value_kept : (name : List ℕ) (fs : List MapEntry) → All Kept fs → IfSome (value_at name fs) HasDistinctNames
value_kept name [] kept = tt
value_kept name (f ∷ fs) kept = by (bytes_eq name f.name) (value_kept name fs (All-tail Kept f fs kept))
  where
    by : (b : Bool) → IfSome (value_at name fs) HasDistinctNames
        → IfSome (if b then Some f.value else value_at name fs) HasDistinctNames
    by true rest = All-head Kept f fs kept
    by false rest = rest

-- the entries of a first map, each with its sum
abbrev Summed : MapEntries → List MapEntry → Type 0
Summed fields fs = (names fs ≡ map_entry_names fields) × All Kept fs

body_kept : (a : MapEntries) (seconds fs : List MapEntry) → AreDistinct (map_entry_names a) → AllPairs Apart seconds
    → All Kept seconds → Summed a fs → HasDistinctNames (body (fs ++ others seconds (map_entries_of a)))
body_kept a seconds fs distinct apart kept summed =
    let rest = others seconds (map_entries_of a) in
    let test : MapEntry → Bool = λ f. not (has_name (map_entries_of a) f.name) in
    let named : names fs ≡ names (map_entries_of a) = summed.0 ∙ sym (listed_names a) in
    whole_body (fs ++ rest)
    (names_from_apart (fs ++ rest) (append_apart fs rest
    (apart_from_names fs (subst AreDistinct (sym summed.0) distinct))
    (AllPairs-filter Apart test seconds apart)
    (others_apart fs (map_entries_of a) seconds named)))
    (All-append Kept fs rest summed.1 (All-filter test Kept seconds kept))

number_kept : (at : Place) (a : ℤ) (b : Meaning) → IfOk (sum_number at a b) HasDistinctNames
number_kept at a (Number b) = if_test HasDistinctNames (is_i64 (a +ℤ b)) (Number (a +ℤ b)) _ tt
number_kept at a _ = tt

text_kept : (at : Place) (a : List ℕ) (b : Meaning) → IfOk (sum_text at a b) HasDistinctNames
text_kept at a (Str b) =
    if_then (λ c. ⊤) HasDistinctNames (list_within LONGEST_STRING (codes "string") at (a ++ b)) (λ c. Ok (Str c))
    (anything (list_within LONGEST_STRING (codes "string") at (a ++ b))) (λ c any. tt)
text_kept at a _ = tt

items_kept : (at : Place) (a : List Item) (b : Meaning) → IfOk (sum_item at a b) HasDistinctNames
items_kept at a (Items b) =
    if_then (λ c. ⊤) HasDistinctNames (list_within MOST_LIST_ITEMS (codes "list") at (a ++ b)) (λ c. Ok (Items c))
    (anything (list_within MOST_LIST_ITEMS (codes "list") at (a ++ b))) (λ c any. tt)
items_kept at a _ = tt

map_kept : (at : Place) (a : MapEntries) (each : List MapEntry → Result (List MapEntry) Fault) (b : Meaning)
    → AreDistinct (map_entry_names a) → HasDistinctNames b
    → ((seconds : List MapEntry) → All Kept seconds → IfOk (each seconds) (Summed a))
    → IfOk (sum_body at a each b) HasDistinctNames
map_kept at a each (Body b) distinct whole rest =
    let kept = listed_values b whole.1 in
    let apart = apart_from_names (map_entries_of b) (subst AreDistinct (sym (listed_names b)) whole.0) in
    if_then (Summed a) HasDistinctNames (each (map_entries_of b))
    (λ fs. Ok (body (fs ++ others (map_entries_of b) (map_entries_of a)))) (rest (map_entries_of b) kept)
    (λ fs summed. body_kept a (map_entries_of b) fs distinct apart kept summed)
map_kept at a each _ distinct whole rest = tt

met_kept : (value : Meaning) (add : Meaning → Result Meaning Fault) (o : Option Meaning) → HasDistinctNames value
    → IfSome o HasDistinctNames
    → ((w : Meaning) → HasDistinctNames w → IfOk (add w) HasDistinctNames)
    → IfOk (combined_value value add o) HasDistinctNames
met_kept value add None kept other rest = kept
met_kept value add (Some w) kept other rest = rest w other

mutual
  sum_kept : (a : Meaning) (at : Place) (b : Meaning) → HasDistinctNames a → HasDistinctNames b
      → IfOk (sum at a b) HasDistinctNames
  sum_kept (Truth a) at b first second = tt
  sum_kept (Number a) at b first second = number_kept at a b
  sum_kept (Str a) at b first second = text_kept at a b
  sum_kept (Items a) at b first second = items_kept at a b
  sum_kept (Body a) at b first second =
      map_kept at a (sum_entries at a) b first.0 second (λ seconds kept. map_entries_kept a at seconds first.1 kept)

  map_entries_kept : (a : MapEntries) (at : Place) (seconds : List MapEntry) → EntriesHaveDistinctNames a
      → All Kept seconds
      → IfOk (sum_entries at a seconds) (Summed a)
  map_entries_kept no_map_entry at seconds first kept = (refl, All-nil Kept)
  map_entries_kept (map_entry_and name place value more) at seconds first kept =
      if_then HasDistinctNames (Summed (map_entry_and name place value more))
      (combined_value value (sum at value) (value_at name seconds)) _
      (met_kept value (sum at value) (value_at name seconds) first.0 (value_kept name seconds kept)
      (λ w other. sum_kept value at w first.0 other))
      (λ v whole. if_then (Summed more) (Summed (map_entry_and name place value more)) (sum_entries at more seconds) _
      (map_entries_kept more at seconds first.1 kept)
      (λ fs summed.
      (ap (λ l. name ∷ l) summed.0, All-cons Kept (record { name = name; at = place; value = v }) fs whole summed.1)))

-- expressions

abbrev Holds : List ℕ × Meaning → Type 0
Holds p = HasDistinctNames p.1

in_scope : (name : List ℕ) (scope : Pairs) → ScopeHasDistinctNames scope → IfSome (value_in scope name) HasDistinctNames
in_scope name [] kept = tt
in_scope name (p ∷ ps) kept = by (bytes_eq name p.0) (in_scope name ps (All-tail Holds p ps kept))
  where
    by : (b : Bool) → IfSome (value_in ps name) HasDistinctNames
        → IfSome (cond b (Some p.1) (value_in ps name)) HasDistinctNames
    by true rest = All-head Holds p ps kept
    by false rest = rest

known_kept : (at : Place) (name : List ℕ) (o : Option Meaning) → IfSome o HasDistinctNames
    → IfOk (known_value at name o) HasDistinctNames
known_kept at name None kept = tt
known_kept at name (Some v) kept = kept

atom_kept : (scope : Pairs) (at : Place) (atom : Atom) → ScopeHasDistinctNames scope
    → IfOk (val_atom scope at atom) HasDistinctNames
atom_kept scope at (tree.Truth b) kept = tt
atom_kept scope at (tree.Number n) kept = tt
atom_kept scope at (tree.Str text) kept = tt
atom_kept scope at (tree.Name name) kept = known_kept at name (value_in scope name) (in_scope name scope kept)

-- the entries of a map literal
abbrev Evaluated : Entries → List MapEntry → Type 0
Evaluated es fs = (names fs ≡ written.entry_names es) × All Kept fs

items_any : (r : Result (List Item) Fault) (at : Place) → IfOk (then_do r
    (λ l. then_do (list_within MOST_LIST_ITEMS (codes "list") at l) (λ m. Ok (Items m)))) HasDistinctNames
items_any r at =
    if_then (λ l. ⊤) HasDistinctNames r _ (anything r)
    (λ l any. if_then (λ m. ⊤) HasDistinctNames (list_within MOST_LIST_ITEMS (codes "list") at l) (λ m. Ok (Items m))
    (anything (list_within MOST_LIST_ITEMS (codes "list") at l)) (λ m also. tt))

nested_kept : (r : Result (List MapEntry) Fault) (at : Place) (es : Entries) → AreDistinct (written.entry_names es)
    → IfOk r (Evaluated es) → IfOk (then_do r (λ fs. nested_entries at fs)) (λ fs. HasDistinctNames (body fs))
nested_kept r at es distinct found =
    if_then (Evaluated es) (λ fs. HasDistinctNames (body fs)) r (λ fs. nested_entries at fs) found
    (λ fs e.
    if_test (λ gs. HasDistinctNames (body gs)) _ fs _ (whole_body fs (subst AreDistinct (sym e.0) distinct) e.1))

mutual
  val_kept : (t : Tree) (scope : Pairs) → ScopeHasDistinctNames scope → written.TreeHasDistinctNames t
      → IfOk (val scope t) HasDistinctNames
  val_kept (tree.Leaf at atom) scope kept distinct = atom_kept scope at atom kept
  val_kept (tree.Items at items) scope kept distinct = items_any (val_items scope items) at
  val_kept (tree.Body at entries) scope kept distinct =
      if_then (λ fs. HasDistinctNames (body fs)) HasDistinctNames
      (then_do (val_entries scope entries) (λ fs. nested_entries at fs)) (λ fs. Ok (body fs))
      (nested_kept (val_entries scope entries) at entries distinct.0
      (entries_kept entries scope kept distinct.1)) (λ fs whole. whole)
  val_kept (tree.Sum first terms) scope kept distinct =
      if_then HasDistinctNames HasDistinctNames (val scope first) (λ value. val_terms scope value terms)
      (val_kept first scope kept distinct.0)
      (λ value whole. terms_kept terms scope value kept distinct.1 whole)

  terms_kept : (ts : Terms) (scope : Pairs) (value : Meaning) → ScopeHasDistinctNames scope
      → written.TermsHaveDistinctNames ts → HasDistinctNames value → IfOk (val_terms scope value ts) HasDistinctNames
  terms_kept no_term scope value kept distinct whole = whole
  terms_kept (term_and at term more) scope value kept distinct whole =
      if_then HasDistinctNames HasDistinctNames (then_do (val scope term) (λ w. sum at value w))
      (λ s. val_terms scope s more)
      (if_then HasDistinctNames HasDistinctNames (val scope term) (λ w. sum at value w)
      (val_kept term scope kept distinct.0) (λ w other. sum_kept value at w whole other))
      (λ s summed. terms_kept more scope s kept distinct.1 summed)

  entries_kept : (es : Entries) (scope : Pairs) → ScopeHasDistinctNames scope → written.ValuesHaveDistinctNames es
      → IfOk (val_entries scope es) (Evaluated es)
  entries_kept no_entry scope kept distinct = (refl, All-nil Kept)
  entries_kept (entry_and name at value more) scope kept distinct =
      if_then HasDistinctNames (Evaluated (entry_and name at value more)) (val scope value) _
      (val_kept value scope kept distinct.0)
      (λ v whole. if_then (Evaluated more) (Evaluated (entry_and name at value more)) (val_entries scope more) _
      (entries_kept more scope kept distinct.1)
      (λ fs e. (ap (λ l. name ∷ l) e.0, All-cons Kept (record { name = name; at = at; value = v }) fs whole e.1)))

-- definitions

abbrev KnownKept : Known → Type 0
KnownKept k = ScopeHasDistinctNames k.scope × All ModuleHasDistinctNames k.modules

other_kept : (name : List ℕ) (v : Meaning) (ps : Pairs) → ScopeHasDistinctNames ps → HasDistinctNames v
    → ScopeHasDistinctNames (with_other ps name v)
other_kept name v [] kept whole = All-nil Holds
other_kept name v (p ∷ ps) kept whole = by (bytes_eq name p.0) (other_kept name v ps (All-tail Holds p ps kept) whole)
  where
    by : (b : Bool) → ScopeHasDistinctNames (with_other ps name v)
        → ScopeHasDistinctNames (if b then (p.0, v) ∷ ps else p ∷ with_other ps name v)
    by true rest = All-cons Holds (p.0, v) ps whole (All-tail Holds p ps kept)
    by false rest = All-cons Holds p (with_other ps name v) (All-head Holds p ps kept) rest

assignment_kept : (k : Known) (name : List ℕ) (at : Place) (e : Tree) (o : Option Meaning) → KnownKept k
    → written.TreeHasDistinctNames e → IfOk (after_assignment k name at e o) KnownKept
assignment_kept k name at e (Some old) kept distinct = tt
assignment_kept k name at e None kept distinct =
    if_then HasDistinctNames KnownKept (val k.scope e) (λ v. Ok (known_with k (with_new k.scope name v) e))
    (val_kept e k.scope kept.0 distinct)
    (λ v whole. (All-push Holds k.scope (name, v) kept.0 whole, kept.1))

extension_kept : (k : Known) (name : List ℕ) (at : Place) (e : Tree) (o : Option Meaning) → KnownKept k
    → written.TreeHasDistinctNames e → IfSome o HasDistinctNames → IfOk (after_extension k name at e o) KnownKept
extension_kept k name at e None kept distinct had = tt
extension_kept k name at e (Some old) kept distinct had = by (k.is_used name)
  where
    by : (b : Bool) → IfOk (if b then Err (fault_on AfterUse at name) else then_do (then_do (val k.scope e)
        (λ v. sum at old v)) (λ v. Ok (known_with k (with_other k.scope name v) e))) KnownKept
    by true = tt
    by false =
        if_then HasDistinctNames KnownKept (then_do (val k.scope e) (λ v. sum at old v))
        (λ v. Ok (known_with k (with_other k.scope name v) e))
        (if_then HasDistinctNames HasDistinctNames (val k.scope e) (λ v. sum at old v)
        (val_kept e k.scope kept.0 distinct) (λ w whole. sum_kept old at w had whole))
        (λ v whole. (other_kept name v k.scope kept.0 whole, kept.1))

own_extension_kept : (k : Known) (name : List ℕ) (at : Place) (e : Tree) (o : Option Meaning) → KnownKept k
    → written.TreeHasDistinctNames e → IfOk (after_own_extension k name at e o) KnownKept
own_extension_kept k name at e (Some inherited) kept distinct = tt
own_extension_kept k name at e None kept distinct =
    extension_kept k name at e (value_in k.scope name) kept distinct (in_scope name k.scope kept.0)

definition_kept : (inherited : Pairs) (k : Known) (d : Definition) → KnownKept k → DefinitionHasDistinctNames d
    → IfOk (after_definition inherited k d) KnownKept
definition_kept inherited k (Assigns name at e) kept distinct =
    assignment_kept k name at e (value_in k.scope name) kept distinct
definition_kept inherited k (Extends name at e) kept distinct =
    own_extension_kept k name at e (value_in inherited name) kept distinct
definition_kept inherited k (Declares kind at m) kept distinct =
    if_then (λ fs. HasDistinctNames (body fs)) KnownKept (val_map k.scope m.at m.entries) _
    (nested_kept (val_entries k.scope m.entries) m.at m.entries distinct.0
    (entries_kept m.entries k.scope kept.0 distinct.1))
    (λ fs whole.
    (kept.0, All-push ModuleHasDistinctNames k.modules (record { kind = kind; at = at; entries = fs }) kept.1 whole))

definitions_kept : (inherited : Pairs) (ds : List Definition) (k : Known) → KnownKept k
    → All DefinitionHasDistinctNames ds → IfOk (after_definitions inherited k ds) KnownKept
definitions_kept inherited [] k kept distinct = kept
definitions_kept inherited (d ∷ ds) k kept distinct =
    if_then KnownKept KnownKept (after_definition inherited k d) (λ next. after_definitions inherited next ds)
    (definition_kept inherited k d kept (All-head DefinitionHasDistinctNames d ds distinct))
    (λ next whole. definitions_kept inherited ds next whole (All-tail DefinitionHasDistinctNames d ds distinct))

abbrev Whole : List Raw × Pairs → Type 0
Whole v = All ModuleHasDistinctNames v.0 × ScopeHasDistinctNames v.1

pub maps_stay_distinct : (inherited : Pairs) (ds : List Definition) (values : List Raw × Pairs)
    → All DefinitionHasDistinctNames ds → ScopeHasDistinctNames inherited → file_evaluation inherited ds ≡ Ok values
    → All ModuleHasDistinctNames values.0 × ScopeHasDistinctNames values.1
maps_stay_distinct inherited ds values distinct kept is =
    IfOk-at_ok Whole is
    (if_then KnownKept Whole (after_definitions inherited (known_first inherited) ds) (λ k. Ok (k.modules, k.scope))
    (definitions_kept inherited ds (known_first inherited) (kept, All-nil ModuleHasDistinctNames) distinct) (λ k whole.
    (whole.1, whole.0)))
