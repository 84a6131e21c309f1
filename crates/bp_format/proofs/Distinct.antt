-- The names of each map differ with the list set, where they differed before.
use Rattle.std.proofs.Common.{rules, ◌≡◌, ℕ, zero, suc, true, List, [], ◌∷◌, Option, Some, None, sym, refl, ap, ◌∙◌}
use Rattle.std.proofs.Common.{subst, ⊎_elim, arith}
use Rattle.std.specs.Prelude.{◌≢◌, codes}
use Rattle.std.specs.List.{All, Contains}
use Rattle.std.specs.Str.{bytes_eq}
use Rattle.std.proofs.lemmas.Bool.{cases_Bool, cond-true, cond-false, cond_both}
use Rattle.std.proofs.lemmas.List.Elements.{All-nil, All-cons, Contains-get_or}
use Rattle.std.proofs.lemmas.List.Kept.{AllPairs-cons}
use Rattle.std.proofs.lemmas.Slice.Eq.{bytes_eq-Decides}
use Rattle.bp_parser.specs.Names.{entry_names, AreDistinct, TreeHasDistinctNames, ItemsHaveDistinctNames}
use Rattle.bp_parser.specs.Names.{TermsHaveDistinctNames, ValuesHaveDistinctNames, DefinitionHasDistinctNames}
use Rattle.bp_parser.specs.Trees.{Tree, Leaf, Items, Body, Sum, Trees, no_tree, tree_and, Terms, no_term, term_and}
use Rattle.bp_parser.specs.Trees.{Entries, no_entry, entry_and, Definition, Assigns, Extends, Declares}
use Rattle.bp_format.specs.WithoutPlaces.{tree_without_places, items_without_places, terms_without_places}
use Rattle.bp_format.specs.WithoutPlaces.{entries_without_places, definition_without_places, definitions_without_places}
use Rattle.bp_format.specs.Editing.{Wanted}
use Rattle.bp_format.specs.Setting.{list_expression, string_items, with_value, with_entry, set_by, set_entry}
use Rattle.bp_format.specs.Setting.{has_module_name, set_in_definition, first_definition, set_in}
use Rattle.bp_format.specs.Spots.{lookup}
use Rattle.bp_format.proofs.Flaws.{names_bare}

-- whether names differ has nothing to do with places
mutual
  to_bare : (x : Tree) → TreeHasDistinctNames x → TreeHasDistinctNames (tree_without_places x)
  to_bare (Leaf at a) d = d
  to_bare (Items at xs) d = to_bare_items xs d
  to_bare (Body at es) d = (subst AreDistinct (sym (names_bare es)) d.0, to_bare_values es d.1)
  to_bare (Sum x terms) d = (to_bare x d.0, to_bare_terms terms d.1)

  to_bare_items : (xs : Trees) → ItemsHaveDistinctNames xs → ItemsHaveDistinctNames (items_without_places xs)
  to_bare_items no_tree d = d
  to_bare_items (tree_and x xs) d = (to_bare x d.0, to_bare_items xs d.1)

  to_bare_terms : (xs : Terms) → TermsHaveDistinctNames xs → TermsHaveDistinctNames (terms_without_places xs)
  to_bare_terms no_term d = d
  to_bare_terms (term_and at x xs) d = (to_bare x d.0, to_bare_terms xs d.1)

  to_bare_values : (es : Entries) → ValuesHaveDistinctNames es → ValuesHaveDistinctNames (entries_without_places es)
  to_bare_values no_entry d = d
  to_bare_values (entry_and name at x es) d = (to_bare x d.0, to_bare_values es d.1)

mutual
  of_bare : (x : Tree) → TreeHasDistinctNames (tree_without_places x) → TreeHasDistinctNames x
  of_bare (Leaf at a) d = d
  of_bare (Items at xs) d = of_bare_items xs d
  of_bare (Body at es) d = (subst AreDistinct (names_bare es) d.0, of_bare_values es d.1)
  of_bare (Sum x terms) d = (of_bare x d.0, of_bare_terms terms d.1)

  of_bare_items : (xs : Trees) → ItemsHaveDistinctNames (items_without_places xs) → ItemsHaveDistinctNames xs
  of_bare_items no_tree d = d
  of_bare_items (tree_and x xs) d = (of_bare x d.0, of_bare_items xs d.1)

  of_bare_terms : (xs : Terms) → TermsHaveDistinctNames (terms_without_places xs) → TermsHaveDistinctNames xs
  of_bare_terms no_term d = d
  of_bare_terms (term_and at x xs) d = (of_bare x d.0, of_bare_terms xs d.1)

  of_bare_values : (es : Entries) → ValuesHaveDistinctNames (entries_without_places es) → ValuesHaveDistinctNames es
  of_bare_values no_entry d = d
  of_bare_values (entry_and name at x es) d = (of_bare x d.0, of_bare_values es d.1)

def_to_bare : (d : Definition) → DefinitionHasDistinctNames d → DefinitionHasDistinctNames (definition_without_places d)
def_to_bare (Assigns name at x) h = to_bare x h
def_to_bare (Extends name at x) h = to_bare x h
def_to_bare (Declares kind at m) h = to_bare (Body m.at m.entries) h

def_of_bare : (d : Definition) → DefinitionHasDistinctNames (definition_without_places d) → DefinitionHasDistinctNames d
def_of_bare (Assigns name at x) h = of_bare x h
def_of_bare (Extends name at x) h = of_bare x h
def_of_bare (Declares kind at m) h = of_bare (Body m.at m.entries) h

first_of : (d : Definition) (ds : List Definition) → All DefinitionHasDistinctNames (d ∷ ds)
    → DefinitionHasDistinctNames d
first_of d ds h = h 0 d (omega arith)

others_of : (d : Definition) (ds : List Definition) → All DefinitionHasDistinctNames (d ∷ ds)
    → All DefinitionHasDistinctNames ds
others_of d ds h = λ i e within. h (suc i) e (omega arith)

-- definitions that are the same but for places
pub distinct_alike : (ds es : List Definition) → definitions_without_places ds ≡ definitions_without_places es
    → All DefinitionHasDistinctNames ds → All DefinitionHasDistinctNames es
distinct_alike ds [] same h = All-nil DefinitionHasDistinctNames
distinct_alike [] (e ∷ es) same h = absurd cc
distinct_alike (d ∷ ds) (e ∷ es) same h =
    let head : definition_without_places d ≡ definition_without_places e = cc in
    let rest : definitions_without_places ds ≡ definitions_without_places es = cc in
    All-cons DefinitionHasDistinctNames e es
    (def_of_bare e (subst DefinitionHasDistinctNames head (def_to_bare d (first_of d ds h))))
    (distinct_alike ds es rest (others_of d ds h))

-- a list of strings has no map
strings_distinct : (xs : List (List ℕ)) → ItemsHaveDistinctNames (string_items xs)
strings_distinct [] = tt
strings_distinct (x ∷ xs) = (tt, strings_distinct xs)

-- the value of a name is another: the names are those
names_kept : (name : List ℕ) (x : Tree) (es : Entries) → entry_names (with_value name x es) ≡ entry_names es
names_kept name x no_entry = refl
names_kept name x (entry_and other at y es) =
    ap (λ l. other ∷ l) (cond_both (bytes_eq other name) _ _ (λ (p : Tree × Entries). entry_names p.1 ≡ entry_names es)
    (λ e. refl) (λ e. names_kept name x es))

values_kept : (name : List ℕ) (x : Tree) (es : Entries) → TreeHasDistinctNames x → ValuesHaveDistinctNames es
    → ValuesHaveDistinctNames (with_value name x es)
values_kept name x no_entry d h = tt
values_kept name x (entry_and other at y es) d h =
    cond_both (bytes_eq other name) _ _ (λ (p : Tree × Entries). TreeHasDistinctNames p.0 × ValuesHaveDistinctNames p.1)
    (λ e. (d, h.1)) (λ e. (h.0, values_kept name x es d h.1))

same_test : (a b : List ℕ) → a ≡ b → bytes_eq a b ≡ true
same_test a b e = search (rules, bytes_eq-Decides)

no_value : (y : Tree) → Some y ≡ None → ⊥
no_value y e = cc

-- a name that isn't there
absent : (name : List ℕ) (es : Entries) → lookup name es ≡ None → Contains (entry_names es) name → ⊥
absent name no_entry none c = let within = c.1 in omega arith
absent name (entry_and other at y es) none (zero, within, same) =
    no_value y (sym (cond-true (bytes_eq other name) _ _ (same_test other name same)) ∙ none)
absent name (entry_and other at y es) none (suc k, within, same) =
    ⊎_elim
    (λ yes. no_value y (sym (cond-true (bytes_eq other name) _ _ yes) ∙ none))
    (λ no'. absent name es (sym (cond-false (bytes_eq other name) _ _ no') ∙ none) (k, omega arith, same))
    (cases_Bool (bytes_eq other name))

one_behind : (n : List ℕ) (names : List (List ℕ)) (m : List ℕ) → Contains names m → Contains (n ∷ names) m
one_behind n names m c = (suc c.0, omega (arith, c.1), c.2)

past : (n : List ℕ) (names : List (List ℕ)) (m : List ℕ) → (n ≡ m → ⊥) → Contains (n ∷ names) m → Contains names m
past n names m other (zero, within, same) = absurd (other same)
past n names m other (suc k, within, same) = (k, omega arith, same)

-- a name more
contains_more : (name property : List ℕ) (x : Tree) (es : Entries) (m : List ℕ)
    → Contains (entry_names (with_entry name property x es)) m → (property ≡ m → ⊥) → Contains (entry_names es) m
contains_more name property x no_entry m c other = c
contains_more name property x (entry_and n at y es) m (zero, within, same) other = (zero, omega arith, same)
contains_more name property x (entry_and n at y es) m (suc k, within, same) other =
    cond_both (bytes_eq n name) _ _
    (λ (p : Tree × Entries). Contains (entry_names p.1) m → Contains (n ∷ entry_names es) m)
    (λ e c. one_behind n (entry_names es) m (past property (entry_names es) m other c))
    (λ e c. one_behind n (entry_names es) m (contains_more name property x es m c other))
    (k, omega arith, same)

-- the first of distinct names is none of the others
apart : (n : List ℕ) (names : List (List ℕ)) → AreDistinct (n ∷ names) → Contains names n → ⊥
apart n names d c = d 0 (suc c.0) n (omega arith) (omega (arith, c.1)) (sym c.2)

others_distinct : (n : List ℕ) (names : List (List ℕ)) → AreDistinct (n ∷ names) → AreDistinct names
others_distinct n names d = λ i j e less within. d (suc i) (suc j) e (omega arith) (omega arith)

distinct_cons : (n : List ℕ) (names : List (List ℕ)) → (Contains names n → ⊥) → AreDistinct names
    → AreDistinct (n ∷ names)
distinct_cons n names new d =
    AllPairs-cons (λ a b. a ≢ b) n names
    (λ k e within same. new (subst (Contains names) (sym same) (Contains-get_or names k e within))) d

one_more_distinct : (name property : List ℕ) (x : Tree) (es : Entries) → (Contains (entry_names es) property → ⊥)
    → AreDistinct (entry_names es) → AreDistinct (entry_names (with_entry name property x es))
one_more_distinct name property x no_entry new d = d
one_more_distinct name property x (entry_and n at y es) new d =
    let not_later : Contains (entry_names es) property → ⊥ = λ c. new (suc c.0, omega (arith, c.1), c.2) in
    let not_here : property ≡ n → ⊥ = λ e. new (0, omega arith, sym e) in
    let rest = others_distinct n (entry_names es) d in
    let lone = apart n (entry_names es) d in
    cond_both (bytes_eq n name) _ _ (λ (p : Tree × Entries). AreDistinct (n ∷ entry_names p.1))
    (λ e. distinct_cons n (property ∷ entry_names es) (λ c. split c lone not_here)
    (distinct_cons property (entry_names es) not_later rest))
    (λ e. distinct_cons n (entry_names (with_entry name property x es))
    (λ c. lone (contains_more name property x es n c not_here)) (one_more_distinct name property x es not_later rest))
  where
    split : Contains (property ∷ entry_names es) n → (Contains (entry_names es) n → ⊥) → (property ≡ n → ⊥) → ⊥
    split (zero, w, e) a b = b e
    split (suc k, w, e) a b = a (k, omega arith, e)

one_more_values : (name property : List ℕ) (x : Tree) (es : Entries) → TreeHasDistinctNames x
    → ValuesHaveDistinctNames es → ValuesHaveDistinctNames (with_entry name property x es)
one_more_values name property x no_entry d h = tt
one_more_values name property x (entry_and n at y es) d h =
    cond_both (bytes_eq n name) _ _ (λ (p : Tree × Entries). TreeHasDistinctNames p.0 × ValuesHaveDistinctNames p.1)
    (λ e. (h.0, (d, h.1))) (λ e. (h.0, one_more_values name property x es d h.1))

set_by_distinct : (property : List ℕ) (x : Tree) (es : Entries) (o : Option Tree) → lookup property es ≡ o
    → TreeHasDistinctNames x → AreDistinct (entry_names es) × ValuesHaveDistinctNames es
    → AreDistinct (entry_names (set_by property x o es)) × ValuesHaveDistinctNames (set_by property x o es)
set_by_distinct property x es None is d h = (
  one_more_distinct (codes "name") property x es (absent property es is) h.0,
  one_more_values (codes "name") property x es d h.1,
)
set_by_distinct property x es (Some y) is d h =
    (subst AreDistinct (sym (names_kept property x es)) h.0, values_kept property x es d h.1)

def_distinct : (w : Wanted) (d e : Definition) → set_in_definition w d ≡ Some e → DefinitionHasDistinctNames d
    → DefinitionHasDistinctNames e
def_distinct w (Assigns name at x) e is h = absurd cc
def_distinct w (Extends name at x) e is h = absurd cc
def_distinct w (Declares kind at m) e is h =
    let new : Definition =
    Declares kind at (record { at = m.at; entries = set_entry w.property (list_expression w.items) m.entries }) in
    let here : DefinitionHasDistinctNames new = set_by_distinct w.property (list_expression w.items) m.entries
    (lookup w.property m.entries) refl (strings_distinct w.items) h in
    ⊎_elim
    (λ yes.
    subst DefinitionHasDistinctNames (one new e (sym (cond-true (has_module_name w.name m.entries) _ _ yes) ∙ is)) here)
    (λ other. absurd (never e (sym (cond-false (has_module_name w.name m.entries) _ _ other) ∙ is)))
    (cases_Bool (has_module_name w.name m.entries))
  where
    one : (a b : Definition) → Some a ≡ Some b → a ≡ b
    one a b e' = cc

    never : (b : Definition) → None ≡ Some b → ⊥
    never b e' = cc

first_distinct : (w : Wanted) (d : Definition) (ds : List Definition) (o : Option Definition)
    → set_in_definition w d ≡ o → All DefinitionHasDistinctNames (d ∷ ds) → All DefinitionHasDistinctNames (set_in w ds)
    → All DefinitionHasDistinctNames (first_definition o d ds (set_in w ds))
first_distinct w d ds None is h more = All-cons DefinitionHasDistinctNames d (set_in w ds) (first_of d ds h) more
first_distinct w d ds (Some e) is h more =
    All-cons DefinitionHasDistinctNames e ds (def_distinct w d e is (first_of d ds h)) (others_of d ds h)

pub set_distinct : (w : Wanted) (ds : List Definition) → All DefinitionHasDistinctNames ds
    → All DefinitionHasDistinctNames (set_in w ds)
set_distinct w [] h = h
set_distinct w (d ∷ ds) h = first_distinct w d ds (set_in_definition w d) refl h (set_distinct w ds (others_of d ds h))
