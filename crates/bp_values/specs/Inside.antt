-- In what words the functions inside the crate say what they keep. No public contract speaks of it.
use Rattle.std.specs.Prelude.{◌≡◌, ◌≤◌, ℕ, Bool, true, not, cond, ◌&&◌, ◌||◌, is_some, List, [], ◌∷◌, map, filter, suc}
use Rattle.std.specs.Prelude.{Option, None, Some, option_map, if◌then◌else◌}
use Rattle.std.specs.Str.{bytes_eq}
use Rattle.bp_names.specs.Meaning.{knows, number_of}
use Rattle.bp_parser.specs.Trees as tree
use Rattle.bp_parser.specs.Trees.{Tree, Trees, no_tree, tree_and, Terms, no_term, term_and, Entries, no_entry}
use Rattle.bp_parser.specs.Trees.{entry_and, Definition, Assigns, Extends, Declares}
use Rattle.bp_values.specs.References.{is_atom}
use Rattle.bp_values.specs.declared.file.State.{State}
use Rattle.bp_values.specs.declared.marks.Marks.{Marks}
use Rattle.bp_values.specs.declared.map_sum.MapSum.{MapSum}
use Rattle.bp_values.specs.Values.{Meaning, MapEntry, map_entry_of, body}
use Rattle.bp_values.specs.Scopes.{Pairs, pairs_of, outer_pairs, count_of, value_in}
use Rattle.bp_values.specs.Sums.{has_name}
use Rattle.bp_values.specs.MapIndices.{IndicesOf}
use Rattle.bp_values.specs.KeptIndices.{kept_for}
use Rattle.bp_values.specs.Meaning.{Known, raw_of}

-- A name is noted where the file has referred to it, and also where the file never extends it.
abbrev pub is_noted : Marks → List ℕ → Bool
is_noted marks name = not (knows marks.extended name) || knows marks.met name

-- A name is extended by one of these definitions, or was before.
abbrev pub is_extended_or : Bool → List ℕ → List Definition → Bool
is_extended_or b name [] = b
is_extended_or b name (Assigns other at e ∷ ds) = is_extended_or b name ds
is_extended_or b name (Extends other at e ∷ ds) = is_extended_or (cond (bytes_eq other name) true b) name ds
is_extended_or b name (Declares kind at m ∷ ds) = is_extended_or b name ds

-- What a file knows. The names that it never extends count as used.
abbrev pub known_of : State → Known
known_of s = record { scope = pairs_of s.scope; is_used = is_noted s.used; modules = map raw_of s.modules.items }

-- What a file inherits.
abbrev pub inherited_by : State → Pairs
inherited_by s = outer_pairs s.inherited s.scope

-- What holds before and behind each definition.
pub record IsConsistent (s : State) : Type 0 where
  -- The scope has the names that are inherited.
  pub within : s.inherited ≤ count_of s.scope
  -- The indices that are kept are those of the names of the file's variables.
  pub indices : (name : List ℕ) → IndicesOf (kept_for s.kept name) (value_in (pairs_of s.scope) name)

-- The index of the first entry of that name.
abbrev pub index_of : List ℕ → List MapEntry → Option ℕ
index_of name [] = None
index_of name (f ∷ fs) = if bytes_eq name f.name then Some 0 else option_map suc (index_of name fs)

-- The table gives each name's first index in the list.
pub record IsIndex (table : List (List ℕ × ℕ)) (fs : List MapEntry) : Type 0 where
  pub indices : (name : List ℕ) → number_of table name ≡ index_of name fs

-- The names are those of the list that have an index.
pub record HasMet (names : List (List ℕ)) (table : List (List ℕ × ℕ)) (fs : List MapEntry) : Type 0 where
  pub met : (name : List ℕ) → knows names name ≡ (has_name fs name && is_some (number_of table name))

-- The entries whose names are not among these.
abbrev pub not_among : List (List ℕ) → List MapEntry → List MapEntry
not_among names fs = filter (λ f. not (knows names f.name)) fs

-- The map that a sum of maps is so far.
abbrev pub sum_so_far : MapSum → Meaning
sum_so_far total = body (map map_entry_of total.entries.items)

-- The indices that it knows are those of that map.
abbrev pub HasIndices : MapSum → Type 0
HasIndices total = IndicesOf total.indices (Some (sum_so_far total))

abbrev mutual
  -- A name is noted once those in an expression are, where it was noted before or is one of them.
  pub has_noted : Bool → List ℕ → Tree → Bool
  has_noted b name (tree.Leaf at atom) = b || is_atom name atom
  has_noted b name (tree.Items at items) = noted_items b name items
  has_noted b name (tree.Body at entries) = noted_entries b name entries
  has_noted b name (tree.Sum first terms) = noted_terms (has_noted b name first) name terms

  -- A name is noted once those in the items of a list are, where it was noted before or is one of them.
  pub noted_items : Bool → List ℕ → Trees → Bool
  noted_items b name no_tree = b
  noted_items b name (tree_and item more) = noted_items (has_noted b name item) name more

  -- A name is noted once those in the further terms of a sum are, where it was noted before or is one of them.
  pub noted_terms : Bool → List ℕ → Terms → Bool
  noted_terms b name no_term = b
  noted_terms b name (term_and at term more) = noted_terms (has_noted b name term) name more

  -- A name is noted once those in the values of entries are, where it was noted before or is one of them.
  pub noted_entries : Bool → List ℕ → Entries → Bool
  noted_entries b name no_entry = b
  noted_entries b name (entry_and key at value more) = noted_entries (has_noted b name value) name more
