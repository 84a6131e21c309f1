-- What an expression is worth in a scope: a value, or its first fault in the order of evaluation.
-- Source: Soong reference, "Android.bp file format", variables and operators.
use Rattle.std.specs.Prelude.{ℕ, List, [], ◌∷◌, codes, Option, None, Some, Result, Ok, Err}
use Rattle.bp_faults.specs.declared.place.Place.{Place}
use Rattle.bp_faults.specs.declared.place.Item.{Item}
use Rattle.bp_faults.specs.declared.fault.Fault.{Fault}
use Rattle.bp_faults.specs.declared.kind.FaultKind.TheVariants.{UnknownVariable, WrongType}
use Rattle.bp_faults.specs.declared.limits.TheConstants.{MOST_LIST_ITEMS}
use Rattle.bp_faults.specs.Answers.{then_do}
use Rattle.bp_faults.specs.Faults.{fault_on}
use Rattle.bp_parser.specs.Trees as tree
use Rattle.bp_parser.specs.Trees.{Tree, Atom, Trees, Terms, Entries, no_tree, tree_and, no_term, term_and}
use Rattle.bp_parser.specs.Trees.{no_entry, first_place}
use Rattle.bp_parser.specs.Trees.{entry_and}
use Rattle.bp_values.specs.Values.{Meaning, Truth, Number, Str, Items, MapEntry, body}
use Rattle.bp_values.specs.Depths.{nested_entries}
use Rattle.bp_values.specs.Scopes.{Pairs, value_in}
use Rattle.bp_values.specs.Sums.{sum, list_within}

-- The value of a name, where it has one.
abbrev pub known_value : Place → List ℕ → Option Meaning → Result Meaning Fault
known_value at name None = Err (fault_on UnknownVariable at name)
known_value at name (Some value) = Ok value

-- An item of a list must be a string.
abbrev pub item_of : Place → Meaning → Result Item Fault
item_of at (Str text) = Ok (record { text = text; at = at })
item_of at value = Err (fault_on WrongType at (codes "list item"))

-- The value of an atom.
abbrev pub val_atom : Pairs → Place → Atom → Result Meaning Fault
val_atom scope at (tree.Truth b) = Ok (Truth b)
val_atom scope at (tree.Number n) = Ok (Number n)
val_atom scope at (tree.Str text) = Ok (Str text)
val_atom scope at (tree.Name name) = known_value at name (value_in scope name)

abbrev mutual
  -- The value of an expression: a list is tested for its length, and a map for its depth, once all that stands in it
  -- has its value.
  pub val : Pairs → Tree → Result Meaning Fault
  val scope (tree.Leaf at atom) = val_atom scope at atom
  val scope (tree.Items at items) =
      then_do (val_items scope items)
      (λ l. then_do (list_within MOST_LIST_ITEMS (codes "list") at l) (λ m. Ok (Items m)))
  val scope (tree.Body at entries) =
      then_do (then_do (val_entries scope entries) (λ fs. nested_entries at fs)) (λ fs. Ok (body fs))
  val scope (tree.Sum first terms) = then_do (val scope first) (λ value. val_terms scope value terms)

  -- The items are evaluated in turn, and each is checked to be a string before the next is evaluated.
  pub val_items : Pairs → Trees → Result (List Item) Fault
  val_items scope no_tree = Ok []
  val_items scope (tree_and item more) =
      then_do (then_do (val scope item) (λ v. item_of (first_place item) v))
      (λ i. then_do (val_items scope more) (λ l. Ok (i ∷ l)))

  -- Each term in turn is evaluated and then added to the value so far.
  pub val_terms : Pairs → Meaning → Terms → Result Meaning Fault
  val_terms scope value no_term = Ok value
  val_terms scope value (term_and at term more) =
      then_do (then_do (val scope term) (λ w. sum at value w)) (λ s. val_terms scope s more)

  -- The entries are evaluated in turn, and each keeps its name and its place.
  pub val_entries : Pairs → Entries → Result (List MapEntry) Fault
  val_entries scope no_entry = Ok []
  val_entries scope (entry_and name at value more) =
      then_do (val scope value) (λ v. then_do (val_entries scope more)
      (λ fs. Ok ((record { name = name; at = at; value = v }) ∷ fs)))

-- The entries of a map literal.
abbrev pub val_map : Pairs → Place → Entries → Result (List MapEntry) Fault
val_map scope at entries = then_do (val_entries scope entries) (λ fs. nested_entries at fs)
