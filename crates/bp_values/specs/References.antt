-- Which variables an expression refers to.
use Rattle.std.specs.Prelude.{ℕ, Bool, false, ◌||◌, List}
use Rattle.std.specs.Str.{bytes_eq}
use Rattle.bp_parser.specs.Trees as tree
use Rattle.bp_parser.specs.Trees.{Tree, Atom, Trees, Terms, Entries, no_tree, tree_and, no_term, term_and, no_entry}
use Rattle.bp_parser.specs.Trees.{entry_and}

-- The atom is the name itself.
abbrev pub is_atom : List ℕ → Atom → Bool
is_atom name (tree.Name other) = bytes_eq name other
is_atom name _ = false

abbrev mutual
  -- The name is in the expression, in whatever part of it.
  pub is_in : List ℕ → Tree → Bool
  is_in name (tree.Leaf at atom) = is_atom name atom
  is_in name (tree.Items at items) = is_in_items name items
  is_in name (tree.Body at entries) = is_in_entries name entries
  is_in name (tree.Sum first terms) = is_in name first || is_in_terms name terms

  -- The name is in one of the items.
  pub is_in_items : List ℕ → Trees → Bool
  is_in_items name no_tree = false
  is_in_items name (tree_and item more) = is_in name item || is_in_items name more

  -- The name is in one of the further terms.
  pub is_in_terms : List ℕ → Terms → Bool
  is_in_terms name no_term = false
  is_in_terms name (term_and at term more) = is_in name term || is_in_terms name more

  -- The name is in the value of one of the entries.
  pub is_in_entries : List ℕ → Entries → Bool
  is_in_entries name no_entry = false
  is_in_entries name (entry_and key at value more) = is_in name value || is_in_entries name more
