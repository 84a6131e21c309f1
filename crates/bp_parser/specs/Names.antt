-- The names of the maps of a tree, and that those of one map differ.
use Rattle.std.specs.Prelude.{◌≢◌, ℕ, ⊤, List, [], ◌∷◌}
use Rattle.std.specs.List.{All, AllPairs}
use Rattle.bp_parser.specs.Trees.{Tree, Leaf, Items, Body, Sum, Trees, no_tree, tree_and, Terms, no_term, term_and}
use Rattle.bp_parser.specs.Trees.{Entries, no_entry, entry_and, Definition, Assigns, Extends, Declares, File}

-- The names of a map's entries, in their order.
abbrev pub entry_names : Entries → List (List ℕ)
entry_names no_entry = []
entry_names (entry_and name at x es) = name ∷ entry_names es

-- No two of the names are equal.
abbrev pub AreDistinct : List (List ℕ) → Type 0
AreDistinct names = AllPairs (λ a b. a ≢ b) names

abbrev mutual
  -- The names of each map in an expression differ, all the way down.
  pub TreeHasDistinctNames : Tree → Type 0
  TreeHasDistinctNames (Leaf at atom) = ⊤
  TreeHasDistinctNames (Items at xs) = ItemsHaveDistinctNames xs
  TreeHasDistinctNames (Body at es) = AreDistinct (entry_names es) × ValuesHaveDistinctNames es
  TreeHasDistinctNames (Sum x terms) = TreeHasDistinctNames x × TermsHaveDistinctNames terms

  -- The names of each map in the items of a list differ, all the way down.
  pub ItemsHaveDistinctNames : Trees → Type 0
  ItemsHaveDistinctNames no_tree = ⊤
  ItemsHaveDistinctNames (tree_and x xs) = TreeHasDistinctNames x × ItemsHaveDistinctNames xs

  -- The names of each map in the further terms of a sum differ, all the way down.
  pub TermsHaveDistinctNames : Terms → Type 0
  TermsHaveDistinctNames no_term = ⊤
  TermsHaveDistinctNames (term_and at x terms) = TreeHasDistinctNames x × TermsHaveDistinctNames terms

  -- The names of each map in the values of entries differ, all the way down.
  pub ValuesHaveDistinctNames : Entries → Type 0
  ValuesHaveDistinctNames no_entry = ⊤
  ValuesHaveDistinctNames (entry_and name at x es) = TreeHasDistinctNames x × ValuesHaveDistinctNames es

-- The names of each map in a definition differ.
abbrev pub DefinitionHasDistinctNames : Definition → Type 0
DefinitionHasDistinctNames (Assigns name at x) = TreeHasDistinctNames x
DefinitionHasDistinctNames (Extends name at x) = TreeHasDistinctNames x
DefinitionHasDistinctNames (Declares kind at m) = TreeHasDistinctNames (Body m.at m.entries)

-- The names of each map in a file differ.
abbrev pub FileHasDistinctNames : File → Type 0
FileHasDistinctNames tree = All DefinitionHasDistinctNames tree.defs
