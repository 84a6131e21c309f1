-- Tokens, words and trees without their places.
use Rattle.std.specs.Prelude.{ℕ, List, map}
use Rattle.bp_faults.specs.declared.place.Place.{Place}
use Rattle.bp_lexer.specs.declared.token.Token.{Token}
use Rattle.bp_lexer.specs.declared.token.TokenKind.{TokenKind}
use Rattle.bp_lexer.specs.Meaning.{word_of}
use Rattle.bp_parser.specs.Trees.{Tree, Leaf, Items, Body, Sum, Trees, no_tree, tree_and, Terms, no_term, term_and}
use Rattle.bp_parser.specs.Trees.{Entries, no_entry, entry_and, Definition, Assigns, Extends, Declares}
use Rattle.bp_parser.specs.Words.{Word}

-- The kind and the text of a token of a text.
abbrev pub token_content : List ℕ → Token → TokenKind × List ℕ
token_content text t = (t.kind, word_of text t)

-- The kinds and the texts of tokens.
abbrev pub token_contents : List ℕ → List Token → List (TokenKind × List ℕ)
token_contents text ts = map (token_content text) ts

-- The kind and the text of a word.
abbrev pub word_content : Word → TokenKind × List ℕ
word_content w = (w.kind, w.text)

-- The kinds and the texts of words.
abbrev pub word_contents : List Word → List (TokenKind × List ℕ)
word_contents ws = map word_content ws

-- Every place is this one.
abbrev pub origin : Place
origin = record { file = 0; line = 0; col = 0 }

abbrev mutual
  -- An expression without its places.
  pub tree_without_places : Tree → Tree
  tree_without_places (Leaf at atom) = Leaf origin atom
  tree_without_places (Items at xs) = Items origin (items_without_places xs)
  tree_without_places (Body at es) = Body origin (entries_without_places es)
  tree_without_places (Sum x terms) = Sum (tree_without_places x) (terms_without_places terms)

  -- The same of items.
  pub items_without_places : Trees → Trees
  items_without_places no_tree = no_tree
  items_without_places (tree_and x xs) = tree_and (tree_without_places x) (items_without_places xs)

  -- The same of terms.
  pub terms_without_places : Terms → Terms
  terms_without_places no_term = no_term
  terms_without_places (term_and at x terms) = term_and origin (tree_without_places x) (terms_without_places terms)

  -- The same of entries.
  pub entries_without_places : Entries → Entries
  entries_without_places no_entry = no_entry
  entries_without_places (entry_and name at x es) =
      entry_and name origin (tree_without_places x) (entries_without_places es)

-- A definition without its places.
abbrev pub definition_without_places : Definition → Definition
definition_without_places (Assigns name at x) = Assigns name origin (tree_without_places x)
definition_without_places (Extends name at x) = Extends name origin (tree_without_places x)
definition_without_places (Declares kind at m) =
    Declares kind origin (record { at = origin; entries = entries_without_places m.entries })

-- Definitions without their places.
abbrev pub definitions_without_places : List Definition → List Definition
definitions_without_places ds = map definition_without_places ds
