-- Trees without where they lie in memory. Two trees of the code are equal where these are.
use Rattle.std.specs.Prelude.{ℕ, ℤ, Bool, List, [], ◌∷◌, map}
use Rattle.bp_faults.specs.declared.place.Place.{Place}
use Rattle.bp_parser.specs.declared.tree.Def.{Def}
use Rattle.bp_parser.specs.declared.tree.Def.TheVariants as def
use Rattle.bp_parser.specs.declared.tree.Expr.{Expr}
use Rattle.bp_parser.specs.declared.tree.Expr.TheOpen.{Expr-F, EntryExpr-F, MapExpr-F}
use Rattle.bp_parser.specs.declared.tree.Expr.TheOpen as layer
use Rattle.bp_parser.specs.declared.tree.EntryExpr.{EntryExpr}
use Rattle.bp_parser.specs.declared.tree.MapExpr.{MapExpr}
use Rattle.bp_parser.specs.declared.tree.Expr.TheFolds.{fold-Expr, fold-EntryExpr, fold-MapExpr}
use Rattle.bp_parser.specs.declared.tree.FileTree.{FileTree}

-- What a single token may be: a boolean, an integer, a string or the name of a variable.
pub data Atom : Type 0 where
  Truth : Bool → Atom
  Number : ℤ → Atom
  Str : List ℕ → Atom
  Name : List ℕ → Atom

mutual
  -- An expression is an atom, a list, a map, or a sum of a first term and others, and is at the place of its first
  -- token.
  pub data Tree : Type 0 where
    Leaf : Place → Atom → Tree
    Items : Place → Trees → Tree
    Body : Place → Entries → Tree
    Sum : Tree → Terms → Tree

  -- The items of a list are expressions, in order.
  pub data Trees : Type 0 where
    no_tree : Trees
    tree_and : Tree → Trees → Trees

  -- The further terms of a sum stand in order, each with the place of its `+`.
  pub data Terms : Type 0 where
    no_term : Terms
    term_and : Place → Tree → Terms → Terms

  -- The entries of a map stand in order, each with its name, the name's place, and its value.
  pub data Entries : Type 0 where
    no_entry : Entries
    entry_and : List ℕ → Place → Tree → Entries → Entries

-- An entry of a map: its name, the name's place, and its value.
pub record Entry : Type 0 where
  pub name : List ℕ
  pub at : Place
  pub value : Tree

-- A map literal: its place and its entries.
pub record Map : Type 0 where
  pub at : Place
  pub entries : Entries

-- A definition, at the place of its name: `name = value`, `name += value` or `kind { .. }`.
pub data Definition : Type 0 where
  Assigns : List ℕ → Place → Tree → Definition
  Extends : List ℕ → Place → Tree → Definition
  Declares : List ℕ → Place → Map → Definition

-- A file: its number and its definitions.
pub record File : Type 0 where
  pub file : ℕ
  pub defs : List Definition

-- Where an expression stands: its first token.
abbrev pub first_place : Tree → Place
first_place (Leaf at atom) = at
first_place (Items at items) = at
first_place (Body at entries) = at
first_place (Sum first terms) = first_place first

-- These trees, and then others.
abbrev pub trees_then : List Tree → Trees → Trees
trees_then [] more = more
trees_then (t ∷ ts) more = tree_and t (trees_then ts more)

-- The same of terms.
abbrev pub terms_then : List (Place × Tree) → Terms → Terms
terms_then [] more = more
terms_then (t ∷ ts) more = term_and t.0 t.1 (terms_then ts more)

-- The same of entries.
abbrev pub entries_then : List Entry → Entries → Entries
entries_then [] more = more
entries_then (e ∷ es) more = entry_and e.name e.at e.value (entries_then es more)

-- One layer of an expression of the code, with the tree of each part in its place.
abbrev pub expr_step : Expr-F Tree Entry Map → Tree
expr_step (layer.Bool at b) = Leaf at (Truth b)
expr_step (layer.Int at n) = Leaf at (Number n)
expr_step (layer.Str at text) = Leaf at (Str text)
expr_step (layer.Name at text) = Leaf at (Name text)
expr_step (layer.List at v) = Items at (trees_then v.items no_tree)
expr_step (layer.Map m) = Body m.at m.entries
expr_step (layer.Sum b v) = Sum b.value (terms_then v.items no_term)

-- One layer of an entry.
abbrev pub entry_step : EntryExpr-F Tree Entry Map → Entry
entry_step e = record { name = e.name; at = e.at; value = e.value }

-- One layer of a map literal.
abbrev pub map_step : MapExpr-F Tree Entry Map → Map
map_step m = record { at = m.at; entries = entries_then m.entries.items no_entry }

-- The tree that an expression of the code is.
abbrev pub tree_of : Expr → Tree
tree_of = fold-Expr Tree Entry Map expr_step entry_step map_step

-- The entry that an entry of the code is.
abbrev pub entry_of : EntryExpr → Entry
entry_of = fold-EntryExpr Tree Entry Map expr_step entry_step map_step

-- The map literal that one of the code is.
abbrev pub map_of : MapExpr → Map
map_of = fold-MapExpr Tree Entry Map expr_step entry_step map_step

-- A term of a sum, with the place of its `+`.
abbrev pub term_of : Place × Expr → Place × Tree
term_of t = (t.0, tree_of t.1)

-- The definition that one of the code is.
abbrev pub definition_of : Def → Definition
definition_of (def.Assign name at value) = Assigns name at (tree_of value)
definition_of (def.Extend name at value) = Extends name at (tree_of value)
definition_of (def.Module kind at body) = Declares kind at (map_of body)

-- How contracts see a file tree.
abbrev pub tree_view : FileTree → File
tree_view tree = record { file = tree.file; defs = map definition_of tree.defs.items }
