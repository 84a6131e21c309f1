-- The grammar of Android.bp files, as a relation between words and trees.
-- Source: Soong reference, "Android.bp file format".
use Rattle.std.specs.Prelude.{◌≡◌, ℕ, ◌⊎◌, ⊤, false, List, [], ◌∷◌, Some}
use Rattle.bp_faults.specs.declared.place.Place.{Place}
use Rattle.bp_lexer.specs.declared.token.Punct.{Punct}
use Rattle.bp_lexer.specs.declared.token.Punct.TheVariants.{OpenBrace, CloseBrace, OpenBracket, CloseBracket, Colon}
use Rattle.bp_lexer.specs.declared.token.Punct.TheVariants.{Comma, Equal, PlusEqual, Plus}
use Rattle.bp_lexer.specs.declared.token.TokenKind.{TokenKind}
use Rattle.bp_lexer.specs.declared.token.TokenKind.TheVariants.{Ident, Punct as Mark}
use Rattle.bp_parser.specs.Trees.{Tree, Leaf, Items, Body, Sum, Trees, no_tree, tree_and, Terms, no_term, term_and}
use Rattle.bp_parser.specs.Trees.{Entries, no_entry, entry_and, Definition, Assigns, Extends, Declares}
use Rattle.bp_parser.specs.Words.{Word, is_truth, atom_of}

-- Each of these says what ts begins with, and that rest stands behind it.

-- A word of a kind, at a place.
abbrev pub IsWord : TokenKind → Place → List ℕ → List Word → List Word → Type 0
IsWord kind at text ts rest = ts ≡ record { kind = kind; at = at; text = text } ∷ rest

-- A punctuation mark at a place, and one anywhere.
abbrev pub IsMarkAt : Punct → Place → List Word → List Word → Type 0
IsMarkAt mark at ts rest = (text : List ℕ) × IsWord (Mark mark) at text ts rest

-- A punctuation mark, at any place.
abbrev pub IsMark : Punct → List Word → List Word → Type 0
IsMark mark ts rest = (at : Place) × IsMarkAt mark at ts rest

-- The expression is no sum.
abbrev pub IsPrim : Tree → Type 0
IsPrim (Leaf at atom) = ⊤
IsPrim (Items at xs) = ⊤
IsPrim (Body at es) = ⊤
IsPrim (Sum x terms) = ⊥

-- There is a term.
abbrev pub HasTerm : Terms → Type 0
HasTerm no_term = ⊥
HasTerm (term_and at x terms) = ⊤

abbrev mutual
  -- The words begin with the expression, by Expr = Prim { "+" Prim } and
  -- Prim = Ident | Int | Quoted | Raw | List | Map.
  pub Spells : Tree → List Word → List Word → Type 0
  Spells (Leaf at atom) ts rest =
      (kind : TokenKind) × (text : List ℕ) × IsWord kind at text ts rest × (atom_of kind text ≡ Some atom)
  Spells (Items at xs) ts rest = (inner : List Word) × IsMarkAt OpenBracket at ts inner × SpellsItems xs inner rest
  Spells (Body at es) ts rest = (inner : List Word) × IsMarkAt OpenBrace at ts inner × SpellsEntries es inner rest
  Spells (Sum x terms) ts rest =
      (mid : List Word) × IsPrim x × HasTerm terms × Spells x ts mid × SpellsTerms terms mid rest

  -- The words begin with the further terms of a sum, by { "+" Prim }.
  pub SpellsTerms : Terms → List Word → List Word → Type 0
  SpellsTerms no_term ts rest = ts ≡ rest
  SpellsTerms (term_and at x terms) ts rest =
      (next mid : List Word) × IsMarkAt Plus at ts next × IsPrim x × Spells x next mid × SpellsTerms terms mid rest

  -- Behind the bracket that opens a list, the words begin with its items and the bracket that closes it, by
  -- [ Expr { "," Expr } [ "," ] ] "]".
  pub SpellsItems : Trees → List Word → List Word → Type 0
  SpellsItems no_tree ts rest = IsMark CloseBracket ts rest
  SpellsItems (tree_and x xs) ts rest = (mid : List Word) × Spells x ts mid × SpellsMoreItems xs mid rest

  -- Behind an item, the words begin with the items that follow and the bracket that closes the list, by
  -- { "," Expr } [ "," ] "]".
  pub SpellsMoreItems : Trees → List Word → List Word → Type 0
  SpellsMoreItems no_tree ts rest =
      IsMark CloseBracket ts rest ⊎ ((next : List Word) × IsMark Comma ts next × IsMark CloseBracket next rest)
  SpellsMoreItems (tree_and x xs) ts rest =
      (next mid : List Word) × IsMark Comma ts next × Spells x next mid × SpellsMoreItems xs mid rest

  -- Behind the brace that opens a map, the words begin with its entries and the brace that closes it, by
  -- [ Entry { "," Entry } [ "," ] ] "}" and Entry = Ident ":" Expr.
  pub SpellsEntries : Entries → List Word → List Word → Type 0
  SpellsEntries no_entry ts rest = IsMark CloseBrace ts rest
  SpellsEntries (entry_and name at x es) ts rest =
      (colon next mid : List Word) × IsWord Ident at name ts colon × IsMark Colon colon next × Spells x next mid
      × SpellsMoreEntries es mid rest

  -- Behind an entry, the words begin with the entries that follow and the brace that closes the map, by
  -- { "," Entry } [ "," ] "}".
  pub SpellsMoreEntries : Entries → List Word → List Word → Type 0
  SpellsMoreEntries no_entry ts rest =
      IsMark CloseBrace ts rest ⊎ ((next : List Word) × IsMark Comma ts next × IsMark CloseBrace next rest)
  SpellsMoreEntries (entry_and name at x es) ts rest =
      (first colon next mid : List Word) × IsMark Comma ts first × IsWord Ident at name first colon
      × IsMark Colon colon next × Spells x next mid × SpellsMoreEntries es mid rest

-- The identifier that begins a definition is no boolean.
abbrev pub IsDefName : List ℕ → Place → List Word → List Word → Type 0
IsDefName name at ts rest = IsWord Ident at name ts rest × (is_truth name ≡ false)

-- The words begin with the definition, by Def = Ident "=" Expr | Ident "+=" Expr | Ident Map, where the Ident that
-- begins it is no boolean.
abbrev pub SpellsDef : Definition → List Word → List Word → Type 0
SpellsDef (Assigns name at x) ts rest =
    (mark next : List Word) × IsDefName name at ts mark × IsMark Equal mark next × Spells x next rest
SpellsDef (Extends name at x) ts rest =
    (mark next : List Word) × IsDefName name at ts mark × IsMark PlusEqual mark next × Spells x next rest
SpellsDef (Declares kind at m) ts rest =
    (next : List Word) × IsDefName kind at ts next × Spells (Body m.at m.entries) next rest

-- The words are the definitions, by File = { Def }, and nothing follows.
abbrev pub SpellsFile : List Definition → List Word → Type 0
SpellsFile [] ts = ts ≡ []
SpellsFile (d ∷ ds) ts = (rest : List Word) × SpellsDef d ts rest × SpellsFile ds rest
