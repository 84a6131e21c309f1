-- What holds of formatting and of editing.
use Rattle.std.specs.Prelude.{◌≡◌, false, ℕ, List, [], ◌∷◌, ◌++◌, All, Result, Ok, IsUtf8}
use Rattle.bp_faults.specs.declared.fault.Fault.{Fault}
use Rattle.bp_faults.specs.declared.place.Place.{Place}
use Rattle.bp_lexer.specs.declared.token.Token.{Token}
use Rattle.bp_lexer.specs.Meaning.{IsTokenList}
use Rattle.bp_lexer.specs.declared.token.TokenKind.TheVariants.{Ident}
use Rattle.bp_lexer.specs.Forms.{IsForm}
use Rattle.bp_lexer.specs.Strings.{unescaped_chars}
use Rattle.bp_parser.specs.Grammar.{Spells}
use Rattle.bp_parser.specs.Meaning.{IsTree}
use Rattle.bp_parser.specs.Trees.{Tree, Leaf, Items, Str, Trees, File}
use Rattle.bp_parser.specs.Words.{words_of}
use Rattle.bp_format.specs.WithoutPlaces.{token_contents, definitions_without_places}
use Rattle.bp_format.specs.declared.spot.Spot.TheVariants.{Instead, Behind}
use Rattle.bp_format.specs.Editing.{Wanted, IsEdited, EditMeans}
use Rattle.bp_format.specs.Meaning.{FormatMeans}
use Rattle.bp_format.specs.Setting.{set_in}
use Rattle.bp_format.specs.Quotes.{characters_in_quotes}

-- A formatted text has tokens.
abbrev pub LayoutsHaveTokens : Type 0
LayoutsHaveTokens = (file : ℕ) (text out : List ℕ) → FormatMeans file text (Ok out)
    → (us : List Token) × IsTokenList file out us

-- They have the kinds and the texts of those of the text.
abbrev pub LayoutsKeepTokens : Type 0
LayoutsKeepTokens = (file : ℕ) (text out : List ℕ) (ts us : List Token) → FormatMeans file text (Ok out)
    → IsTokenList file text ts → IsTokenList file out us → token_contents out us ≡ token_contents text ts

-- The tree of a formatted text is that of the text, but for places.
abbrev pub LayoutsKeepTrees : Type 0
LayoutsKeepTrees = (file : ℕ) (text out : List ℕ) (ts us : List Token) (tree : File) → FormatMeans file text (Ok out)
    → IsTokenList file text ts → IsTree (words_of text ts) tree → IsTokenList file out us
    → (other : File) × IsTree (words_of out us) other
    × (definitions_without_places tree.defs ≡ definitions_without_places other.defs)

-- A formatted text is its own layout.
abbrev pub LayoutsAreKept : Type 0
LayoutsAreKept = (file : ℕ) (text out : List ℕ) → FormatMeans file text (Ok out) → FormatMeans file out (Ok out)

-- Formatting a text comes to at most one thing.
abbrev pub OneFormat : Type 0
OneFormat = (file : ℕ) (text : List ℕ) (a b : Result (List ℕ) Fault) → FormatMeans file text a
    → FormatMeans file text b → a ≡ b

-- Formatting a text comes to something.
abbrev pub SomeFormat : Type 0
SomeFormat = (file : ℕ) (text : List ℕ) → (outcome : Result (List ℕ) Fault) × FormatMeans file text outcome

-- Setting a list in a text comes to at most one thing.
abbrev pub OneEdit : Type 0
OneEdit = (file : ℕ) (text : List ℕ) (wanted : Wanted) (a b : Result (List ℕ) Fault) → EditMeans file text wanted a
    → EditMeans file text wanted b → a ≡ b

-- Setting a list in a text comes to something.
abbrev pub SomeEdit : Type 0
SomeEdit = (file : ℕ) (text : List ℕ) (wanted : Wanted)
    → (outcome : Result (List ℕ) Fault) × EditMeans file text wanted outcome

-- Characters that are escaped stand for themselves again.
abbrev pub EscapesAreUndone : Type 0
EscapesAreUndone = (cs : List ℕ) → unescaped_chars false (characters_in_quotes cs) ≡ cs

-- The tree of an edited text is that of the text with the list set, but for places.
abbrev pub EditsSetLists : Type 0
EditsSetLists = (file : ℕ) (text out : List ℕ) (wanted : Wanted) (ts : List Token) (tree : File)
    → IsForm Ident wanted.property → All IsUtf8 wanted.items → EditMeans file text wanted (Ok out)
    → IsTokenList file text ts → IsTree (words_of text ts) tree
    → (us : List Token) × IsTokenList file out us
    × (other : File) × IsTree (words_of out us) other
    × (definitions_without_places other.defs ≡ definitions_without_places (set_in wanted tree.defs))

-- The tokens of an expression, and the bytes from the first of them to the end of the last.
pub record IsWritten (text : List ℕ) (tokens : List Token) (x : Tree) (from to : ℕ) : Type 0 where
  pub before : List Token
  pub own : List Token
  pub behind : List Token
  pub split : tokens ≡ before ++ (own ++ behind)
  pub spelled : Spells x (words_of text (own ++ behind)) (words_of text behind)
  pub first : Token
  pub more : List Token
  pub begins : own ≡ first ∷ more
  pub less : List Token
  pub last : Token
  pub ends : own ≡ less ++ last ∷ []
  pub from_first : from ≡ first.start
  pub to_last : to ≡ last.end

-- Where a list gives way, its tokens are those of the span.
abbrev pub ListsGiveWay : Type 0
ListsGiveWay = (file : ℕ) (text out : List ℕ) (wanted : Wanted) (edit : IsEdited file text wanted out) (at : Place)
    → edit.place ≡ Instead at → (xs : Trees) × IsWritten text edit.read.tokens (Items at xs) edit.from edit.to

-- Where nothing gives way, the entry is put behind the last token of the name.
abbrev pub EntriesStandBehindNames : Type 0
EntriesStandBehindNames = (file : ℕ) (text out : List ℕ) (wanted : Wanted) (edit : IsEdited file text wanted out)
    (at : Place) → edit.place ≡ Behind at
    → (edit.from ≡ edit.to) × (name : List ℕ) × (start : ℕ)
    × IsWritten text edit.read.tokens (Leaf at (Str name)) start edit.to
