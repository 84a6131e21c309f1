-- No public contract speaks of it: pieces that are put together, the forms of lines as data, and what a step makes of
-- the lines so far.
use Rattle.std.specs.Prelude.{◌≡◌, ℕ, suc, Bool, true, false, List, [], ◌∷◌, ◌++◌, ◌==◌, Option, Some, None}
use Rattle.std.specs.Prelude.{option_map, if◌then◌else◌}
use Rattle.std.specs.Borrow.{Bor}
use Rattle.std.specs.Map.{keys_of}
use Rattle.bp_names.specs.Meaning.{IsSetOf}
use Rattle.ninja_file.specs.declared.file.Piece.{Piece}
use Rattle.ninja_file.specs.declared.file.Piece.TheVariants.{Var}
use Rattle.ninja_read.specs.Values.{Mode, in_text, with_byte, pieces_from}
use Rattle.ninja_read.specs.Heads.{Form, no_form, skipped, a_binding, a_rule, a_build, a_default}
use Rattle.ninja_read.specs.Book.{Book, names_of_rules}
use Rattle.ninja_read.specs.declared.value.Sign.{Sign}
use Rattle.ninja_read.specs.declared.value.Sign.TheVariants.{Escaped, Variable}
use Rattle.ninja_read.specs.declared.value.Pieces.{Pieces}
use Rattle.ninja_read.specs.declared.form.LineForm.{LineForm}
use Rattle.ninja_read.specs.declared.form.LineForm.TheVariants.{NoForm, Skipped, Binding, Rule as RuleForm}
use Rattle.ninja_read.specs.declared.form.LineForm.TheVariants.{Build as BuildForm, Default}
use Rattle.ninja_read.specs.declared.book.Book as code
use Rattle.ninja_read.specs.declared.book.Open.{Open}
use Rattle.ninja_read.specs.declared.book.Open.TheVariants.{Nothing, Rule, Build}
use Rattle.bp_faults.specs.Characters.{dollar}

-- Text before pieces.
abbrev pub with_text : List ℕ → List Piece → List Piece
with_text [] pieces = pieces
with_text (b ∷ text) pieces = with_byte b (with_text text pieces)

-- What a dollar stands for, before pieces.
abbrev pub with_sign : Sign → List Piece → List Piece
with_sign (Escaped text) pieces = with_text text.now pieces
with_sign (Variable name) pieces = Var name.now ∷ pieces

-- The pieces that are there, before others.
abbrev pub built_pieces : Pieces → List Piece → List Piece
built_pieces pieces more = pieces.done.items ++ with_text pieces.text more

-- What stands for the front of a text, from a mode on, and what is left.
abbrev pub IsSign : Mode → List ℕ → Option (Sign × Bor (List ℕ)) → Type 0
IsSign mode text None = pieces_from mode text ≡ None
IsSign mode text (Some found) = pieces_from mode text ≡ option_map (with_sign found.0) (pieces_from in_text found.1.now)

-- How far a text goes before its first dollar.
abbrev pub dollar_at : List ℕ → ℕ
dollar_at [] = 0
dollar_at (b ∷ bytes) = if b == dollar then 0 else suc (dollar_at bytes)

-- The form of a line as data.
abbrev pub shown_form : LineForm → Form
shown_form NoForm = no_form
shown_form Skipped = skipped
shown_form Binding = a_binding
shown_form (RuleForm rest) = a_rule rest.now
shown_form (BuildForm rest) = a_build rest.now
shown_form (Default rest) = a_default rest.now

-- The lines so far as data.
abbrev pub shown_book : code.Book → Book
shown_book book = record {
  rules = book.rules.items;
  statements = book.statements.items;
  defaults = book.defaults.items;
  last = book.last;
}

-- The keys to which one more may be bound.
abbrev pub open_keys : Open → List (List ℕ)
open_keys Nothing = []
open_keys (Rule rule) = keys_of rule.bindings
open_keys (Build number statement) = keys_of statement.vars

-- The sets have the names of the rules and the keys of the last rule or statement.
pub record IsLearnt (book : code.Book) : Type 0 where
  pub names : IsSetOf (names_of_rules (shown_book book)) book.names
  pub keys : IsSetOf (open_keys book.last) book.keys

-- A line is taken, or refused.
abbrev pub Takes : Bool → code.Book → Option Book → Book → Type 0
Takes true new meant old = (meant ≡ Some (shown_book new)) × IsLearnt new
Takes false new meant old = (meant ≡ None) × (shown_book new ≡ old)

-- A binding is taken, or refused.
abbrev pub Binds : Bool → Open → List (List ℕ) → Option Open → Open → Type 0
Binds true new keys meant old = (meant ≡ Some new) × IsSetOf (open_keys new) keys
Binds false new keys meant old = (meant ≡ None) × (new ≡ old)
