-- What the lines so far give: rules, statements and defaults, and what one more line makes of them.
use Rattle.std.specs.Prelude.{ℕ, Bool, not, ◌&&◌, ◌||◌, List, [], ◌∷◌, ◌++◌, map, Option, Some, None}
use Rattle.std.specs.Prelude.{option_map, codes, if◌then◌else◌}
use Rattle.std.specs.List.{list_any, flat_map}
use Rattle.std.specs.Map.{keys_of}
use Rattle.std.specs.Str.{bytes_eq}
use Rattle.ninja_read.specs.declared.book.Open.{Open}
use Rattle.ninja_read.specs.declared.book.Open.TheVariants.{Nothing, Rule, Build}
use Rattle.ninja_file.specs.declared.file.Piece.{Piece}
use Rattle.ninja_file.specs.declared.file.NinjaRule.{NinjaRule}
use Rattle.ninja_file.specs.declared.file.Statement.{Statement}
use Rattle.ninja_file.specs.declared.file.NinjaFile.{NinjaFile}
use Rattle.ninja_file.specs.Names.{is_rule_key}
use Rattle.ninja_read.specs.Values.{pieces_of, value_of}

-- The rules, statements and defaults, with the numbers of their lines, and the rule or statement to which bindings
-- belong.
pub record Book : Type 0 where
  pub rules : List NinjaRule
  pub statements : List (ℕ × Statement)
  pub defaults : List (ℕ × List ℕ)
  pub last : Open

-- A book of no lines.
abbrev pub no_book : Book
no_book = record { rules = []; statements = []; defaults = []; last = Nothing }

-- The rule to which bindings belong, if it is one.
abbrev pub open_rule : Open → List NinjaRule
open_rule Nothing = []
open_rule (Rule rule) = rule ∷ []
open_rule (Build number statement) = []

-- The statement to which bindings belong, if it is one.
abbrev pub open_statement : Open → List (ℕ × Statement)
open_statement Nothing = []
open_statement (Rule rule) = []
open_statement (Build number statement) = (number, statement) ∷ []

-- All rules of the lines so far.
abbrev pub rules_of : Book → List NinjaRule
rules_of book = book.rules ++ open_rule book.last

-- All statements of the lines so far.
abbrev pub statements_of : Book → List (ℕ × Statement)
statements_of book = book.statements ++ open_statement book.last

-- A new rule or statement, to which bindings belong from now on.
abbrev pub book_with_open : Open → Book → Book
book_with_open new book =
    record { rules = rules_of book; statements = statements_of book; defaults = book.defaults; last = new }

-- A list has a text.
abbrev pub has_text : List (List ℕ) → List ℕ → Bool
has_text texts text = list_any (bytes_eq text) texts

-- The names of the rules.
abbrev pub names_of_rules : Book → List (List ℕ)
names_of_rules book = map (λ rule. rule.name) (rules_of book)

-- A rule without bindings.
abbrev pub bare_rule : List ℕ → Open
bare_rule name = Rule (record { name = name; bindings = [] })

-- A rule has a name of its own, and `command` among its keys.
abbrev pub with_rule : Bool → Book → List ℕ → Option Book
with_rule has_command book name =
    if has_command && not (has_text (names_of_rules book) name)
    then Some (book_with_open (bare_rule name) book) else None

-- A statement's rule stands before it.
abbrev pub with_statement : ℕ → Book → Statement → Option Book
with_statement number book s =
    if bytes_eq s.rule (codes "phony") || has_text (names_of_rules book) s.rule
    then Some (book_with_open (Build number s) book) else None

-- Defaults, by the number of their line.
abbrev pub with_defaults : ℕ → Book → List (List ℕ) → Book
with_defaults number book paths = record {
  rules = book.rules;
  statements = book.statements;
  defaults = book.defaults ++ map (λ path. (number, path)) paths;
  last = book.last;
}

-- A rule with one more binding.
abbrev pub bound_rule : NinjaRule → List ℕ → List Piece → Open
bound_rule rule key pieces = Rule (record { name = rule.name; bindings = rule.bindings ++ (key, pieces) ∷ [] })

-- A key of a rule is known, and none is repeated.
abbrev pub bind_to_rule : List ℕ × List ℕ → NinjaRule → Option Open
bind_to_rule binding rule =
    if is_rule_key binding.0 && not (has_text (keys_of rule.bindings) binding.0)
    then option_map (λ pieces. bound_rule rule binding.0 pieces) (pieces_of binding.1) else None

-- A statement with one more variable.
abbrev pub bound_statement : ℕ → Statement → List ℕ → List ℕ → Open
bound_statement number s key value = Build number (record {
  outs = s.outs;
  rule = s.rule;
  ins = s.ins;
  implicit = s.implicit;
  order_only = s.order_only;
  vars = s.vars ++ (key, value) ∷ [];
})

-- No key of a statement is repeated.
abbrev pub bind_to_statement : List ℕ × List ℕ → ℕ → Statement → Option Open
bind_to_statement binding number s =
    if not (has_text (keys_of s.vars) binding.0)
    then option_map (λ value. bound_statement number s binding.0 value) (value_of binding.1) else None

-- A binding belongs to the last rule or statement.
abbrev pub bind : List ℕ × List ℕ → Open → Option Open
bind binding Nothing = None
bind binding (Rule rule) = bind_to_rule binding rule
bind binding (Build number s) = bind_to_statement binding number s

-- The book with another last rule or statement.
abbrev pub with_last : Book → Open → Book
with_last book new =
    record { rules = book.rules; statements = book.statements; defaults = book.defaults; last = new }

-- A key with its value as it is written.
abbrev pub with_binding : Book → List ℕ × List ℕ → Option Book
with_binding book binding = option_map (λ new. with_last book new) (bind binding book.last)

-- The outs of all statements.
abbrev pub outs_of_book : Book → List (List ℕ)
outs_of_book book = flat_map (λ statement. statement.1.outs) (statements_of book)

-- The file that the lines give.
abbrev pub book_file : Book → NinjaFile
book_file book = record {
  rules = rules_of book;
  statements = map (λ statement. statement.1) (statements_of book);
  defaults = map (λ path. path.1) book.defaults;
}
