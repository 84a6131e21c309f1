-- The lines of text for Ninja, by their words. Ninja manual, "Ninja file reference"; the profile is in docs/NINJA.md.
use Rattle.std.specs.Prelude.{ℕ, Bool, true, false, List, [], ◌∷◌, ◌==◌, Option, Some, None, option_map}
use Rattle.std.specs.Prelude.{option_and_then, take, drop, codes, if◌then◌else◌}
use Rattle.std.specs.Str.{bytes_eq}
use Rattle.ninja_lines.specs.Meaning.{dangles, drop_spaces}
use Rattle.ninja_lines.specs.Cuts.{parts_between, words}
use Rattle.ninja_file.specs.Escapes.{colon}
use Rattle.ninja_file.specs.Names.{is_name, is_path}
use Rattle.ninja_file.specs.declared.file.Statement.{Statement}
use Rattle.ninja_read.specs.Values.{name_length, value_of}
use Rattle.bp_faults.specs.Characters.{space}

-- What stands behind a word that a text begins with.
abbrev pub behind_word : List ℕ → List ℕ → Option (List ℕ)
behind_word [] text = Some text
behind_word (w ∷ word) [] = None
behind_word (w ∷ word) (b ∷ text) = if b == w then behind_word word text else None

-- The forms of a joined line. With the words `rule`, `build` and `default` comes what stands behind them.
pub data Form : Type 0 where
  no_form : Form
  skipped : Form
  a_binding : Form
  a_rule : List ℕ → Form
  a_build : List ℕ → Form
  a_default : List ℕ → Form

-- Behind its spaces, a blank line is empty and a comment begins with `#`.
abbrev pub says_nothing : List ℕ → Bool
says_nothing [] = true
says_nothing (b ∷ text) = b == 35

-- A text whose first byte is a space.
abbrev pub begins_with_space : List ℕ → Bool
begins_with_space [] = false
begins_with_space (b ∷ text) = b == space

-- The form of what stands behind a word, or else another form.
abbrev pub or_form : Option (List ℕ) → (List ℕ → Form) → Form → Form
or_form None form other = other
or_form (Some rest) form other = form rest

-- A line that begins with `build`, `rule` or `default`, and a space.
abbrev pub declaration : List ℕ → Form
declaration text =
    or_form (behind_word (codes "build ") text) a_build
    (or_form (behind_word (codes "rule ") text) a_rule
    (or_form (behind_word (codes "default ") text) a_default no_form))

-- A line that says nothing is skipped, but for a dollar at its end, which joins nothing.
abbrev pub quiet_form : List ℕ → Form
quiet_form text = if dangles false text then no_form else skipped

-- A line that says something: a binding begins with a space, and nothing else does.
abbrev pub telling_form : List ℕ → Form
telling_form text = if begins_with_space text then a_binding else declaration text

-- The form of a joined line.
abbrev pub form_of : List ℕ → Form
form_of text = if says_nothing (drop_spaces text) then quiet_form text else telling_form text

-- Each element by a function that may give nothing, which then is all that there is.
abbrev pub all_of : {A B : Type 0} → (A → Option B) → List A → Option (List B)
all_of f [] = Some []
all_of f (x ∷ xs) = option_and_then (λ y. option_map (λ ys. y ∷ ys) (all_of f xs)) (f x)

-- A text that is a path.
abbrev pub if_path : List ℕ → Option (List ℕ)
if_path text = if is_path text then Some text else None

-- A word as a path. Outside escapes it holds no `$`, and nowhere a control character or `|`.
abbrev pub path_of : List ℕ → Option (List ℕ)
path_of word = option_and_then if_path (value_of word)

-- Words as paths.
abbrev pub paths_of : List (List ℕ) → Option (List (List ℕ))
paths_of list = all_of path_of list

-- Words as paths, of which there is one at least.
abbrev pub some_paths : List (List ℕ) → Option (List (List ℕ))
some_paths [] = None
some_paths (word ∷ more) = paths_of (word ∷ more)

-- The words up to a mark.
abbrev pub before_mark : List ℕ → List (List ℕ) → List (List ℕ)
before_mark mark [] = []
before_mark mark (word ∷ more) = if bytes_eq word mark then [] else word ∷ before_mark mark more

-- The words behind a mark, where there is one.
abbrev pub behind_mark : List ℕ → List (List ℕ) → Option (List (List ℕ))
behind_mark mark [] = None
behind_mark mark (word ∷ more) = if bytes_eq word mark then Some more else behind_mark mark more

-- Where there is a mark, a path stands behind it.
abbrev pub marked_paths : Option (List (List ℕ)) → Option (List (List ℕ))
marked_paths None = Some []
marked_paths (Some list) = some_paths list

-- The mark before implicit ins.
abbrev pub bar : List ℕ
bar = codes "|"

-- The mark before order-only ins.
abbrev pub bars : List ℕ
bars = codes "||"

-- The ins among the words behind the rule.
abbrev pub ins_of : List (List ℕ) → Option (List (List ℕ))
ins_of takes = paths_of (before_mark bar (before_mark bars takes))

-- The implicit ins among them.
abbrev pub implicit_of : List (List ℕ) → Option (List (List ℕ))
implicit_of takes = marked_paths (behind_mark bar (before_mark bars takes))

-- The order-only ins among them.
abbrev pub order_only_of : List (List ℕ) → Option (List (List ℕ))
order_only_of takes = marked_paths (behind_mark bars takes)

-- A statement by its parts. It has no variables yet.
abbrev pub bare_statement : List (List ℕ) → List ℕ → List (List ℕ) → List (List ℕ) → List (List ℕ) → Statement
bare_statement outs rule ins implicit order_only =
    record { outs = outs; rule = rule; ins = ins; implicit = implicit; order_only = order_only; vars = [] }

-- The statement of some outs, ins and implicit ins.
abbrev pub with_implicit : List (List ℕ) → List ℕ → List (List ℕ) → List (List ℕ) → List (List ℕ) → Option Statement
with_implicit outs rule takes ins implicit =
    option_map (λ order_only. bare_statement outs rule ins implicit order_only) (order_only_of takes)

-- The statement of some outs and ins.
abbrev pub with_ins : List (List ℕ) → List ℕ → List (List ℕ) → List (List ℕ) → Option Statement
with_ins outs rule takes ins =
    option_and_then (λ implicit. with_implicit outs rule takes ins implicit) (implicit_of takes)

-- The statement of some outs.
abbrev pub with_outs : List (List ℕ) → List ℕ → List (List ℕ) → Option Statement
with_outs outs rule takes = option_and_then (λ ins. with_ins outs rule takes ins) (ins_of takes)

-- A statement by the words of its outs, its rule and the words behind it.
abbrev pub statement_of : List (List ℕ) → List ℕ → List (List ℕ) → Option Statement
statement_of makes rule takes = option_and_then (λ outs. with_outs outs rule takes) (some_paths makes)

-- Behind the colon stands the rule.
abbrev pub statement_of_words : List (List ℕ) → List (List ℕ) → Option Statement
statement_of_words makes [] = None
statement_of_words makes (rule ∷ takes) = statement_of makes rule takes

-- One colon stands between the outs and the rule.
abbrev pub statement_of_parts : List (List ℕ) → Option Statement
statement_of_parts [] = None
statement_of_parts (makes ∷ []) = None
statement_of_parts (makes ∷ takes ∷ []) = statement_of_words (words makes) (words takes)
statement_of_parts (makes ∷ takes ∷ other ∷ more) = None

-- The statement behind `build `.
abbrev pub build_statement : List ℕ → Option Statement
build_statement text = statement_of_parts (parts_between colon false text)

-- No colon stands among defaults.
abbrev pub defaults_of_parts : List (List ℕ) → Option (List (List ℕ))
defaults_of_parts [] = None
defaults_of_parts (text ∷ []) = some_paths (words text)
defaults_of_parts (text ∷ other ∷ more) = None

-- The paths behind `default `.
abbrev pub defaults_of : List ℕ → Option (List (List ℕ))
defaults_of text = defaults_of_parts (parts_between colon false text)

-- No rule is called `phony`.
abbrev pub unless_phony : List ℕ → Option (List ℕ)
unless_phony name = if bytes_eq name (codes "phony") then None else Some name

-- One word, which is a name.
abbrev pub rule_name_of_words : List (List ℕ) → Option (List ℕ)
rule_name_of_words [] = None
rule_name_of_words (name ∷ []) = if is_name name then unless_phony name else None
rule_name_of_words (name ∷ other ∷ more) = None

-- The name behind `rule `.
abbrev pub rule_name_of : List ℕ → Option (List ℕ)
rule_name_of text = rule_name_of_words (words text)

-- A key with what stands behind `=`.
abbrev pub value_behind : List ℕ → List ℕ → Option (List ℕ × List ℕ)
value_behind key [] = None
value_behind key (b ∷ text) = if b == 61 then Some (key, drop_spaces text) else None

-- The name that a text begins with, as a key, and the value as it is written.
abbrev pub binding_behind : List ℕ → Option (List ℕ × List ℕ)
binding_behind text =
    let n = name_length text in
    if n == 0 then None else value_behind (take n text) (drop_spaces (drop n text))

-- A binding, `  key = value`.
abbrev pub binding_of : List ℕ → Option (List ℕ × List ℕ)
binding_of text = binding_behind (drop_spaces text)
