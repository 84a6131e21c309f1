-- The measure of this crate: the text of a file for Ninja, which is its lines one after another, each a function of one
-- rule, binding, statement or variable. Ninja manual, "Ninja file reference".
use Rattle.std.specs.Prelude.{ℕ, List, [], ◌∷◌, ◌++◌, map, codes}
use Rattle.std.specs.List.{flat_map}
use Rattle.ninja_write.specs.Escaped.{escaped_bytes, path_text, lead, value_text}
use Rattle.ninja_file.specs.declared.escape.Escape.TheVariants.{Value}
use Rattle.ninja_file.specs.declared.file.Piece.{Piece}
use Rattle.ninja_file.specs.declared.file.Piece.TheVariants.{Lit, Var}
use Rattle.ninja_file.specs.declared.file.NinjaRule.{NinjaRule}
use Rattle.ninja_file.specs.declared.file.Statement.{Statement}
use Rattle.ninja_file.specs.declared.file.NinjaFile.{NinjaFile}
use Rattle.bp_faults.specs.Characters.{ended_line, space}

-- A piece of a rule's value: a variable is written `${name}`.
abbrev pub piece_text : Piece → List ℕ
piece_text (Lit text) = escaped_bytes Value text
piece_text (Var name) = codes "${" ++ (name ++ codes "}")

-- The dollar before a rule's value that begins with a space.
abbrev pub lead_of : List Piece → List ℕ
lead_of [] = []
lead_of (Lit text ∷ pieces) = lead text
lead_of (Var name ∷ pieces) = []

-- The value of a rule's key.
abbrev pub pieces_text : List Piece → List ℕ
pieces_text pieces = lead_of pieces ++ flat_map piece_text pieces

-- The line of a binding: `  key = value`.
abbrev pub line_of_binding : List ℕ → List ℕ → List ℕ
line_of_binding key value = codes "  " ++ (key ++ (codes " = " ++ value))

-- A binding of a rule.
abbrev pub binding_line : List ℕ × List Piece → List ℕ
binding_line binding = line_of_binding binding.0 (pieces_text binding.1)

-- A variable of a statement.
abbrev pub variable_line : List ℕ × List ℕ → List ℕ
variable_line variable = line_of_binding variable.0 (value_text variable.1)

-- A path, with a space before it.
abbrev pub spaced_path : List ℕ → List ℕ
spaced_path path = space ∷ path_text path

-- Paths, with a space before each.
abbrev pub spaced_paths : List (List ℕ) → List ℕ
spaced_paths paths = flat_map spaced_path paths

-- Paths behind a mark, where there are any.
abbrev pub paths_behind : List ℕ → List (List ℕ) → List ℕ
paths_behind mark [] = []
paths_behind mark (path ∷ paths) = mark ++ spaced_paths (path ∷ paths)

-- The ins of a statement: those that the command names, the implicit ones and the order-only ones.
abbrev pub ins_text : Statement → List ℕ
ins_text s = spaced_paths s.ins ++ (paths_behind (codes " |") s.implicit ++ paths_behind (codes " ||") s.order_only)

-- The first line of a statement: `build outs: rule ins | implicit || order_only`.
abbrev pub build_line : Statement → List ℕ
build_line s = codes "build" ++ (spaced_paths s.outs ++ (codes ": " ++ (s.rule ++ ins_text s)))

-- The first line of a rule: `rule name`.
abbrev pub rule_line : NinjaRule → List ℕ
rule_line rule = codes "rule " ++ rule.name

-- A rule: its first line and a line for each binding.
abbrev pub rule_lines : NinjaRule → List (List ℕ)
rule_lines rule = rule_line rule ∷ map binding_line rule.bindings

-- A statement: its first line and a line for each variable.
abbrev pub statement_lines : Statement → List (List ℕ)
statement_lines s = build_line s ∷ map variable_line s.vars

-- One line for all defaults, where there are any.
abbrev pub default_lines : List (List ℕ) → List (List ℕ)
default_lines [] = []
default_lines (path ∷ paths) = (codes "default" ++ spaced_paths (path ∷ paths)) ∷ []

-- The first line, a comment.
unfoldable pub head_line : List ℕ
head_line = codes "# build.ninja written by bpgen"

-- The lines of a file: the first line, the rules, the statements and the defaults.
abbrev pub lines_of : NinjaFile → List (List ℕ)
lines_of f =
    head_line ∷
    (flat_map rule_lines f.rules ++ (flat_map statement_lines f.statements ++ default_lines f.defaults))

-- Lines one after another.
abbrev pub joined_text : List (List ℕ) → List ℕ
joined_text lines = flat_map ended_line lines

-- The text of a file.
abbrev pub text_of : NinjaFile → List ℕ
text_of f = joined_text (lines_of f)
