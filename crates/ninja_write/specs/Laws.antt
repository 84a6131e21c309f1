-- What the laws say of the text of files.
use Rattle.std.specs.Prelude.{◌≡◌, ℕ, true, false, List, [], ◌∷◌, ◌++◌, ◌==◌, not, IsTrue, codes}
use Rattle.std.specs.List.{All, flat_map, list_all}
use Rattle.ninja_file.specs.declared.escape.Escape.TheVariants.{Path}
use Rattle.ninja_file.specs.declared.file.NinjaFile.{NinjaFile}
use Rattle.ninja_file.specs.declared.file.Piece.{Piece}
use Rattle.ninja_file.specs.Escapes.{is_escaped}
use Rattle.ninja_file.specs.Meaning.{is_rule_value, IsWellFormed}
use Rattle.ninja_write.specs.Escaped.{path_text, value_text}
use Rattle.ninja_write.specs.Meaning.{lines_of, pieces_text, text_of}
use Rattle.bp_faults.specs.Characters.{dollar}

-- No two paths have the same written form.
abbrev pub PathsStayApart : Type 0
PathsStayApart = (a b : List ℕ) → path_text a ≡ path_text b → a ≡ b

-- No two values of a variable have the same written form.
abbrev pub ValuesStayApart : Type 0
ValuesStayApart = (a b : List ℕ) → value_text a ≡ value_text b → a ≡ b

-- No two values of a rule's key have the same written form.
abbrev pub RuleValuesStayApart : Type 0
RuleValuesStayApart =
    (a b : List Piece) → IsTrue (is_rule_value a) → IsTrue (is_rule_value b) → pieces_text a ≡ pieces_text b → a ≡ b

-- A text of which each space, colon and dollar is a pair with a dollar before it.
pub data IsGuarded : List ℕ → Type 0 where
  nothing : IsGuarded []
  plain : (b : ℕ) (rest : List ℕ) → is_escaped Path b ≡ false → IsGuarded rest → IsGuarded (b ∷ rest)
  pair : (b : ℕ) (rest : List ℕ) → is_escaped Path b ≡ true → IsGuarded rest → IsGuarded (dollar ∷ b ∷ rest)

-- The written form of a path holds no space, colon or dollar that isn't escaped.
abbrev pub PathsAreGuarded : Type 0
PathsAreGuarded = (path : List ℕ) → IsGuarded (path_text path)

-- A text without LF.
abbrev pub IsOneLine : List ℕ → Type 0
IsOneLine line = IsTrue (list_all (λ b. not (b == 10)) line)

-- Each line of a well-formed file's text ends with LF, and no other LF is in it.
abbrev pub LinesAreLines : Type 0
LinesAreLines =
    (f : NinjaFile) → IsWellFormed f →
    (text_of f ≡ flat_map (λ line. line ++ codes "\n") (lines_of f)) × All IsOneLine (lines_of f)
