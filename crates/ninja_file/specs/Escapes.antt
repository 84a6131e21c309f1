-- Which bytes have a dollar before them in text for Ninja. Ninja manual, "Ninja file reference", "Lexical syntax": `$$`
-- is a dollar, `$ ` a space and `$:` a colon.
use Rattle.std.specs.Prelude.{ℕ, Bool, ◌||◌, ◌==◌}
use Rattle.ninja_file.specs.declared.escape.Escape.{Escape}
use Rattle.ninja_file.specs.declared.escape.Escape.TheVariants.{Path, Value}
use Rattle.bp_faults.specs.Characters.{dollar, space}

-- The byte between the outs of a statement and its rule.
abbrev pub colon : ℕ
colon = 58

-- The bytes that have a dollar before them: in a path those that would end it or begin an escape, in a value the
-- dollar.
abbrev pub is_escaped : Escape → ℕ → Bool
is_escaped Path b = b == dollar || b == space || b == colon
is_escaped Value b = b == dollar
