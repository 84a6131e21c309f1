-- The measure of this crate: the files that are well formed, which Ninja reads back as they were meant. Ninja manual,
-- "Ninja file reference": names, rule variables, outputs.
use Rattle.std.specs.Prelude.{◌≢◌, ℕ, Bool, true, false, List, [], ◌∷◌, ◌++◌, ◌&&◌, not, map, codes, IsTrue, Contains}
use Rattle.std.specs.List.{All, AllPairs, flat_map, list_all}
use Rattle.std.specs.Map.{keys_of, values_of}
use Rattle.ninja_file.specs.Names.{is_nil, is_name, is_value, is_path, is_rule_key}
use Rattle.ninja_file.specs.declared.file.Piece.{Piece}
use Rattle.ninja_file.specs.declared.file.Piece.TheVariants.{Lit, Var}
use Rattle.ninja_file.specs.declared.file.NinjaRule.{NinjaRule}
use Rattle.ninja_file.specs.declared.file.Statement.{Statement}
use Rattle.ninja_file.specs.declared.file.NinjaFile.{NinjaFile}

-- A piece holds a value or names a variable.
abbrev pub is_piece : Piece → Bool
is_piece (Lit text) = is_value text
is_piece (Var name) = is_name name

-- A literal piece, which is text as it is.
abbrev pub is_literal : Piece → Bool
is_literal (Lit text) = true
is_literal (Var name) = false

-- Pieces of which the first is literal.
abbrev pub begins_literally : List Piece → Bool
begins_literally [] = false
begins_literally (piece ∷ pieces) = is_literal piece

-- No two literal pieces stand side by side.
abbrev pub are_apart : List Piece → Bool
are_apart [] = true
are_apart (piece ∷ pieces) = not (is_literal piece && begins_literally pieces) && are_apart pieces

-- The value of a rule's key: one piece at least, and literal text is one piece up to the next variable.
abbrev pub is_rule_value : List Piece → Bool
is_rule_value pieces = not (is_nil pieces) && (list_all is_piece pieces && are_apart pieces)

-- Any two texts differ.
abbrev pub AllDiffer : List (List ℕ) → Type 0
AllDiffer texts = AllPairs (λ x y. x ≢ y) texts

-- A rule has a name other than `phony`, and keys that differ, with `command` among them.
pub record IsRule (rule : NinjaRule) : Type 0 where
  pub name : IsTrue (is_name rule.name)
  pub not_phony : rule.name ≢ codes "phony"
  pub keys : IsTrue (list_all is_rule_key (keys_of rule.bindings))
  pub keys_differ : AllDiffer (keys_of rule.bindings)
  pub command : Contains (keys_of rule.bindings) (codes "command")
  pub values : IsTrue (list_all is_rule_value (values_of rule.bindings))

-- A statement has an out, uses one of the rules or `phony`, and its keys differ.
pub record IsStatement (rules : List (List ℕ)) (s : Statement) : Type 0 where
  pub makes : s.outs ≢ []
  pub paths : IsTrue (list_all is_path (s.outs ++ (s.ins ++ (s.implicit ++ s.order_only))))
  pub rule : Contains (codes "phony" ∷ rules) s.rule
  pub keys : IsTrue (list_all is_name (keys_of s.vars))
  pub keys_differ : AllDiffer (keys_of s.vars)
  pub values : IsTrue (list_all is_value (values_of s.vars))

-- The names of the rules.
abbrev pub rule_names : NinjaFile → List (List ℕ)
rule_names f = map (λ rule. rule.name) f.rules

-- The outs of all statements.
abbrev pub outs_of : NinjaFile → List (List ℕ)
outs_of f = flat_map (λ s. s.outs) f.statements

-- A well-formed file: its rules and statements are, no rule and no out is named twice, and each default is an out.
pub record IsWellFormed (f : NinjaFile) : Type 0 where
  pub rules : All IsRule f.rules
  pub rules_differ : AllDiffer (rule_names f)
  pub statements : All (IsStatement (rule_names f)) f.statements
  pub outs_differ : AllDiffer (outs_of f)
  pub defaults : All (Contains (outs_of f)) f.defaults
