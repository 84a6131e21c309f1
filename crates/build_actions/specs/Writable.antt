-- What the texts of modules and records hold, so that a file for Ninja can hold them too.
use Rattle.std.specs.Prelude.{◌||◌, ℕ, Bool, true, List, IsTrue}
use Rattle.std.specs.List.{AllByRecursion, list_all}
use Rattle.bp_props.specs.Fields as S
use Rattle.bp_props.specs.Fields.{Shape, Held}
use Rattle.bp_props.specs.Groups.{HasOnly}
use Rattle.bp_props.specs.Meaning.{names_module}
use Rattle.bp_props.specs.declared.module.Module.{Module}
use Rattle.bp_props.specs.declared.props.Props.{Props}
use Rattle.graph_nodes.specs.declared.graph.Node.{Node}
use Rattle.ninja_file.specs.Names.{is_shown, is_path}

-- A text without control characters.
abbrev pub has_shown_bytes : List ℕ → Bool
has_shown_bytes text = list_all is_shown text

-- A flag holds no control character, and a source that is a path can be a path of Ninja. Statements name no other item
-- of a group as it stands.
abbrev pub is_written : (shape : Shape) → Held shape → Bool
is_written S.Flags flag = has_shown_bytes flag
is_written S.Sources source = names_module source || is_path source.item.text
is_written shape item = true

-- The names of modules can be paths of Ninja, what statements name of a record can be written, and its directories hold
-- no control character.
pub record AreWritable (ms : List Module) (nodes : List (Node Props)) : Type 0 where
  pub names : AllByRecursion (λ (m : Module). IsTrue (is_path m.name)) ms
  pub groups : AllByRecursion (λ (x : Node Props). HasOnly is_written x.payload.base) nodes
  pub includes :
      AllByRecursion
      (λ (x : Node Props). AllByRecursion (λ path. IsTrue (has_shown_bytes path)) x.payload.includes) nodes
