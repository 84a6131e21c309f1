-- The texts of a record as a file for Ninja can hold them (Ninja manual, "Ninja file reference": a path or a value ends
-- with its line), and graphs and modules whose records hold no others.
use Rattle.std.specs.List.{AllByRecursion, AllPairs}
use Rattle.std.specs.Prelude.{ℕ, Bool, List, IsTrue, ◌≡◌, ◌≢◌, ◌≤◌, false, length}
use Rattle.bp_faults.specs.declared.limits.TheConstants.{MOST_MODULES}
use Rattle.bp_load.specs.ListFile.{is_listed}
use Rattle.bp_load.specs.Trees.{Source}
use Rattle.bp_props.specs.Fields as S
use Rattle.bp_props.specs.Groups.{HasOnly}
use Rattle.bp_props.specs.declared.fields.GroupProps.{GroupProps}
use Rattle.bp_props.specs.declared.group_id.GroupId.{GroupId}
use Rattle.bp_props.specs.declared.module.Module.{Module}
use Rattle.bp_props.specs.declared.props.Props.{Props}
use Rattle.build_actions.specs.Laws.{has_slash}
use Rattle.build_actions.specs.Variants.{AreOnAxes}
use Rattle.build_actions.specs.Writable.{has_shown_bytes, is_written}
use Rattle.graph_nodes.specs.declared.graph.Node.{Node}
use Rattle.ninja_file.specs.Names.{is_path}

-- Each of some directories has no control character.
abbrev pub AreShown : List (List ℕ) → Type 0
AreShown paths = AllByRecursion (λ path. IsTrue (has_shown_bytes path)) paths

-- Of a group's items directories become words of statements too, beside those that statements name as they stand.
abbrev pub is_writable : (shape : S.Shape) → S.Held shape → Bool
is_writable S.Dirs path = has_shown_bytes path
is_writable shape item = is_written shape item

-- The sources, flags and directories of a group can be written: it has no others.
abbrev pub HasTexts : GroupProps → Type 0
HasTexts g = HasOnly is_writable g

-- So can those of each group of some.
abbrev pub HaveTexts : List (GroupId × GroupProps) → Type 0
HaveTexts groups = AllByRecursion (λ (e : GroupId × GroupProps). HasTexts e.1) groups

-- So can those of a record: its own, those of its groups, and the directories that the mutators compute.
pub record HasSoundTexts (p : Props) : Type 0 where
  pub base : HasTexts p.base
  pub groups : HaveTexts p.groups
  pub exports : AreShown p.exports
  pub includes : AreShown p.includes

-- The variations of a node stand on their axes, and the texts of its record can be written.
pub record HasForm (x : Node Props) : Type 0 where
  pub axes : AreOnAxes x.vars
  pub texts : HasSoundTexts x.payload

-- So it is of each node of a graph.
abbrev pub HaveForms : List (Node Props) → Type 0
HaveForms nodes = AllByRecursion HasForm nodes

-- The texts of the record of each module can be written.
abbrev pub AreSound : List Module → Type 0
AreSound mods = AllByRecursion (λ (m : Module). HasSoundTexts m.props) mods

-- The paths of files are such as a list may have.
abbrev pub MayBeListed : List Source → Type 0
MayBeListed files = AllByRecursion (λ (f : Source). IsTrue (is_listed f.0)) files

-- The records of modules can be written, their names can be paths of Ninja without a slash, no two names are equal, and
-- there are no more than a tree may have.
pub record AreFormed (mods : List Module) : Type 0 where
  pub sound : AreSound mods
  pub paths : AllByRecursion (λ (m : Module). IsTrue (is_path m.name)) mods
  pub plain : AllByRecursion (λ (m : Module). has_slash m.name ≡ false) mods
  pub differ : AllPairs (λ (a b : Module). a.name ≢ b.name) mods
  pub few : length mods ≤ MOST_MODULES
