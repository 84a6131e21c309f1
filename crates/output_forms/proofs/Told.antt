-- The nodes of a graph with forms are told apart and can be written.
use Rattle.std.proofs.Common.{◌≡◌, List, [], ◌∷◌, refl, subst}
use Rattle.std.specs.Prelude.{IsTrue}
use Rattle.std.specs.List.{AllByRecursion, filter}
use Rattle.bp_faults.proofs.Lists.{all_map}
use Rattle.bp_props.specs.Fields as S
use Rattle.bp_props.specs.Fields.{Shape, Held, Items, group_by}
use Rattle.bp_props.specs.Groups.{group_filtered, HasOnly}
use Rattle.bp_props.specs.declared.fields.GroupProps.{GroupProps}
use Rattle.bp_props.specs.declared.module.Module.{Module}
use Rattle.bp_props.specs.declared.props.Props.{Props}
use Rattle.build_actions.specs.Laws.{AreDistinct, AreTold}
use Rattle.build_actions.specs.Variants.{AreOnAxes}
use Rattle.build_actions.specs.Writable.{AreWritable, has_shown_bytes, is_written}
use Rattle.graph_nodes.specs.declared.graph.Node.{Node}
use Rattle.output_forms.specs.Forms.{is_writable, HasTexts}
use Rattle.output_forms.specs.Forms.{HaveForms}
use Rattle.output_forms.specs.Forms.{AreFormed}
use Rattle.output_forms.proofs.Only.{passing, all_passing, list_passing}

axes : (nodes : List (Node Props)) → HaveForms nodes
    → AllByRecursion (λ (x : Node Props). AreOnAxes x.vars) nodes
axes [] h = tt
axes (x ∷ xs) h = (h.0.axes, axes xs h.1)

-- what statements name of a group can be written where all of it can
only_written : (g : GroupProps) → HasTexts g → HasOnly is_written g
only_written g h =
    let twice : (shape : Shape) (list : Items shape)
    → passing (is_written shape) (passing (is_writable shape) list) ≡ passing (is_writable shape) list =
    (λ shape list. list_passing (is_written shape) (passing (is_writable shape) list)
    (all_map (λ x. IsTrue (is_writable shape x)) (λ x. IsTrue (is_written shape x)) (written shape)
    (filter (is_writable shape) list.items) (all_passing (is_writable shape) list.items))) in
    let parts : group_filtered is_written (group_filtered is_writable g) ≡ group_filtered is_writable g = (λ i.
    group_by (λ shape field of. of g) (λ shape field of. twice shape (of g) i)) in
    subst (λ b. group_filtered is_written b ≡ b) h parts
  where
    written : (shape : Shape) (x : Held shape) → IsTrue (is_writable shape x) → IsTrue (is_written shape x)
    written S.Dirs x h = refl
    written shape x h = h

groups : (nodes : List (Node Props)) → HaveForms nodes
    → AllByRecursion (λ (x : Node Props). HasOnly is_written x.payload.base) nodes
groups [] h = tt
groups (x ∷ xs) h = (only_written x.payload.base h.0.texts.base, groups xs h.1)

includes : (nodes : List (Node Props)) → HaveForms nodes
    → AllByRecursion
    (λ (x : Node Props). AllByRecursion (λ path. IsTrue (has_shown_bytes path)) x.payload.includes) nodes
includes [] h = tt
includes (x ∷ xs) h = (h.0.texts.includes, includes xs h.1)

pub told : (mods : List Module) (nodes : List (Node Props)) → AreFormed mods → HaveForms nodes → AreDistinct nodes
    → AreTold mods nodes
told mods nodes formed forms distinct = record {
  names = formed.plain;
  names_differ = formed.differ;
  on_axes = axes nodes forms;
  distinct = distinct;
}

pub writable : (mods : List Module) (nodes : List (Node Props)) → AreFormed mods → HaveForms nodes
    → AreWritable mods nodes
writable mods nodes formed forms = record {
  names = formed.paths;
  groups = groups nodes forms;
  includes = includes nodes forms;
}
