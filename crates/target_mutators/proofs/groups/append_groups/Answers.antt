use Rattle.std.proofs.Common.{◌≡◌, ◌∙◌, [], ap, sym}
use Rattle.std.proofs.lemmas.Bool.{eqb-true}
use Rattle.std.proofs.lemmas.List.{nil_from_length}
use Rattle.bp_props.specs.declared.group_id.GroupId.TheVariants as G
use Rattle.bp_props.specs.declared.props.Props.{Props}
use Rattle.target_mutators.proofs.Appended.{groups_next, no_groups}
use Rattle.target_mutators.proofs.groups.append_groups.Goals as goal

pub returns-then-is_empty-clause-appended : goal.returns-then-is_empty-clause-appended
returns-then-is_empty-clause-appended c =
    let none : c.as_slice.result.now ≡ [] =
    nil_from_length c.as_slice.result.now (eqb-true _ _ (sym c.if-is_empty.ensures)) in
    sym (no_groups c.args.made c.args.ids.now
    (c.requires ∙ ap (λ (p : Props). p.groups) (sym c.given.ensures) ∙ sym c.as_slice.ensures ∙ none))

pub loop-id-preserved : goal.loop-id-preserved
loop-id-preserved c = record {
  left =
      groups_next c.loop-id.all c.in_ok-all.all c.args.ids.now c.loop-id.id-index G.ArchArm c.loop-id-test.true
      c.in_ok-all.ensures.appended
      ∙ c.loop-id.invariant.left;
  groups = c.in_ok-all.ensures.groups;
}
