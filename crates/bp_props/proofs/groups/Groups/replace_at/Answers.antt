use Rattle.std.proofs.Common.{length, get_or, set, ap, ◌∙◌, arith}
use Rattle.bp_faults.proofs.Lists.{same_at}
use Rattle.bp_props.specs.declared.fields.GroupProps.{GroupProps}
use Rattle.bp_props.specs.declared.group_id.GroupId.{GroupId}
use Rattle.bp_props.proofs.Indices.{ascends_replaced}
use Rattle.bp_props.proofs.groups.Groups.replace_at.Goals as goal

pub invariant_of-self : goal.invariant_of-self
invariant_of-self c =
    ascends_replaced c.self.inside.pairs.items c.args.index c.index_mut.result.now c.args.group
    (omega (arith, c.requires, ap length c.self.view_is)) c.index_mut.ensures.value c.self.invariant

pub returns : goal.returns
returns c d =
    ap (λ (e : GroupId × GroupProps). set c.self.inside.pairs.items c.args.index (e.0, c.args.group))
    (c.index_mut.ensures.value
    ∙ same_at c.self.inside.pairs.items c.args.index c.index_mut.result.now d
    (omega (arith, c.requires, ap length c.self.view_is)))
    ∙ ap (λ groups. set groups c.args.index ((get_or groups c.args.index d).0, c.args.group)) c.self.view_is
