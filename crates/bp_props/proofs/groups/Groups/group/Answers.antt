use Rattle.std.proofs.Common.{length, Some, Ok, Err, ap, sym, ◌∙◌, arith}
use Rattle.bp_props.specs.Groups.{group_of}
use Rattle.bp_props.proofs.Indices.{at_index}
use Rattle.bp_props.proofs.groups.Groups.group.Goals as goal

pub index-requires : goal.index-requires
index-requires c =
    let here = at_index c.self.inside.pairs.items _ c.args.id _
    (Ok c.in-Ok.index) c.self.invariant c.as_slice.ensures.value c.index_of_id.ensures c.in-Ok.is in
    let within = here.0 in
    let all = ap length c.as_slice.ensures.value in
    let count = c.as_slice.ensures.len in
    omega arith

pub returns-in-Ok : goal.returns-in-Ok
returns-in-Ok c =
    let here = at_index c.self.inside.pairs.items _ c.args.id _
    (Ok c.in-Ok.index) c.self.invariant c.as_slice.ensures.value c.index_of_id.ensures c.in-Ok.is in
    ap (λ e. Some e.1) c.index.ensures ∙ sym (here.1 c.index.result.now)
    ∙ ap (λ groups. group_of groups c.args.id) c.self.view_is

pub returns-in-Err : goal.returns-in-Err
returns-in-Err c =
    let here = at_index c.self.inside.pairs.items _ c.args.id _
    (Err c.in-Err.field-0) c.self.invariant c.as_slice.ensures.value c.index_of_id.ensures c.in-Err.is in
    sym here.1 ∙ ap (λ groups. group_of groups c.args.id) c.self.view_is
