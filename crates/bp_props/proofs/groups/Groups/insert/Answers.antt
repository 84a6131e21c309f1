use Rattle.std.proofs.Common.{length, Ok, Err, ap, sym, ◌∙◌, arith, subst}
use Rattle.bp_props.specs.Groups.{Ascends, groups_with}
use Rattle.bp_props.proofs.Indices.{at_index, set_at, ascends_with}
use Rattle.bp_props.proofs.groups.Groups.insert.Goals as goal

pub index_mut-requires : goal.index_mut-requires
index_mut-requires c =
    let here = at_index c.self.inside.pairs.items _ c.args.id _
    (Ok c.in-Ok.index) c.self.invariant c.as_slice.ensures.value c.index_of_id.ensures c.in-Ok.is in
    let within = here.0 in
    let all = ap length c.as_slice.ensures.value in
    let count = c.as_slice.ensures.len in
    omega arith

pub returns-in-Ok-clause-ok : goal.returns-in-Ok-clause-ok
returns-in-Ok-clause-ok c =
    let here = at_index c.self.inside.pairs.items _ c.args.id _
    (Ok c.in-Ok.index) c.self.invariant c.as_slice.ensures.value c.index_of_id.ensures c.in-Ok.is in
    set_at _ c.args.id _ _ c.args.group here c.index_mut.ensures.value
    ∙ ap (λ groups. groups_with groups c.args.id c.args.group) c.self.view_is

pub invariant_of-self : goal.invariant_of-self
invariant_of-self c =
    let here = at_index c.self.inside.pairs.items _ c.args.id _
    (Ok c.in-Ok.index) c.self.invariant c.as_slice.ensures.value c.index_of_id.ensures c.in-Ok.is in
    subst Ascends (sym (set_at _ c.args.id _ _ c.args.group here c.index_mut.ensures.value))
    (ascends_with c.args.id c.args.group _ c.self.invariant)

pub insert_at-requires : goal.insert_at-requires
insert_at-requires c =
    let here = at_index c.self.inside.pairs.items _ c.args.id _
    (Err c.in-Err.index) c.self.invariant c.as_slice.ensures.value c.index_of_id.ensures c.in-Err.is in
    here.0

pub invariant_of-self-in-Continue-1 : goal.invariant_of-self-in-Continue-1
invariant_of-self-in-Continue-1 c =
    let here = at_index c.self.inside.pairs.items _ c.args.id _
    (Err c.in-Err.index) c.self.invariant c.as_slice.ensures.value c.index_of_id.ensures c.in-Err.is in
    subst Ascends (sym (c.in_ok-insert_at-in-Err.ensures.ok ∙ here.2 c.args.group))
    (ascends_with c.args.id c.args.group _ c.self.invariant)

pub returns-in_ok-insert_at-in-Err-clause-ok : goal.returns-in_ok-insert_at-in-Err-clause-ok
returns-in_ok-insert_at-in-Err-clause-ok c =
    let here = at_index c.self.inside.pairs.items _ c.args.id _
    (Err c.in-Err.index) c.self.invariant c.as_slice.ensures.value c.index_of_id.ensures c.in-Err.is in
    c.in_ok-insert_at-in-Err.ensures.ok ∙ here.2 c.args.group
    ∙ ap (λ groups. groups_with groups c.args.id c.args.group) c.self.view_is
