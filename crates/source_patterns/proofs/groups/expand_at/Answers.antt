use Rattle.std.proofs.Common.{◌≡◌, ◌∙◌, ap, sym, get_or, length}
use Rattle.std.specs.List.{list_any}
use Rattle.std.proofs.lemmas.Option.{IfSome_then}
use Rattle.std.proofs.lemmas.List.{length-set}
use Rattle.std.proofs.lemmas.Result.{err_from_is_err_and}
use Rattle.bp_props.specs.declared.fields.GroupProps.{GroupProps}
use Rattle.bp_props.specs.declared.group_id.GroupId.{GroupId}
use Rattle.source_patterns.specs.Patterns.{is_pattern}
use Rattle.source_patterns.proofs.Gives.{if_each}
use Rattle.source_patterns.proofs.OneGroup.{unchanged_at, changed_at, stopped_at}
use Rattle.source_patterns.proofs.groups.expand_at.Goals as goal

pub returns-then-not-has_pattern-clause-gives : goal.returns-then-not-has_pattern-clause-gives
returns-then-not-has_pattern-clause-gives g c =
    let x = c.index-as_slice-index.result in
    let is : x ≡ get_or c.args.groups.now c.args.index x =
    c.index-as_slice-index.is ∙ ap (λ gs. get_or gs c.args.index x) c.as_slice.ensures in
    let none = ap (λ (y : GroupId × GroupProps). list_any (is_pattern c.args.dir.now) y.1.srcs.items)
    c.index-as_slice-index.is
    ∙ sym (c.has_pattern.ensures ∙ ap (list_any (is_pattern c.args.dir.now)) c.items.ensures)
    ∙ c.if-not-has_pattern.true in
    if_each (g.D.Directories.held c.args.dirs.now) _ (λ held.
    unchanged_at held c.args.dir.now c.args.groups.now c.args.index x c.requires.within is none)

pub returns-in_err-expand_group-clause-gives : goal.returns-in_err-expand_group-clause-gives
returns-in_err-expand_group-clause-gives g c =
    let x = c.index-as_slice-index.result in
    let is : x ≡ get_or c.args.groups.now c.args.index x =
    c.index-as_slice-index.is ∙ ap (λ gs. get_or gs c.args.index x) c.as_slice.ensures in
    let refused = err_from_is_err_and c.from_residual-in_err-expand_group.result
    c.from_residual-in_err-expand_group.ensures.1 in
    rw (refused.1, refused.2)
    (IfSome_then (g.D.Directories.held c.args.dirs.now) c.in_err-expand_group.ensures.gives (λ held given.
    stopped_at held c.args.dir.now c.args.groups.now c.args.index x c.requires.within is
    (λ (done : Unit {0}). c.expand_group.new.group) (λ (done : Unit {0}). c.args.groups.now) c.in_ok-more.more
    (c.in_ok-more.ensures
    ∙ sym (ap (λ (y : GroupId × GroupProps). y.1) c.index-as_slice-index.is)) c.in_err-expand_group.field-0.0 given))

pub returns-clause-gives : goal.returns-clause-gives
returns-clause-gives g c =
    let x = c.index-as_slice-index.result in
    let is : x ≡ get_or c.args.groups.now c.args.index x =
    c.index-as_slice-index.is ∙ ap (λ gs. get_or gs c.args.index x) c.as_slice.ensures in
    IfSome_then (g.D.Directories.held c.args.dirs.now) c.in_ok-expand_group.ensures.gives (λ held given.
    changed_at held c.args.dir.now c.args.groups.now c.args.index x c.requires.within is c.in_ok-more.more
    c.expand_group.new.group c.replace_at.new.self
    (c.in_ok-more.ensures ∙ sym (ap (λ (y : GroupId × GroupProps). y.1) c.index-as_slice-index.is))
    c.replace_at.ensures given)

pub returns-clause-size : goal.returns-clause-size
returns-clause-size g c =
    ap length (c.replace_at.ensures c.index-as_slice-index.result) ∙ length-set c.args.groups.now c.args.index _
