use Rattle.std.proofs.Common.{ap, ◌∙◌}
use Rattle.std.specs.Str.{bytes_eq}
use Rattle.bp_props.specs.declared.props.Props.{Props}
use Rattle.indexmap.specs.IndexSet.{insert_all}
use Rattle.info_mutators.specs.Inside.{values_behind}
use Rattle.info_mutators.proofs.Listed.{exported}
use Rattle.info_mutators.proofs.exports.exports_of.Goals as goal

pub returns : goal.returns
returns c =
    c.in_ok-copies.ensures ∙ ap values_behind c.as_slice.ensures.keys
    ∙ exported c.args.own.now c.args.dependencies.now (values_behind c.new-seen.result.keys)
    (values_behind c.note_all.new.seen.keys) (values_behind c.note_all_handed_on.new.seen.keys)
    (ap values_behind c.new-seen.ensures.empty)
    (c.in_ok-note_all.ensures ∙ ap (insert_all bytes_eq (values_behind c.new-seen.result.keys))
    (c.items.ensures ∙ ap (λ (p : Props). p.base.export_include_dirs.items) c.given.ensures))
    (c.in_ok-note_all_handed_on.ensures c.args.own.now c.in_ok-names.ensures)
