use Rattle.std.proofs.Common.{◌++◌, ap, ◌∙◌, List, ℕ}
use Rattle.std.specs.Str.{bytes_eq}
use Rattle.bp_props.specs.declared.props.Props.{Props}
use Rattle.indexmap.specs.IndexSet.{insert_all}
use Rattle.info_mutators.specs.Inside.{values_behind}
use Rattle.info_mutators.specs.Kept.{if_short}
use Rattle.info_mutators.proofs.Noted.{short_behind}
use Rattle.info_mutators.proofs.paths.note_own.Goals as goal

pub returns : goal.returns
returns c =
    let base = c.args.own.now.base in
    let first = values_behind c.args.seen.now.keys in
    let second = values_behind c.note_all.new.seen.keys in
    let third = values_behind c.note_all-2.new.seen.keys in
    let last = values_behind c.note_all-3.new.seen.keys in
    short_behind bytes_eq first second last base.local_include_dirs.items
    (base.export_include_dirs.items ++ base.include_dirs.items)
    (c.in_ok-note_all.ensures
    ∙ ap (λ (xs : List (List ℕ)). if_short (insert_all bytes_eq first xs))
    (c.items.ensures ∙ ap (λ (p : Props). p.base.local_include_dirs.items) c.given.ensures))
    (short_behind bytes_eq second third last base.export_include_dirs.items base.include_dirs.items
    (c.in_ok-note_all-2.ensures
    ∙ ap (λ (xs : List (List ℕ)). if_short (insert_all bytes_eq second xs))
    (c.items-2.ensures ∙ ap (λ (p : Props). p.base.export_include_dirs.items) c.given.ensures))
    (c.in_ok-note_all-3.ensures
    ∙ ap (λ (xs : List (List ℕ)). if_short (insert_all bytes_eq third xs))
    (c.items-3.ensures ∙ ap (λ (p : Props). p.base.include_dirs.items) c.given.ensures)))
