use Rattle.std.proofs.Common.{ap, subst, ◌∙◌, ◌≡◌, ◌++◌, string_bytes, option_map}
use Rattle.std.specs.FinMap.{get}
use Rattle.std.specs.Option.{option_copied}
use Rattle.bp_faults.specs.declared.limits.TheConstants.{LARGEST_ORDER_FILE}
use Rattle.fault_view.specs.Unknown.{unknown_of}
use Rattle.fault_view.specs.View.{Softly, AreNearest, names_line, shown_of, bytes_within}
use Rattle.fault_view.proofs.Hints.{note_is}
use Rattle.fault_view.proofs.note.note.Goals as goal

pub returns-clause-exact : goal.returns-clause-exact
returns-clause-exact g c =
    let told = g.S.Store.files c.args.store.now in
    let line = c.args.line.now in
    let list = option_copied c.args.list in
    let first = g.S.Store.read_faults c.args.store.now in
    let second = g.S.Store.read_faults c.shown.new.store in
    let third = g.S.Store.read_faults c.names.new.store in
    note_is told list line first second third (string_bytes c.in-Some.text) _ c.in_ok-names.names.items
    c.shown.ensures.reads c.names.ensures.reads
    (c.in_ok-push_str.ensures.bytes
    ∙ ap (λ xs. string_bytes c.in-Some.text ++ xs)
    (c.as_str.ensures.value ∙ c.in_ok-names-2.ensures ∙ ap names_line c.deref.ensures.value))
    (subst (λ o. Softly told first second (λ files. option_map string_bytes o
    ≡ shown_of (bytes_within LARGEST_ORDER_FILE (get files line.path)) line)) c.in-Some.is c.in_ok-text.ensures.exact)
    (subst (λ t. Softly t second third
    (λ files. AreNearest list files line.path (unknown_of line) c.in_ok-names.names.items))
    c.shown.ensures.files c.in_ok-names.ensures.exact)
