use Rattle.std.proofs.Common.{rules, ◌≡◌, ◌++◌, ◌∷◌, [], map, ap, ◌∙◌}
use Rattle.std.proofs.lemmas.List.{map-append}
use Rattle.bp_parser.specs.Trees.{map_of, entry_of, entries_then, no_entry}
use Rattle.bp_parser.specs.declared.tree.Expr.{the_lemmas}
use Rattle.bp_parser.specs.declared.tree.Expr.TheViews.{the_lemmas as the_views}
use Rattle.bp_values.specs.Values.{map_entry_of}
use Rattle.bp_values.specs.Scopes.{pairs_of}
use Rattle.bp_values.specs.Inside.{known_of, is_noted, noted_entries}
use Rattle.bp_values.specs.Meaning.{raw_of}
use Rattle.bp_values.proofs.Noted.{entries_noted}
use Rattle.bp_values.proofs.Setting.{is_declared}
use Rattle.bp_values.proofs.file.declare.Goals as goal

pub returns-clause-known : goal.returns-clause-known
returns-clause-known c =
    let known = known_of c.args.state.now in
    let body = map_of c.args.body.now in
    let fields = map map_entry_of c.in_ok-entries.entries.items in
    let same : entries_then (map entry_of c.as_slice.result.now) no_entry ≡ body.entries =
    search (rules, the_lemmas, the_views) in
    let kept : map raw_of c.push.new.self.items
    ≡ known.modules ++ (record { kind = c.args.kind.now; at = c.args.at; entries = fields }) ∷ [] =
    ap (map raw_of) c.in_ok-push.ensures.items ∙ map-append raw_of c.args.state.now.modules.items _
    ∙ ap (λ k. known.modules ++ (record { kind = k; at = c.args.at; entries = fields }) ∷ []) c.in_ok-copy.ensures in
    is_declared (pairs_of c.args.state.now.scope) known.is_used (is_noted c.mark_entries.new.used) known.modules
    (map raw_of c.push.new.self.items)
    c.args.kind.now c.args.at body fields c.in_ok-entries.ensures
    (λ q. c.in_ok-mark_entries.ensures q
    ∙ ap (noted_entries (known.is_used q) q) same
    ∙ entries_noted body.entries (known.is_used q) q)
    kept
