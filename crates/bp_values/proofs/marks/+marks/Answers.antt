use Rattle.std.proofs.Common.{rules, ◌≡◌, ℕ, List, map, ap, sym, subst, ◌∙◌}
use Rattle.std.specs.Prelude.{OnOk}
use Rattle.bp_parser.specs.Trees.{Tree, Sum, tree_of, term_of, terms_then, no_term}
use Rattle.bp_parser.specs.declared.tree.Expr.{Sum as CodeSum, the_lemmas}
use Rattle.bp_parser.specs.declared.tree.Expr.TheViews.{the_lemmas as the_views}
use Rattle.bp_values.specs.Inside.{is_noted, has_noted}
use Rattle.bp_values.proofs.Noted.{noted_sum}
use Rattle.bp_values.proofs.marks.+marks.Goals as goal

pub note_names-returns-in_ok-note_names-in-Sum : goal.note_names-returns-in_ok-note_names-in-Sum
note_names-returns-in_ok-note_names-in-Sum t c =
    let first = tree_of c.deref.result.now in
    let terms = terms_then (map term_of c.as_slice-in-Sum.result.now) no_term in
    let step : tree_of (CodeSum c.in-Sum.first c.in-Sum.terms)
    ≡ Sum (tree_of c.in-Sum.first.value) (terms_then (map term_of c.in-Sum.terms.items) no_term) =
    search (rules, the_lemmas, the_views) in
    let whole : tree_of c.args.expr.now ≡ Sum first terms =
    ap tree_of c.in-Sum.is
    ∙ step
    ∙ ap (λ v. Sum (tree_of v) (terms_then (map term_of c.in-Sum.terms.items) no_term)) (sym c.deref.ensures)
    ∙ ap (λ l. Sum first (terms_then (map term_of l) no_term)) (sym c.as_slice-in-Sum.ensures.value) in
    subst (λ (tree : Tree). OnOk c.note_terms.result
    ((q : List ℕ) → is_noted c.note_terms.new.used q ≡ has_noted (is_noted c.args.used.now q) q tree)) (sym whole)
    (noted_sum c.note_terms.result (is_noted c.args.used.now) (is_noted c.note_names.new.used)
    (is_noted c.note_terms.new.used) first terms c.in_ok-note_names-in-Sum.ensures c.note_terms.ensures)
