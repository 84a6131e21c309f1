use Rattle.std.proofs.Common.{◌≤◌, ◌+◌, ap, arith, subst, List, length, ◌∙◌, map, Err, ℕ, None, Some}
use Rattle.std.specs.List.{flat_map}
use Rattle.std.proofs.lemmas.List.FromFn.{length-map-range_with_len}
use Rattle.bp_faults.specs.declared.limits.TheConstants.{MOST_NODES}
use Rattle.variant_graphs.specs.Inside.{total, before, begins, counts_of, AnswersBegins, IsEdgeBeyond}
use Rattle.variant_graphs.specs.Splitting.{splitting}
use Rattle.variant_graphs.proofs.Assembled.{node_beyond, edge_found, within_limits, handed_on}
use Rattle.variant_graphs.proofs.assembly.split_graph.Goals as goal

pub returns-in_err-begins : goal.returns-in_err-begins
returns-in_err-begins g c =
    let s = splitting (g.S.Splitter.rule c.args.s.now) c.args.variants.items in
    let nodes = c.args.g.now.nodes in
    let e = c.in_err-begins.field-0.0 in
    let counts = c.deref-2.ensures.value ∙ c.in_ok-counts.ensures ∙ ap (map length) c.deref.ensures.value in
    handed_on s nodes e c.from_residual-in_err-begins.result c.from_residual-in_err-begins.ensures.0
    c.from_residual-in_err-begins.ensures.1
    (node_beyond s nodes c.requires.splits.many e
    (subst (λ (l : List ℕ). AnswersBegins l nodes (Err e)) counts c.in_err-begins.ensures))

pub returns-in-Some : goal.returns-in-Some
returns-in-Some g c =
    let s = splitting (g.S.Splitter.rule c.args.s.now) c.args.variants.items in
    let nodes = c.args.g.now.nodes in
    let counts = c.in_ok-counts.ensures ∙ ap (map length) c.deref.ensures.value in
    let few : total (counts_of s) ≤ MOST_NODES =
    subst (λ (l : List ℕ). total l ≤ MOST_NODES) (c.deref-2.ensures.value ∙ counts) c.in_ok-begins.ensures.1 in
    edge_found s nodes c.requires.splits c.in-Some.place few
    (subst (λ (l : List ℕ). IsEdgeBeyond l nodes (Some c.in-Some.place)) (c.deref-3.ensures.value ∙ counts)
    c.in-Some.ensures)

pub index-requires : goal.index-requires
index-requires g c =
    let begun = ap length c.in_ok-begins.ensures.0
    ∙ length-map-range_with_len (before c.deref-2.result.now) 0 (length c.deref-2.result.now + 1) in
    let counts = ap length c.deref-2.ensures.value in
    omega arith

pub make_nodes-requires-clause-numbering : goal.make_nodes-requires-clause-numbering
make_nodes-requires-clause-numbering g c =
    let s = splitting (g.S.Splitter.rule c.args.s.now) c.args.variants.items in
    let counts = c.deref-2.ensures.value ∙ c.in_ok-counts.ensures ∙ ap (map length) c.deref.ensures.value in
    record {
      begins = c.in_ok-begins.ensures.0 ∙ ap begins counts;
      few = subst (λ (l : List ℕ). total l ≤ MOST_NODES) counts c.in_ok-begins.ensures.1;
      variations = c.in_ok-variations.ensures ∙ ap (flat_map (map s.variation)) c.deref-4.ensures.value;
      differ = c.requires.splits.differ;
      within = c.requires.splits.within;
    }

pub returns : goal.returns
returns g c =
    let s = splitting (g.S.Splitter.rule c.args.s.now) c.args.variants.items in
    let nodes = c.args.g.now.nodes in
    let counts = c.in_ok-counts.ensures ∙ ap (map length) c.deref.ensures.value in
    let few : total (counts_of s) ≤ MOST_NODES =
    subst (λ (l : List ℕ). total l ≤ MOST_NODES) (c.deref-2.ensures.value ∙ counts) c.in_ok-begins.ensures.1 in (
      c.new.ensures ∙ c.in_ok-nodes.ensures,
      within_limits s nodes c.requires.splits few
          (subst (λ (l : List ℕ). IsEdgeBeyond l nodes None) (c.deref-3.ensures.value ∙ counts)
          (subst (λ o. IsEdgeBeyond c.deref-3.result.now nodes o) c.in_default.is c.edge_beyond.ensures)),
    )
