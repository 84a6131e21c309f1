use Rattle.std.proofs.Common.{◌≡◌, ◌∙◌, subst, sym, map}
use Rattle.std.specs.Arc.{arc_value}
use Rattle.variant_graphs.specs.Splits.{IsSplitting}
use Rattle.variant_graphs.specs.Splitting.{splitting, split_nodes}
use Rattle.variant_graphs.specs.Limits.{IsWithinLimits}
use Rattle.mutator_kinds.specs.BottomUp.{rule_along}
use Rattle.mutator_kinds.proofs.Fit.{is_splitting, asks_nothing, split_passed}
use Rattle.std.proofs.lemmas.List.{length-map}
use Rattle.mutator_kinds.proofs.results.graph_of_variants.Goals as goal

pub split_graph-requires-clause-splits : goal.split_graph-requires-clause-splits
split_graph-requires-clause-splits g c =
    subst (λ lists. IsSplitting (splitting (rule_along c.args.axis) lists) c.args.g.now.nodes)
    (sym c.in_ok-lists.ensures)
    (is_splitting c.args.axis c.args.g.now.nodes (map arc_value c.args.outs.items)
    (length-map c.args.outs.items arc_value ∙ c.requires.many) c.requires.fit.differ)

pub returns-in_err-graph : goal.returns-in_err-graph
returns-in_err-graph g c =
    split_passed _ c.args.g.now.nodes
    (map arc_value c.args.outs.items) c.args.axis c.in_ok-lists.lists.items c.in_err-graph.field-0.0
    c.from_residual-in_err-graph.result c.in_ok-lists.ensures c.in_err-graph.ensures
    c.from_residual-in_err-graph.ensures.0 c.from_residual-in_err-graph.ensures.1

pub returns : goal.returns
returns g c =
    let made = subst (λ lists.
    (c.in_ok-graph.graph.nodes ≡ split_nodes (splitting (rule_along c.args.axis) lists) c.args.g.now.nodes)
    × IsWithinLimits (split_nodes (splitting (rule_along c.args.axis) lists) c.args.g.now.nodes)) c.in_ok-lists.ensures
    c.in_ok-graph.ensures in (
      made.1,
      made.0,
      c.new.ensures.items
          ∙ asks_nothing c.args.axis (map arc_value c.args.outs.items) c.requires.fit.shaped,
    )
