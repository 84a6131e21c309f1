use Rattle.std.proofs.Common.{◌≡◌, ◌+◌, ◌++◌, [], drop}
use Rattle.graph_nodes.specs.Numbered.{by_number}
use Rattle.linkage_mutator.specs.Sources.{variant_of_source, with_sources}
use Rattle.linkage_mutator.proofs.per_source.by_source.Given as goal

-- each variant is made of the bare record, and what is left makes the others
abbrev pub invariant-loop-index : goal.invariant-loop-index
invariant-loop-index l = record {
  bare : l.bare ≡ with_sources l.own [];
  made : l.variants ++ by_number (variant_of_source l.own) (l.index + 1) (drop l.index l.sources)
      ≡ by_number (variant_of_source l.own) 1 l.sources;
}
