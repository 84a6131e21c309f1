use Rattle.std.proofs.Common.{◌≡◌, drop}
use Rattle.std.specs.List.{list_any}
use Rattle.source_patterns.specs.Patterns.{is_pattern}
use Rattle.source_patterns.proofs.patterns.has_pattern.Given as goal

abbrev pub invariant-loop-source : goal.invariant-loop-source
invariant-loop-source l =
    list_any (is_pattern l.dir) l.sources ≡ list_any (is_pattern l.dir) (drop l.source-index l.sources)
