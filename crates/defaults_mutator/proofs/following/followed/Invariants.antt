use Rattle.std.proofs.Common.{◌≡◌, map, drop}
use Rattle.std.specs.Arc.{arc_value}
use Rattle.defaults_mutator.specs.Inside.{records_behind}
use Rattle.defaults_mutator.specs.Merged.{records_followed, defaults_given}
use Rattle.defaults_mutator.proofs.following.followed.Given as goal

-- what is left follows the record so far
abbrev pub invariant-loop-index : goal.invariant-loop-index
invariant-loop-index l =
    records_behind l.all (defaults_given (drop l.index l.edges) (map arc_value (drop l.index l.ins)))
    ≡ records_followed (defaults_given l.edges (map arc_value l.ins))
