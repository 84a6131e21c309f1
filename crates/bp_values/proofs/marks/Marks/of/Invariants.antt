use Rattle.std.proofs.Common.{◌≡◌, ℕ, List, false, map, drop}
use Rattle.bp_parser.specs.Trees.{definition_of}
use Rattle.bp_names.specs.Meaning.{knows}
use Rattle.bp_values.specs.Inside.{is_extended_or}
use Rattle.bp_values.proofs.marks.Marks.of.Given as goal

abbrev pub invariant-defs : goal.invariant-defs
invariant-defs l = (q : List ℕ)
    → is_extended_or false q (map definition_of l.defs)
    ≡ is_extended_or (knows l.extended q) q (map definition_of (drop l.def-index l.defs))
