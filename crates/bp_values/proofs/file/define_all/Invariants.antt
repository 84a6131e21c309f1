use Rattle.std.proofs.Common.{◌≡◌, map, drop}
use Rattle.bp_parser.specs.Trees.{definition_of}
use Rattle.bp_values.specs.Inside.{known_of, inherited_by, IsConsistent}
use Rattle.bp_values.specs.Meaning.{after_definitions}
use Rattle.bp_values.proofs.file.define_all.Given as goal

abbrev pub invariant-defs : goal.invariant-defs
invariant-defs l = IsConsistent l.state
    × (inherited_by l.state ≡ inherited_by l.fn.state)
    × (after_definitions (inherited_by l.fn.state) (known_of l.fn.state) (map definition_of l.defs)
    ≡ after_definitions (inherited_by l.fn.state) (known_of l.state) (map definition_of (drop l.def-index l.defs)))
