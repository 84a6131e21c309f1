use Rattle.std.proofs.Common.{◌≡◌, ◌++◌, map}
use Rattle.bp_values.specs.Meaning.{raw_of}
use Rattle.bp_load.specs.Inherited.{placed_raw, in_directory}
use Rattle.bp_load.proofs.opened.put_modules.Given as goal

abbrev pub invariant-loop-module : goal.invariant-loop-module
invariant-loop-module l =
    map placed_raw l.modules.items ≡ map placed_raw l.fn.modules.items ++ in_directory l.dir (map raw_of l.yielded)
