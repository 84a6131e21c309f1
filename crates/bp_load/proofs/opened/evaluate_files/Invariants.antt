use Rattle.std.proofs.Common.{◌≡◌, map, length, drop}
use Rattle.bp_values.specs.Scopes.{pairs_of}
use Rattle.bp_load.specs.Trees.{placed_of}
use Rattle.bp_load.specs.Opened.{turn_of, no_turn, all_turned, IsBelow}
use Rattle.bp_load.proofs.opened.evaluate_files.Given as goal

abbrev pub invariant-loop-file : goal.invariant-loop-file
invariant-loop-file l =
    (all_turned (pairs_of l.fn.base) no_turn (map placed_of l.fn.files.items)
    ≡ all_turned (pairs_of l.fn.base) (turn_of l.evaluation) (drop (length l.yielded) (map placed_of l.fn.files.items)))
    × IsBelow (pairs_of l.fn.base) l.evaluation
