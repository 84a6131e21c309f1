use Rattle.std.proofs.Common.{◌≡◌, ◌++◌, take, drop}
use Rattle.transition_rules.specs.Spelled.{list_with}
use Rattle.transition_rules.proofs.spelled.index_for.Given as goal

abbrev pub invariant-loop-i : goal.invariant-loop-i
invariant-loop-i l = list_with l.w l.list ≡ take l.i l.list ++ list_with l.w (drop l.i l.list)
