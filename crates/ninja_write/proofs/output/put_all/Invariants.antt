use Rattle.std.proofs.Common.{◌≡◌, ◌++◌, drop}
use Rattle.std.specs.List.{flat_map}
use Rattle.ninja_write.proofs.output.put_all.Given as goal

-- what is there and the texts that are left are what is wanted
abbrev pub invariant-loop-one : goal.invariant-loop-one
invariant-loop-one g l =
    l.output ++ flat_map g.W.Written.text (drop l.one-index l.all) ≡ l.fn.output ++ flat_map g.W.Written.text l.all
