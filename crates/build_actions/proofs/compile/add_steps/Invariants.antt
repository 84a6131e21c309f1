use Rattle.std.proofs.Common.{◌≡◌, ◌++◌, take}
use Rattle.build_actions.specs.Compiles.{compile_steps}
use Rattle.build_actions.proofs.compile.add_steps.Given as goal

abbrev pub invariant-loop-file : goal.invariant-loop-file
invariant-loop-file l =
    l.statements.items ≡ l.fn.statements.items ++ compile_steps l.compiler (take l.file-index l.files)
