use Rattle.std.proofs.Common.{◌≡◌, ◌++◌, take}
use Rattle.std.specs.Prelude.{codes}
use Rattle.std.specs.List.{flat_map}
use Rattle.build_parts.specs.Variables.{include_word}
use Rattle.build_parts.proofs.variables.add_includes.Given as goal

abbrev pub invariant-loop-path : goal.invariant-loop-path
invariant-loop-path l =
    l.line ≡ l.fn.line ++ flat_map (λ path. codes " " ++ include_word path) (take l.path-index l.paths)
