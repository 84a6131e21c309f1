use Rattle.std.proofs.Common.{◌≡◌, ◌++◌, drop, option_map}
use Rattle.ninja_lines.specs.Shown.{texts}
use Rattle.ninja_read.specs.Heads.{paths_of}
use Rattle.ninja_read.proofs.head.paths.Given as goal

-- the paths that are there and those of the words that are left are all
abbrev pub invariant-loop-word : goal.invariant-loop-word
invariant-loop-word l =
    option_map (λ more. l.paths.items ++ more) (paths_of (texts (drop l.word-index l.words))) ≡ paths_of (texts l.words)
