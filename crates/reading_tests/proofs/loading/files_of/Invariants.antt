use Rattle.std.proofs.Common.{◌≡◌, ◌≤◌, ◌^◌, map, length}
use Rattle.std.specs.List.{All}
use Rattle.bp_load.specs.Trees.{sources_given}
use Rattle.reading_tests.proofs.loading.files_of.Given as goal

abbrev pub invariant-loop-path : goal.invariant-loop-path
invariant-loop-path l =
    (map (λ f. f.0) (sources_given l.files.items) ≡ l.yielded) ×
    All (λ f. length f.1 ≤ 2 ^ 20) (sources_given l.files.items)
