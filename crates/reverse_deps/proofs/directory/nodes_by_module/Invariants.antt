use Rattle.std.proofs.Common.{◌≡◌, ◌<◌, ℕ, length, take, get_or, []}
use Rattle.reverse_deps.specs.Inside.{nodes_of}
use Rattle.reverse_deps.proofs.directory.nodes_by_module.Given as goal

abbrev pub invariant-loop-n : goal.invariant-loop-n
invariant-loop-n g l = record {
  many : length l.lists.items ≡ length l.mods;
  each : (m : ℕ) → m < length l.mods → get_or l.lists.items m [] ≡ nodes_of (take l.n l.g.nodes) m;
}
