use Rattle.std.proofs.Common.{◌≡◌, map, take}
use Rattle.bp_ports.proofs.mem_store.given_paths.Given as goal

abbrev pub invariant-loop-file : goal.invariant-loop-file
invariant-loop-file l = map (λ path. path.now) l.paths.items ≡ map (λ file. file.0) (take l.file-index l.files)
