use Rattle.std.proofs.Common.{◌≡◌, ◌++◌, true, drop, length, map}
use Rattle.bp_ports.specs.Written.{total, written_paths, has_texts}
use Rattle.bp_ports.proofs.writes.with_written.Given as goal

-- the paths so far, and those that are left, are all
abbrev pub invariant-loop-span : goal.invariant-loop-span
invariant-loop-span l = record {
  fits : total (drop l.span-index l.spans) ≡ length l.rest;
  texts : has_texts (drop l.span-index l.spans) l.rest ≡ true;
  same : map (λ path. path.now) l.paths.items ++ written_paths (drop l.span-index l.spans) l.rest
      ≡ map (λ path. path.now) l.initial.paths.items ++ written_paths l.spans l.run;
}
