use Rattle.std.proofs.Common.{◌≡◌, drop, length}
use Rattle.std.specs.Option.{option_copied}
use Rattle.bp_ports.specs.Written.{total, held_after}
use Rattle.bp_ports.proofs.writes.latest.Given as goal

-- what the writes that are left make of what was found is what all of them make
abbrev pub invariant-loop-span : goal.invariant-loop-span
invariant-loop-span l = record {
  fits : total (drop l.span-index l.spans) ≡ length l.rest;
  same : held_after (drop l.span-index l.spans) l.rest l.path (option_copied l.found)
      ≡ held_after l.spans l.run l.path (option_copied l.held);
}
