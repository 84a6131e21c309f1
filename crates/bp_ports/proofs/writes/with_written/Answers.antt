use Rattle.std.proofs.Common.{subst, sym}
use Rattle.std.specs.Str.{IsUtf8}
use Rattle.bp_ports.proofs.WrittenLemmas.{text-at, read-text}
use Rattle.bp_ports.proofs.writes.with_written.Goals as goal

pub unwrap-requires : goal.unwrap-requires
unwrap-requires c =
    read-text _ _ c.from_utf8.result _
    (subst IsUtf8 (sym c.split_at.ensures.front)
    (text-at c.args.spans.now c.loop-span.span-index _ c.loop-span.rest.now c.loop-span-test.true
    c.loop-span.invariant.texts))
    c.from_utf8.ensures.cases
