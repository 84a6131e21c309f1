use Rattle.std.proofs.Common.{◌+◌}
use Rattle.bp_format.proofs.Listed.{start_within, in_order}
use Rattle.bp_format.proofs.layout.gap_behind.Goals as goal

pub has_line_end-requires-clause-order : goal.has_line_end-requires-clause-order
has_line_end-requires-clause-order c =
    in_order c.requires.listed.0 c.args.text.now c.args.tokens.now c.args.at _ c.requires.listed.1 c.if-at-tokens.true

pub has_line_end-requires-clause-within : goal.has_line_end-requires-clause-within
has_line_end-requires-clause-within c =
    rw c.as_bytes.ensures.value (start_within c.lists_have_tokens.ensures c.requires.listed.0 c.args.text.now
    c.args.tokens.now (c.args.at + 1) _ c.requires.listed.1 c.if-at-tokens.true)
