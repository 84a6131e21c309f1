use Rattle.bp_format.proofs.SpanFacts.{span_facts}
use Rattle.bp_format.proofs.edit.edited.Goals as goal

pub range-requires-clause-end_boundary : goal.range-requires-clause-end_boundary
range-requires-clause-end_boundary c =
    (span_facts c.tokens_stand_within.ensures c.requires.listed.0 c.args.text.now c.args.tokens.now c.args.spot
    c.args.bounds c.requires.listed.1 c.requires.spanned).begins c.utf8.text

pub range_from-requires : goal.range_from-requires
range_from-requires c =
    λ some. (span_facts c.tokens_stand_within.ensures c.requires.listed.0 c.args.text.now c.args.tokens.now c.args.spot
    c.args.bounds c.requires.listed.1 c.requires.spanned).ends c.utf8.text
