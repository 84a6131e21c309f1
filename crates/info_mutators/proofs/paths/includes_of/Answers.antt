use Rattle.std.proofs.Common.{arith, ap, ◌∙◌}
use Rattle.info_mutators.specs.Inside.{values_behind}
use Rattle.info_mutators.specs.Info.{includes_of}
use Rattle.info_mutators.proofs.Listed.{long_paths, short_paths, included}
use Rattle.info_mutators.proofs.paths.includes_of.Goals as goal

pub returns-then-len-gt-LONGEST_LINE : goal.returns-then-len-gt-LONGEST_LINE
returns-then-len-gt-LONGEST_LINE c =
    long_paths c.note_exported.new.seen.keys (includes_of c.args.own.now c.args.dependencies.now)
    (included c.args.own.now c.args.dependencies.now (values_behind c.new-seen.result.keys)
    (values_behind c.note_own.new.seen.keys) (values_behind c.note_exported.new.seen.keys)
    (ap values_behind c.new-seen.ensures.empty) c.in_ok-note_own.ensures c.in_ok-note_exported.ensures)
    (omega (arith, c.len.ensures.len, c.if-len-gt-LONGEST_LINE.true))

pub returns : goal.returns
returns c =
    short_paths c.note_exported.new.seen.keys (includes_of c.args.own.now c.args.dependencies.now)
    (included c.args.own.now c.args.dependencies.now (values_behind c.new-seen.result.keys)
    (values_behind c.note_own.new.seen.keys) (values_behind c.note_exported.new.seen.keys)
    (ap values_behind c.new-seen.ensures.empty) c.in_ok-note_own.ensures c.in_ok-note_exported.ensures)
    _
    (omega (arith, c.len.ensures.len, c.if-len-gt-LONGEST_LINE.false))
    (c.in_ok-copies.ensures ∙ ap values_behind c.as_slice.ensures.keys)
