use Rattle.std.proofs.Common.{◌-◌, length}
use Rattle.std.proofs.lemmas.Str.{IsCharBoundary-before_ascii}
use Rattle.ninja_lines.proofs.Glue.{dangling, last_ascii}
use Rattle.ninja_lines.proofs.joined_lines.without_dollar.Goals as goal

pub range-requires-clause-end_boundary : goal.range-requires-clause-end_boundary
range-requires-clause-end_boundary c =
    let last = last_ascii c.args.text.now (dangling c.args.text.now c.requires) in
    IsCharBoundary-before_ascii c.args.text.now (length c.args.text.now - 1) last.0 last.1
