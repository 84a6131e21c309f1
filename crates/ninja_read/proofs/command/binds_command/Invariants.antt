use Rattle.std.proofs.Common.{◌≡◌, map, drop}
use Rattle.ninja_lines.specs.Shown.{shown_line}
use Rattle.ninja_read.specs.Meaning.{binds_command}
use Rattle.ninja_read.proofs.command.binds_command.Given as goal

-- what is left decides
abbrev pub invariant-loop-line : goal.invariant-loop-line
invariant-loop-line l =
    binds_command (map shown_line (drop l.line-index l.lines)) ≡ binds_command (map shown_line l.lines)
