use Rattle.std.proofs.Common.{◌≡◌, false, drop}
use Rattle.ninja_lines.specs.Meaning.{dangles}
use Rattle.ninja_lines.proofs.joined_lines.dangles.Given as goal

-- what is left decides
abbrev pub invariant-loop-byte : goal.invariant-loop-byte
invariant-loop-byte l = dangles l.behind (drop l.byte-index l.text) ≡ dangles false l.text
