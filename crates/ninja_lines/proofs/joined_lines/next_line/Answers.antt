use Rattle.std.proofs.Common.{ap, sym, ◌∙◌, false}
use Rattle.ninja_lines.specs.Meaning.{dangles}
use Rattle.ninja_lines.proofs.JoinedAt.{one_not_text, one_whole}
use Rattle.ninja_lines.proofs.joined_lines.next_line.Goals as goal

pub returns-in_default : goal.returns-in_default
returns-in_default c =
    one_not_text c.args.lines.now c.args.at _ c.not_text.result c.requires.within c.in_default.ensures
    c.not_text.ensures

pub returns-else-dangles : goal.returns-else-dangles
returns-else-dangles c =
    one_whole c.args.lines.now c.args.at _ c.whole_line.result c.in-Some.line.now c.requires.within c.in-Some.ensures.0
    c.in-Some.ensures.1
    (ap (dangles false) (sym c.as_bytes.ensures.value) ∙ sym c.if-dangles.ensures) c.whole_line.ensures
