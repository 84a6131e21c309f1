use Rattle.std.proofs.Common.{◌∙◌, ap, sym, ◌∷◌, []}
use Rattle.source_patterns.specs.Patterns.{tail_behind}
use Rattle.source_patterns.proofs.Behind.{tail_apart}
use Rattle.source_patterns.proofs.patterns.tail_below.Goals as goal

pub returns : goal.returns
returns c =
    c.tail_behind-2.ensures ∙ ap (tail_behind (47 ∷ [])) c.tail_behind.ensures
    ∙ tail_apart c.args.dir.now c.args.path.now (sym c.is_empty.ensures ∙ c.if-is_empty.false)
