use Rattle.std.proofs.Common.{subst}
use Rattle.std.specs.Option.{option_copied}
use Rattle.graph_picture.specs.End.{EndsWithout}
use Rattle.graph_picture.proofs.Runs.{refused_means}
use Rattle.graph_picture.proofs.program.draw.Goals as goal

pub returns : goal.returns
returns g c =
    refused_means c.args.bytes.now (option_copied c.args.focus) c.in-Err.error _ c.end_of.result c.in-Err.ensures
    (subst (λ owner. EndsWithout c.in-Err.error owner c.end_of.result) c.owner_of.ensures c.end_of.ensures)
