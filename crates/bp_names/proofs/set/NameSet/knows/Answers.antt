use Rattle.std.proofs.Common.{◌∙◌, ap}
use Rattle.bp_names.specs.Meaning.{knows}
use Rattle.bp_names.proofs.Keys.{known_here}
use Rattle.bp_names.proofs.set.NameSet.knows.Goals as goal

pub returns : goal.returns
returns c =
    c.contains.ensures ∙ known_here c.args.name.now c.self.inside.names.keys
    ∙ ap (λ names. knows names c.args.name.now) c.self.view_is
